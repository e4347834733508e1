use Rattle.std.proofs.Common.{refl, sym, ◌∙◌}
use Rattle.std.proofs.lemmas.Result.{err_from_is_err_and}
use Rattle.stab_map.specs.declared.stab.Stab.TheVariants as stabs
use Rattle.stab_map.proofs.StabPass.{inside_ends, inside_function, inside_static, inside_global, inside_unknown, inside_silent, outside_object, outside_passed}
use Rattle.stab_map.proofs.pass.step_inside.Goals as goal

pub returns-in_err-open_object-in-Object : goal.returns-in_err-open_object-in-Object
returns-in_err-open_object-in-Object c =
    let p = err_from_is_err_and c.from_residual-in_err-open_object-in-Object.result c.from_residual-in_err-open_object-in-Object.ensures.1 in
    let e = sym c.requires ∙ c.in-Object.is in
    rw (p.1, p.2) (λ rest. inside_ends _ _ _ _ _ rest _ (rw e refl) ∙ outside_object _ _ _ _ rest e ∙ rw c.in_err-open_object-in-Object.ensures refl)

pub returns-in_ok-open_object-in-Object : goal.returns-in_ok-open_object-in-Object
returns-in_ok-open_object-in-Object c =
    let e = sym c.requires ∙ c.in-Object.is in
    rw (c.in_ok-push-in-Object.ensures.ok, c.in_ok-object-in-Object.ensures)
    (λ rest. sym (inside_ends _ _ _ _ _ rest _ (rw e refl) ∙ outside_object _ _ _ _ rest e ∙ rw c.in_ok-open_object-in-Object.ensures refl))

pub returns-in_ok-push-in-End : goal.returns-in_ok-push-in-End
returns-in_ok-push-in-End c =
    let e = sym c.requires ∙ c.in-End.is in
    rw (c.in_ok-push-in-End.ensures.ok, c.in_ok-object-in-End.ensures)
    (λ rest. sym (inside_ends _ _ _ _ _ rest _ (rw e refl) ∙ outside_passed _ _ _ _ rest stabs.End e refl))

pub returns-in-Function : goal.returns-in-Function
returns-in-Function c = λ rest. sym (inside_function _ _ _ _ _ rest _ (sym c.requires ∙ c.in-Function.is))

pub returns-in_ok-with_entry-in-Static : goal.returns-in_ok-with_entry-in-Static
returns-in_ok-with_entry-in-Static c =
    rw (c.in_ok-with_entry-in-Static.ensures, c.in_ok-entry-in-Static.ensures) (λ rest. sym (inside_static _ _ _ _ _ rest _ (sym c.requires ∙ c.in-Static.is)))

pub returns-in_ok-with_entry-in-Some : goal.returns-in_ok-with_entry-in-Some
returns-in_ok-with_entry-in-Some c =
    rw (c.in_ok-with_entry-in-Some.ensures, c.in_ok-entry-in-Some.ensures)
    (λ rest. sym (inside_global _ _ _ _ _ rest _ _ (sym c.requires ∙ c.in-Global.is) (sym c.in-Some.ensures.value)))

pub returns-in-None : goal.returns-in-None
returns-in-None c = λ rest. sym (inside_unknown _ _ _ _ _ rest _ (sym c.requires ∙ c.in-Global.is) (sym c.in-None.ensures.value))

pub returns-in-Size : goal.returns-in-Size
returns-in-Size c = λ rest. sym (inside_silent _ _ _ _ _ rest _ c.args.stab (sym c.requires) c.in-Size.is)
