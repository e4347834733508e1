use Rattle.std.proofs.Common.{refl, sym, ◌∙◌}
use Rattle.std.proofs.lemmas.Result.{err_from_is_err_and}
use Rattle.macho_read.specs.Seen.{symbol_seen}
use Rattle.stab_map.proofs.StabPass.{outside_object}
use Rattle.stab_map.proofs.pass.step_outside.Goals as goal

pub returns-in_err-open_object-in-Object : goal.returns-in_err-open_object-in-Object
returns-in_err-open_object-in-Object c =
    let p = err_from_is_err_and c.from_residual.result c.from_residual.ensures.1 in
    λ address objects. rw (p.1, p.2) (λ rest. outside_object address objects c.args.index (symbol_seen c.args.symbol) rest (sym c.requires ∙ c.in-Object.is) ∙ rw c.in_err-open_object-in-Object.ensures refl)

pub returns-in_ok-open_object-in-Object : goal.returns-in_ok-open_object-in-Object
returns-in_ok-open_object-in-Object c =
    λ address objects rest. sym (outside_object address objects c.args.index (symbol_seen c.args.symbol) rest (sym c.requires ∙ c.in-Object.is) ∙ rw c.in_ok-open_object-in-Object.ensures refl)
