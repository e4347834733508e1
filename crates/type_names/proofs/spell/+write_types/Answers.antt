use Rattle.std.proofs.Common.{◌≡◌, ◌-◌, ◌+◌, ◌<◌, ◌∙◌, ℕ, suc, Option, Some, Err, sym, ap, arith, subst}
use Rattle.std.specs.Prelude.{codes}
use Rattle.std.proofs.lemmas.Result.{err_from_is_err_and}
use Rattle.std.proofs.lemmas.Option.{slice_get_within}
use Rattle.ds_base.specs.DwarfNumbers.{DW_AT_containing_type}
use Rattle.dwarf_types.specs.declared.value.Value.{Value}
use Rattle.dwarf_types.specs.Moves.{value_of}
use Rattle.type_names.specs.Children.{next_listed}
use Rattle.type_names.specs.Entries.{Text}
use Rattle.type_names.specs.Spell.{◌&◌, made_by, parameter_in, parameters_in, spelled_target, spelled_within, subranges_in, type_in}
use Rattle.type_names.specs.Onto.{Writes, may_open, onto, spelled_in}
use Rattle.type_names.proofs.Reading.{IsReading, left_of, parameters_read, reading_child, reading_ends, reading_falls, reading_more, reading_stops}
use Rattle.type_names.proofs.Texts.{joined, opened, stopped}
use Rattle.type_names.proofs.spell.+write_types.Goals as goal

pub write_made-returns-in_err-write_made_by : goal.write_made-returns-in_err-write_made_by
write_made-returns-in_err-write_made_by t c =
    let spelled : ℕ → Option Text = spelled_in c.args.types.now c.args.levels in
    let p = err_from_is_err_and c.from_residual.result c.from_residual.ensures.1 in
    rw (p.1, p.2) (stopped c.args.out.now.items _ _ (made_by c.args.entry.now.tag) (type_in spelled c.args.entry.now) _ (rw c.tag.ensures at c.in_err-write_made_by.ensures))

pub write_made-returns : goal.write_made-returns
write_made-returns t c =
    let spelled : ℕ → Option Text = spelled_in c.args.types.now c.args.levels in
    joined c.args.out.now.items _ _ (made_by c.args.entry.now.tag) (type_in spelled c.args.entry.now) _ (rw c.tag.ensures at c.in_ok-write_made_by.ensures)
    (subst (λ (value : Option Value). Writes c.write_target.result c.write_target.new.out.items (onto c.write_made_by.new.out.items (spelled_target spelled value))) c.value_of.ensures c.write_target.ensures)

pub write_type_after-returns-in_err-write : goal.write_type_after-returns-in_err-write
write_type_after-returns-in_err-write t c =
    let spelled : ℕ → Option Text = spelled_in c.args.types.now c.args.levels in
    let p = err_from_is_err_and c.from_residual.result c.from_residual.ensures.1 in
    rw (p.1, p.2) (stopped c.args.out.now.items _ _ (Some c.args.text.now) (type_in spelled c.args.entry.now) _ c.in_err-write.ensures)

pub write_type_after-returns : goal.write_type_after-returns
write_type_after-returns t c =
    let spelled : ℕ → Option Text = spelled_in c.args.types.now c.args.levels in
    joined c.args.out.now.items _ _ (Some c.args.text.now) (type_in spelled c.args.entry.now) _ c.in_ok-write.ensures
    (subst (λ (value : Option Value). Writes c.write_target.result c.write_target.new.out.items (onto c.write.new.out.items (spelled_target spelled value))) c.value_of.ensures c.write_target.ensures)

pub write_listed-returns-in_err-write_target : goal.write_listed-returns-in_err-write_target
write_listed-returns-in_err-write_target t c =
    let spelled : ℕ → Option Text = spelled_in c.args.types.now c.args.levels in
    let p = err_from_is_err_and c.from_residual.result c.from_residual.ensures.1 in
    rw (p.1, p.2) (stopped c.args.out.now.items _ _ (type_in spelled c.args.entry.now) (Some (codes ";")) _ (rw c.value_of.ensures at c.in_err-write_target.ensures))

pub write_listed-returns : goal.write_listed-returns
write_listed-returns t c =
    let spelled : ℕ → Option Text = spelled_in c.args.types.now c.args.levels in
    joined c.args.out.now.items _ _ (type_in spelled c.args.entry.now) (Some (codes ";")) _ (rw c.value_of.ensures at c.in_ok-write_target.ensures) c.write.ensures

pub write_type-returns : goal.write_type-returns
write_type-returns t c =
    let types = c.args.types.now in
    let one_more : c.args.levels ≡ suc (c.args.levels - 1) = omega arith in
    let told = opened (c.args.levels - 1) (may_open types) types.entries.now c.args.k c.entry.result (sym c.may_open.ensures ∙ c.if-not-may_open.false) c.entry.ensures.stands in
    subst (λ (text : Option Text). Writes c.write_entry.result c.write_entry.new.out.items (onto c.args.out.now.items text)) (sym told ∙ ap (λ (n : ℕ). spelled_within n (may_open types) types.entries.now c.args.k) (sym one_more)) c.write_entry.ensures

pub write_member_pointer-returns-in_err-write : goal.write_member_pointer-returns-in_err-write
write_member_pointer-returns-in_err-write t c =
    let p = err_from_is_err_and c.from_residual.result c.from_residual.ensures.1 in
    rw (p.1, p.2) (stopped c.args.out.now.items _ _ (Some (codes "m")) _ _ c.in_err-write.ensures)

pub write_member_pointer-returns-in_err-write_target : goal.write_member_pointer-returns-in_err-write_target
write_member_pointer-returns-in_err-write_target t c =
    let spelled : ℕ → Option Text = spelled_in c.args.types.now c.args.levels in
    let middle : Option Text = spelled_target spelled (value_of DW_AT_containing_type c.args.entry.now) in
    let rest : Option Text = Some (codes ",") & type_in spelled c.args.entry.now in
    let p = err_from_is_err_and c.from_residual-in_err-write_target.result c.from_residual-in_err-write_target.ensures.1 in
    let e = c.in_err-write_target.field-0.0 in
    let new = c.write_target.new.out.items in
    rw (p.1, p.2) (joined {A = Unit {0}} c.args.out.now.items c.write.new.out.items new (Some (codes "m")) (middle & rest) (Err e) c.in_ok-write.ensures
    (stopped c.write.new.out.items new new middle rest e (rw c.value_of.ensures at c.in_err-write_target.ensures)))

pub write_member_pointer-returns : goal.write_member_pointer-returns
write_member_pointer-returns t c =
    let spelled : ℕ → Option Text = spelled_in c.args.types.now c.args.levels in
    let middle : Option Text = spelled_target spelled (value_of DW_AT_containing_type c.args.entry.now) in
    let rest : Option Text = Some (codes ",") & type_in spelled c.args.entry.now in
    let new = c.write_type_after.new.out.items in
    let r = c.write_type_after.result in
    joined {A = Unit {0}} c.args.out.now.items c.write.new.out.items new (Some (codes "m")) (middle & rest) r c.in_ok-write.ensures
    (joined {A = Unit {0}} c.write.new.out.items c.write_target.new.out.items new middle rest r (rw c.value_of.ensures at c.in_ok-write_target.ensures) c.write_type_after.ensures)

pub write_array-returns-in_err-write : goal.write_array-returns-in_err-write
write_array-returns-in_err-write t c =
    let p = err_from_is_err_and c.from_residual.result c.from_residual.ensures.1 in
    rw (p.1, p.2) (stopped c.args.out.now.items _ _ (Some (codes "[")) _ _ c.in_err-write.ensures)

pub write_array-returns-in_err-write_subranges : goal.write_array-returns-in_err-write_subranges
write_array-returns-in_err-write_subranges t c =
    let spelled : ℕ → Option Text = spelled_in c.args.types.now c.args.levels in
    let middle : Option Text = subranges_in c.args.types.now.entries.now c.args.k in
    let rest : Option Text = Some (codes "]") & type_in spelled c.args.entry.now in
    let p = err_from_is_err_and c.from_residual-in_err-write_subranges.result c.from_residual-in_err-write_subranges.ensures.1 in
    let e = c.in_err-write_subranges.field-0.0 in
    let new = c.write_subranges.new.out.items in
    rw (p.1, p.2) (joined {A = Unit {0}} c.args.out.now.items c.write.new.out.items new (Some (codes "[")) (middle & rest) (Err e) c.in_ok-write.ensures
    (stopped c.write.new.out.items new new middle rest e c.in_err-write_subranges.ensures))

pub write_array-returns : goal.write_array-returns
write_array-returns t c =
    let spelled : ℕ → Option Text = spelled_in c.args.types.now c.args.levels in
    let middle : Option Text = subranges_in c.args.types.now.entries.now c.args.k in
    let rest : Option Text = Some (codes "]") & type_in spelled c.args.entry.now in
    let new = c.write_type_after.new.out.items in
    let r = c.write_type_after.result in
    joined {A = Unit {0}} c.args.out.now.items c.write.new.out.items new (Some (codes "[")) (middle & rest) r c.in_ok-write.ensures
    (joined {A = Unit {0}} c.write.new.out.items c.write_subranges.new.out.items new middle rest r c.in_ok-write_subranges.ensures c.write_type_after.ensures)

pub write_subroutine-returns-in_err-write : goal.write_subroutine-returns-in_err-write
write_subroutine-returns-in_err-write t c =
    let p = err_from_is_err_and c.from_residual.result c.from_residual.ensures.1 in
    rw (p.1, p.2) (stopped c.args.out.now.items _ _ (Some (codes "(")) _ _ c.in_err-write.ensures)

pub write_subroutine-returns-in_err-write_parameters : goal.write_subroutine-returns-in_err-write_parameters
write_subroutine-returns-in_err-write_parameters t c =
    let spelled : ℕ → Option Text = spelled_in c.args.types.now c.args.levels in
    let middle : Option Text = parameters_in spelled c.args.types.now.entries.now c.args.k in
    let rest : Option Text = Some (codes ")") & type_in spelled c.args.entry.now in
    let p = err_from_is_err_and c.from_residual-in_err-write_parameters.result c.from_residual-in_err-write_parameters.ensures.1 in
    let e = c.in_err-write_parameters.field-0.0 in
    let new = c.write_parameters.new.out.items in
    rw (p.1, p.2) (joined {A = Unit {0}} c.args.out.now.items c.write.new.out.items new (Some (codes "(")) (middle & rest) (Err e) c.in_ok-write.ensures
    (stopped c.write.new.out.items new new middle rest e c.in_err-write_parameters.ensures))

pub write_subroutine-returns : goal.write_subroutine-returns
write_subroutine-returns t c =
    let spelled : ℕ → Option Text = spelled_in c.args.types.now c.args.levels in
    let middle : Option Text = parameters_in spelled c.args.types.now.entries.now c.args.k in
    let rest : Option Text = Some (codes ")") & type_in spelled c.args.entry.now in
    let new = c.write_type_after.new.out.items in
    let r = c.write_type_after.result in
    joined {A = Unit {0}} c.args.out.now.items c.write.new.out.items new (Some (codes "(")) (middle & rest) r c.in_ok-write.ensures
    (joined {A = Unit {0}} c.write.new.out.items c.write_parameters.new.out.items new middle rest r c.in_ok-write_parameters.ensures c.write_type_after.ensures)

pub write_parameters-entry-requires : goal.write_parameters-entry-requires
write_parameters-entry-requires t c =
    let child = reading_child ((parameter_in (spelled_in c.args.types.now c.args.levels))) c.args.types.now.entries.now c.args.k c.in-Some.j c.loop-child.out.items (onto c.args.out.now.items (parameters_in (spelled_in c.args.types.now c.args.levels) c.args.types.now.entries.now c.args.k)) (subst (λ (o : Option ℕ). IsReading (parameter_in (spelled_in c.args.types.now c.args.levels)) c.args.types.now.entries.now c.args.k o c.loop-child.out.items (onto c.args.out.now.items (parameters_in (spelled_in c.args.types.now c.args.levels) c.args.types.now.entries.now c.args.k))) c.in-Some.is c.loop-child.invariant) in
    slice_get_within c.args.types.now.entries.now c.in-Some.j child.entry child.stands

pub write_parameters-next_listed-child-requires-clause-held : goal.write_parameters-next_listed-child-requires-clause-held
write_parameters-next_listed-child-requires-clause-held t c = reading_child ((parameter_in (spelled_in c.args.types.now c.args.levels))) c.args.types.now.entries.now c.args.k c.in-Some.j c.loop-child.out.items (onto c.args.out.now.items (parameters_in (spelled_in c.args.types.now c.args.levels) c.args.types.now.entries.now c.args.k)) (subst (λ (o : Option ℕ). IsReading (parameter_in (spelled_in c.args.types.now c.args.levels)) c.args.types.now.entries.now c.args.k o c.loop-child.out.items (onto c.args.out.now.items (parameters_in (spelled_in c.args.types.now c.args.levels) c.args.types.now.entries.now c.args.k))) c.in-Some.is c.loop-child.invariant)

pub write_parameters-loop-child-smaller : goal.write_parameters-loop-child-smaller
write_parameters-loop-child-smaller t c =
    let entries = c.args.types.now.entries.now in
    let falls : left_of entries c.next_listed-child.result < left_of entries c.loop-child.child =
    subst (λ (o : Option ℕ). left_of entries o < left_of entries c.loop-child.child) (sym c.next_listed-child.ensures)
    (subst (λ (o : Option ℕ). left_of entries (next_listed entries c.args.k (c.in-Some.j + 1)) < left_of entries o) (sym c.in-Some.is) (reading_falls ((parameter_in (spelled_in c.args.types.now c.args.levels))) c.args.types.now.entries.now c.args.k c.in-Some.j c.loop-child.out.items (onto c.args.out.now.items (parameters_in (spelled_in c.args.types.now c.args.levels) c.args.types.now.entries.now c.args.k)) (subst (λ (o : Option ℕ). IsReading (parameter_in (spelled_in c.args.types.now c.args.levels)) c.args.types.now.entries.now c.args.k o c.loop-child.out.items (onto c.args.out.now.items (parameters_in (spelled_in c.args.types.now c.args.levels) c.args.types.now.entries.now c.args.k))) c.in-Some.is c.loop-child.invariant))) in
    falls

pub write_parameters-loop-child-preserved : goal.write_parameters-loop-child-preserved
write_parameters-loop-child-preserved t c =
    subst (λ (o : Option ℕ). IsReading (parameter_in (spelled_in c.args.types.now c.args.levels)) c.args.types.now.entries.now c.args.k o c.write_parameter.new.out.items (onto c.args.out.now.items (parameters_in (spelled_in c.args.types.now c.args.levels) c.args.types.now.entries.now c.args.k))) (sym c.next_listed-child.ensures)
    (reading_more ((parameter_in (spelled_in c.args.types.now c.args.levels))) c.args.types.now.entries.now c.args.k c.in-Some.j c.entry.result c.loop-child.out.items c.write_parameter.new.out.items (onto c.args.out.now.items (parameters_in (spelled_in c.args.types.now c.args.levels) c.args.types.now.entries.now c.args.k)) c.entry.ensures.stands c.in_ok-write_parameter.ensures (subst (λ (o : Option ℕ). IsReading (parameter_in (spelled_in c.args.types.now c.args.levels)) c.args.types.now.entries.now c.args.k o c.loop-child.out.items (onto c.args.out.now.items (parameters_in (spelled_in c.args.types.now c.args.levels) c.args.types.now.entries.now c.args.k))) c.in-Some.is c.loop-child.invariant))

pub write_parameters-returns-in_err-write_parameter : goal.write_parameters-returns-in_err-write_parameter
write_parameters-returns-in_err-write_parameter t c =
    let p = err_from_is_err_and c.from_residual.result c.from_residual.ensures.1 in
    let e = c.in_err-write_parameter.field-0.0 in
    rw (p.1, p.2) (reading_stops ((parameter_in (spelled_in c.args.types.now c.args.levels))) c.args.types.now.entries.now c.args.k c.in-Some.j c.entry.result c.loop-child.out.items c.write_parameter.new.out.items (onto c.args.out.now.items (parameters_in (spelled_in c.args.types.now c.args.levels) c.args.types.now.entries.now c.args.k)) e c.entry.ensures.stands (subst (λ (o : Option ℕ). IsReading (parameter_in (spelled_in c.args.types.now c.args.levels)) c.args.types.now.entries.now c.args.k o c.loop-child.out.items (onto c.args.out.now.items (parameters_in (spelled_in c.args.types.now c.args.levels) c.args.types.now.entries.now c.args.k))) c.in-Some.is c.loop-child.invariant) c.in_err-write_parameter.ensures)

pub write_parameters-returns : goal.write_parameters-returns
write_parameters-returns t c =
    let ended = subst (λ (o : Option ℕ). IsReading (parameter_in (spelled_in c.args.types.now c.args.levels)) c.args.types.now.entries.now c.args.k o c.loop-child.out.items (onto c.args.out.now.items (parameters_in (spelled_in c.args.types.now c.args.levels) c.args.types.now.entries.now c.args.k))) c.in_default.is c.loop-child.invariant in
    subst (Writes c.write.result c.write.new.out.items) (reading_ends ((parameter_in (spelled_in c.args.types.now c.args.levels))) c.args.types.now.entries.now c.args.k c.loop-child.out.items (onto c.args.out.now.items (parameters_in (spelled_in c.args.types.now c.args.levels) c.args.types.now.entries.now c.args.k)) ended) c.write.ensures

pub write_parameters-loop-child-init : goal.write_parameters-loop-child-init
write_parameters-loop-child-init t c = record {
  at = 0;
  is = c.first_listed-child.ensures;
  rest = ap (onto c.args.out.now.items) (parameters_read (spelled_in c.args.types.now c.args.levels) c.args.types.now.entries.now c.args.k);
}
