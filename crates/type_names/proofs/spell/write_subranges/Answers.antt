use Rattle.std.proofs.Common.{◌+◌, ◌<◌, ℕ, Option, sym, subst}
use Rattle.std.proofs.lemmas.Result.{err_from_is_err_and}
use Rattle.std.proofs.lemmas.Option.{slice_get_within}
use Rattle.type_names.specs.Children.{next_listed}
use Rattle.type_names.specs.Onto.{Writes, onto}
use Rattle.type_names.specs.Spell.{subrange_in, subranges_in}
use Rattle.type_names.proofs.Reading.{IsReading, left_of, reading_child, reading_ends, reading_falls, reading_more, reading_stops}
use Rattle.type_names.proofs.spell.write_subranges.Goals as goal

pub entry-requires : goal.entry-requires
entry-requires c =
    let child = reading_child (subrange_in) c.args.types.now.entries.now c.args.k c.in-Some.j c.loop-child.out.items (onto c.args.out.now.items (subranges_in c.args.types.now.entries.now c.args.k)) (subst (λ (o : Option ℕ). IsReading subrange_in c.args.types.now.entries.now c.args.k o c.loop-child.out.items (onto c.args.out.now.items (subranges_in c.args.types.now.entries.now c.args.k))) c.in-Some.is c.loop-child.invariant) in
    slice_get_within c.args.types.now.entries.now c.in-Some.j child.entry child.stands

pub next_listed-child-requires-clause-held : goal.next_listed-child-requires-clause-held
next_listed-child-requires-clause-held c = reading_child (subrange_in) c.args.types.now.entries.now c.args.k c.in-Some.j c.loop-child.out.items (onto c.args.out.now.items (subranges_in c.args.types.now.entries.now c.args.k)) (subst (λ (o : Option ℕ). IsReading subrange_in c.args.types.now.entries.now c.args.k o c.loop-child.out.items (onto c.args.out.now.items (subranges_in c.args.types.now.entries.now c.args.k))) c.in-Some.is c.loop-child.invariant)

pub loop-child-smaller : goal.loop-child-smaller
loop-child-smaller c =
    let entries = c.args.types.now.entries.now in
    let falls : left_of entries c.next_listed-child.result < left_of entries c.loop-child.child =
    subst (λ (o : Option ℕ). left_of entries o < left_of entries c.loop-child.child) (sym c.next_listed-child.ensures)
    (subst (λ (o : Option ℕ). left_of entries (next_listed entries c.args.k (c.in-Some.j + 1)) < left_of entries o) (sym c.in-Some.is) (reading_falls (subrange_in) c.args.types.now.entries.now c.args.k c.in-Some.j c.loop-child.out.items (onto c.args.out.now.items (subranges_in c.args.types.now.entries.now c.args.k)) (subst (λ (o : Option ℕ). IsReading subrange_in c.args.types.now.entries.now c.args.k o c.loop-child.out.items (onto c.args.out.now.items (subranges_in c.args.types.now.entries.now c.args.k))) c.in-Some.is c.loop-child.invariant))) in
    falls

pub loop-child-preserved : goal.loop-child-preserved
loop-child-preserved c =
    subst (λ (o : Option ℕ). IsReading subrange_in c.args.types.now.entries.now c.args.k o c.write_subrange.new.out.items (onto c.args.out.now.items (subranges_in c.args.types.now.entries.now c.args.k))) (sym c.next_listed-child.ensures)
    (reading_more (subrange_in) c.args.types.now.entries.now c.args.k c.in-Some.j c.entry.result c.loop-child.out.items c.write_subrange.new.out.items (onto c.args.out.now.items (subranges_in c.args.types.now.entries.now c.args.k)) c.entry.ensures.stands c.in_ok-write_subrange.ensures (subst (λ (o : Option ℕ). IsReading subrange_in c.args.types.now.entries.now c.args.k o c.loop-child.out.items (onto c.args.out.now.items (subranges_in c.args.types.now.entries.now c.args.k))) c.in-Some.is c.loop-child.invariant))

pub returns-in_err-write_subrange : goal.returns-in_err-write_subrange
returns-in_err-write_subrange c =
    let p = err_from_is_err_and c.from_residual.result c.from_residual.ensures.1 in
    let e = c.in_err-write_subrange.field-0.0 in
    rw (p.1, p.2) (reading_stops (subrange_in) c.args.types.now.entries.now c.args.k c.in-Some.j c.entry.result c.loop-child.out.items c.write_subrange.new.out.items (onto c.args.out.now.items (subranges_in c.args.types.now.entries.now c.args.k)) e c.entry.ensures.stands (subst (λ (o : Option ℕ). IsReading subrange_in c.args.types.now.entries.now c.args.k o c.loop-child.out.items (onto c.args.out.now.items (subranges_in c.args.types.now.entries.now c.args.k))) c.in-Some.is c.loop-child.invariant) c.in_err-write_subrange.ensures)

pub returns : goal.returns
returns c =
    let ended = subst (λ (o : Option ℕ). IsReading subrange_in c.args.types.now.entries.now c.args.k o c.loop-child.out.items (onto c.args.out.now.items (subranges_in c.args.types.now.entries.now c.args.k))) c.in_default.is c.loop-child.invariant in
    subst (Writes c.write.result c.write.new.out.items) (reading_ends (subrange_in) c.args.types.now.entries.now c.args.k c.loop-child.out.items (onto c.args.out.now.items (subranges_in c.args.types.now.entries.now c.args.k)) ended) c.write.ensures
