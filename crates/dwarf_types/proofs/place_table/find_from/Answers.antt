use Rattle.std.proofs.Common.{◌<◌, arith, length, sym}
use Rattle.std.proofs.lemmas.List.{length-map}
use Rattle.dwarf_types.specs.declared.entry.RawEntry.{RawEntry}
use Rattle.dwarf_types.specs.Raw.{places_of}
use Rattle.dwarf_types.proofs.Placing.{all_before, found_there, passed_over}
use Rattle.dwarf_types.proofs.place_table.find_from.Goals as goal

pub returns-then-there-place-2 : goal.returns-then-there-place-2
returns-then-there-place-2 c =
    let lt : c.loop-i.i < length (places_of c.args.entries.now) = omega (arith, c.loop-i-test.true, c.len-i-end.ensures, length-map c.args.entries.now (λ (e : RawEntry). e.place)) in
    sym (found_there (places_of c.args.entries.now) c.args.place c.loop-i.i c.loop-i.invariant lt (omega (arith, c.place_of-there.ensures)))

pub returns-else-there-place-2 : goal.returns-else-there-place-2
returns-else-there-place-2 c =
    let lt : c.loop-i.i < length (places_of c.args.entries.now) = omega (arith, c.loop-i-test.true, c.len-i-end.ensures, length-map c.args.entries.now (λ (e : RawEntry). e.place)) in
    sym (passed_over (places_of c.args.entries.now) c.args.place c.loop-i.i c.requires.rise c.loop-i.invariant lt (omega (arith, c.place_of-there.ensures)))

pub returns : goal.returns
returns c =
    let count = length-map c.args.entries.now (λ (e : RawEntry). e.place) in
    sym (all_before (places_of c.args.entries.now) c.args.place (λ k lt. c.loop-i.invariant k (omega (arith, count, lt)) lt))
