use Rattle.std.proofs.Common.{◌<◌, ◌*◌, ◌++◌, arith, get_or, length, replicate}
use Rattle.std.proofs.lemmas.List.{length-map}
use Rattle.dwarf_types.specs.declared.entry.RawEntry.{RawEntry}
use Rattle.dwarf_types.specs.declared.place_table.TheConstants.{STEP}
use Rattle.dwarf_types.specs.Raw.{places_of}
use Rattle.dwarf_types.proofs.Placing.{places_rise, rank_le, table_more}
use Rattle.dwarf_types.proofs.place_table.PlaceTable.of.Goals as goal

pub overflow_cast-i : goal.overflow_cast-i
overflow_cast-i c =
    let places = places_of c.args.entries.now in
    let lt : c.loop-i.i < length places = omega (arith, c.loop-i-test.true, c.len-i-end.ensures, length-map c.args.entries.now (λ (e : RawEntry). e.place)) in
    omega (arith, rank_le places (places_rise c.args.entries.now c.requires) c.loop-i.i lt, c.place_of.ensures, c.place_of.type_inv)

pub loop-i-preserved : goal.loop-i-preserved
loop-i-preserved c =
    let places = places_of c.args.entries.now in
    let more = c.add_steps.ensures.more in
    let lt : c.loop-i.i < length places = omega (arith, c.loop-i-test.true, c.len-i-end.ensures, length-map c.args.entries.now (λ (e : RawEntry). e.place)) in
    let low : get_or places c.loop-i.i 0 < STEP * length (c.loop-i.before.items ++ replicate more.0 c.loop-i.i) = rw (← more.1) (omega (arith, c.place_of.ensures, c.in_ok-add_steps.ensures.enough)) in
    rw more.1 (table_more places c.loop-i.before.items c.loop-i.i more.0 (places_rise c.args.entries.now c.requires) lt low c.loop-i.invariant)
