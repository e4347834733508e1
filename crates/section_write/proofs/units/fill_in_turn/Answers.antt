use Rattle.std.proofs.Common.{◌≡◌, ◌<◌, ◌+◌, length, ap, sym, arith}
use Rattle.ds_base.proofs.Adding.{adds_more, adds_same, adds_whole}
use Rattle.section_write.specs.Emitting.{bytes_between}
use Rattle.section_write.proofs.Between.{bytes_more, read_draft, size_added, size_before, size_more}
use Rattle.section_write.proofs.Drafts.{within_graph}
use Rattle.section_write.proofs.UnitByUnit.{unit_is, unit_of, unit_of_is}
use Rattle.section_write.proofs.units.fill_in_turn.Goals as goal

pub add_unit-at-requires-clause-fits : goal.add_unit-at-requires-clause-fits
add_unit-at-requires-clause-fits c =
    let m = c.requires.measured in
    let u = c.loop-unit.unit in
    let inside : u < length c.args.layout.now.drafts = omega (arith, c.loop-unit-test.true, c.requires.within) in
    let so_far = size_added c.args.layout.now c.args.first u c.args.room.now c.loop-unit.room c.loop-unit.at m c.loop-unit.auto.unit (omega (arith, inside)) c.loop-unit.invariant in
    let more = size_more c.args.layout.now c.args.first u c.loop-unit.at _ so_far inside (read_draft c.args.layout.now c.drafts-drafts.result.now u c.index-drafts-unit.result c.drafts-drafts.ensures inside) in
    let le = size_before c.args.layout.now c.args.first (u + 1) c.args.end (length c.args.room.now) _ c.requires more (omega (arith, c.loop-unit-test.true)) in
    omega (arith, le, c.loop-unit.auto.room)

pub loop-unit-preserved : goal.loop-unit-preserved
loop-unit-preserved c = λ graph measured.
    let u = c.loop-unit.unit in
    let lt = within_graph graph c.args.layout.now u measured (omega (arith, c.loop-unit-test.true, c.requires.within)) in
    adds_same _ _ _ _ _ _ (sym (bytes_more graph c.args.first u (unit_of graph u) c.loop-unit.auto.unit lt (unit_of_is graph u lt)))
    (adds_more _ _ _ _ _ _ _ _ (c.loop-unit.invariant graph measured) (c.add_unit-at.ensures graph (unit_of graph u) measured (unit_is graph u lt)))

pub returns : goal.returns
returns c = record {
  bytes = λ graph measured.
      let end : c.loop-unit.unit ≡ c.args.end = omega (arith, c.loop-unit-test.false, c.requires.ordered, c.loop-unit.auto.unit-end) in
      adds_whole _ _ _ _ (c.requires.bytes graph measured) (adds_same _ _ _ _ _ _ (ap (bytes_between graph c.args.first) end) (c.loop-unit.invariant graph measured));
}
