use Rattle.std.proofs.Common.{◌<◌, length, arith, subst, sym}
use Rattle.std.proofs.lemmas.Result.{err_from_is_err_and}
use Rattle.ds_base.proofs.Refusals.{refused_from_gives, refused_gives}
use Rattle.dwarf_types.specs.SectionBytes.{bytes_in}
use Rattle.object_view.specs.Attributes.{unit_with_lines}
use Rattle.object_view.specs.Seen.{opened_seen}
use Rattle.object_view.specs.Ready.{HasRoot, IsLinesInside}
use Rattle.object_view.proofs.EachOf.{changed_none, changed_more, changed_err, changed_all, unchanged}
use Rattle.object_view.proofs.line_tables.read_each.Goals as goal

pub loop-unit-init : goal.loop-unit-init
loop-unit-init c =
    let meant = unit_with_lines (opened_seen c.args.object.now) c.args.map.now c.args.entries.now in
    changed_none meant c.args.units.now

pub returns-in_err-read_unit_lines : goal.returns-in_err-read_unit_lines
returns-in_err-read_unit_lines c =
    let p = err_from_is_err_and c.from_residual.result c.from_residual.ensures.1 in
    let lt : c.loop-unit.unit-index < length c.loop-unit.units = omega arith in
    let meant = unit_with_lines (opened_seen c.args.object.now) c.args.map.now c.args.entries.now in
    let r = refused_from_gives (λ (_ : Unit {0}). c.read_unit_lines.new.unit) _ _ c.in_err-read_unit_lines.ensures in
    let h = changed_err meant c.args.units.now c.loop-unit.units c.loop-unit.unit-index c.unit-item.result lt c.loop-unit.invariant _ r in
    rw (p.1, p.2) (search (refused_gives, h))

pub loop-unit-preserved : goal.loop-unit-preserved
loop-unit-preserved c =
    let lt : c.loop-unit.unit-index < length c.loop-unit.units = omega arith in
    let meant = unit_with_lines (opened_seen c.args.object.now) c.args.map.now c.args.entries.now in
    changed_more meant c.args.units.now c.loop-unit.units c.loop-unit.unit-index c.unit-item.result lt c.loop-unit.invariant c.read_unit_lines.new.unit c.in_ok-read_unit_lines.ensures

pub returns : goal.returns
returns c =
    let meant = unit_with_lines (opened_seen c.args.object.now) c.args.map.now c.args.entries.now in
    changed_all meant c.args.units.now c.loop-unit.units c.loop-unit.unit-index (omega arith) c.loop-unit.invariant

pub read_unit_lines-requires-clause-inside : goal.read_unit_lines-requires-clause-inside
read_unit_lines-requires-clause-inside c =
    let lt : c.loop-unit.unit-index < length c.loop-unit.units = omega arith in
    let meant = unit_with_lines (opened_seen c.args.object.now) c.args.map.now c.args.entries.now in
    let same = unchanged meant c.args.units.now c.loop-unit.units c.loop-unit.unit-index c.unit-item.result lt c.loop-unit.invariant in
    let long = c.loop-unit.invariant.long in
    subst (IsLinesInside (bytes_in c.args.object.now.sections) c.args.entries.now) (sym same) (c.requires.inside c.loop-unit.unit-index c.unit-item.result (omega (arith, lt, long)))

pub read_unit_lines-requires-clause-root : goal.read_unit_lines-requires-clause-root
read_unit_lines-requires-clause-root c =
    let lt : c.loop-unit.unit-index < length c.loop-unit.units = omega arith in
    let meant = unit_with_lines (opened_seen c.args.object.now) c.args.map.now c.args.entries.now in
    let same = unchanged meant c.args.units.now c.loop-unit.units c.loop-unit.unit-index c.unit-item.result lt c.loop-unit.invariant in
    let long = c.loop-unit.invariant.long in
    subst (HasRoot (length c.args.entries.now)) (sym same) (c.requires.roots c.loop-unit.unit-index c.unit-item.result (omega (arith, lt, long)))
