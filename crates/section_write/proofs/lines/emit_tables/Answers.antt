use Rattle.std.proofs.Common.{◌≡◌, ◌≤◌, ◌<◌, ◌+◌, ◌∙◌, Some, ap, get_or, length, refl, slice_get, sym, arith}
use Rattle.std.proofs.lemmas.Option.{get_or_from_slice_get, slice_get_read}
use Rattle.ds_base.proofs.Adding.{adds_same}
use Rattle.dwarf_types.specs.declared.graph.OutUnit.{OutUnit}
use Rattle.dwarf_types.specs.Encode.{over_units}
use Rattle.layout.specs.Pass.{line_len, nothing}
use Rattle.section_write.proofs.Drafts.{within_graph}
use Rattle.section_write.proofs.UnitByUnit.{all_adds, next_fits, unit_adds, unit_is, unit_of, unit_of_is, units_few}
use Rattle.section_write.specs.Tables.{table_in}
use Rattle.section_write.proofs.LineTables.{table_size, tables_over}
use Rattle.section_write.proofs.lines.emit_tables.Goals as goal

pub overflow_cast-u : goal.overflow_cast-u
overflow_cast-u c =
    let m = c.requires.measured in
    let lt : c.loop-u.u < length m.graph.units = within_graph m.graph c.args.layout.now c.loop-u.u m.measured (omega (arith, c.loop-u-test.true, ap length c.drafts-draft-items.ensures)) in
    omega (arith, lt, units_few m.graph c.args.layout.now m.measured)

pub add_table-at-requires-clause-size : goal.add_table-at-requires-clause-size
add_table-at-requires-clause-size c = λ draft there.
    let d = c.draft-item.result in
    let same : d ≡ draft = c.draft-item.is ∙ ap (λ ds. get_or ds c.loop-u.u d) c.drafts-draft-items.ensures ∙ get_or_from_slice_get c.args.layout.now.drafts c.loop-u.u draft d there in
    sym (c.len.ensures nothing) ∙ ap line_len same

pub add_table-at-requires-clause-fits : goal.add_table-at-requires-clause-fits
add_table-at-requires-clause-fits c =
    let m = c.requires.measured in
    let u = c.loop-u.u in
    let d = c.draft-item.result in
    let drafts = c.args.layout.now.drafts in
    let inside : u < length drafts = omega (arith, c.loop-u-test.true, ap length c.drafts-draft-items.ensures) in
    let lt : u < length m.graph.units = within_graph m.graph c.args.layout.now u m.measured inside in
    let there : slice_get drafts u ≡ Some d = slice_get_read drafts (length drafts) u d refl inside (c.draft-item.is ∙ ap (λ ds. get_or ds u d) c.drafts-draft-items.ensures) in
    let len = table_size m.graph c.args.layout.now u (unit_of m.graph u) d m.measured (unit_is m.graph u lt) there in
    let whole : c.args.start + length (over_units m.graph (λ v (unit : OutUnit). table_in m.graph unit)) ≤ length c.args.room.now = omega (arith, c.requires.fits m.graph m.measured, ap length (tables_over m.graph)) in
    let fits =
    next_fits m.graph (λ v (unit : OutUnit). table_in m.graph unit) u c.args.room.now c.loop-u.room c.args.start c.loop-u.at (c.loop-u.invariant m.graph m.measured) (unit_of m.graph u) lt (unit_of_is m.graph u lt) whole in
    omega (arith, len, c.len.ensures nothing, fits)

pub loop-u-preserved : goal.loop-u-preserved
loop-u-preserved c = λ graph measured.
    let u = c.loop-u.u in
    let lt : u < length graph.units = within_graph graph c.args.layout.now u measured (omega (arith, c.loop-u-test.true, ap length c.drafts-draft-items.ensures)) in
    unit_adds graph (λ v (unit : OutUnit). table_in graph unit) u (unit_of graph u) lt (unit_of_is graph u lt) _ _ _ _ _ _ (c.loop-u.invariant graph measured) (c.add_table-at.ensures graph (unit_of graph u) measured (unit_is graph u lt))

pub returns : goal.returns
returns c = λ graph measured.
    adds_same _ _ _ _ _ _ (tables_over graph)
    (all_adds graph (λ v (unit : OutUnit). table_in graph unit) c.loop-u.u _ _ _ _ (c.loop-u.invariant graph measured) (omega (arith, c.loop-u-test.false, ap length c.drafts-draft-items.ensures, measured.3.count)))
