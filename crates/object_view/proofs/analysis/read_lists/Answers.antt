use Rattle.std.proofs.Common.{ℕ, length}
use Rattle.dwarf_types.specs.SectionBytes.{bytes_in}
use Rattle.object_view.specs.Seen.{opened_seen}
use Rattle.object_view.specs.Ready.{IsListAttr, base_at, context_among}
use Rattle.object_view.specs.Stages.{range_meant, tables_in}
use Rattle.object_view.proofs.Fitting.{all_listed_there, all_marked_listed, marked_units, ranges_listed, step_units}
use Rattle.object_view.proofs.analysis.read_lists.Goals as goal

pub change_entries-requires-clause-fits : goal.change_entries-requires-clause-fits
change_entries-requires-clause-fits c =
    let count = length c.args.tables.now.units.now in
    let version : ℕ → ℕ = λ unit. (context_among c.args.tables.now.units.now unit).version in
    let sections = bytes_in c.args.object.now.sections in
    rw c.in_ok-mark_all.ensures
    (all_listed_there count (λ unit a. IsListAttr sections (version unit) a) _ (marked_units count c.args.entries.now c.requires.units) (all_marked_listed sections version c.args.entries.now c.requires.fits))

pub change_entries-requires-2-clause-fits : goal.change_entries-requires-2-clause-fits
change_entries-requires-2-clause-fits c =
    let count = length c.args.tables.now.units.now in
    let version : ℕ → ℕ = λ unit. (context_among c.args.tables.now.units.now unit).version in
    let sections = bytes_in c.args.object.now.sections in
    let o = opened_seen c.args.object.now in
    all_listed_there count (λ unit a. IsListAttr sections (version unit) a) _
    (step_units (range_meant o c.args.map.now (tables_in c.args.tables.now) c.args.bases.now) count c.mark_all.new.entries c.change_entries.new.entries c.in_ok-change_entries.ensures
    (rw c.in_ok-mark_all.ensures (marked_units count c.args.entries.now c.requires.units)))
    (ranges_listed sections version o c.args.map.now (context_among c.args.tables.now.units.now) (base_at c.args.bases.now)
    c.mark_all.new.entries c.change_entries.new.entries c.in_ok-change_entries.ensures
    (rw c.in_ok-mark_all.ensures (all_marked_listed sections version c.args.entries.now c.requires.fits)))
