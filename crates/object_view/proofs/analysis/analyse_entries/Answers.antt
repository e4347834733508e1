use Rattle.std.proofs.Common.{◌≡◌, ℕ, false, List, arith, length, subst, sym}
use Rattle.std.specs.List.{All}
use Rattle.std.proofs.lemmas.List.{length-map}
use Rattle.dwarf_types.specs.declared.entry.Entry.{Entry}
use Rattle.dwarf_types.specs.declared.entry.InUnit.{InUnit}
use Rattle.dwarf_types.specs.Raw.{attr_of, places_of}
use Rattle.dwarf_types.specs.SectionBytes.{bytes_in}
use Rattle.unit_tree.specs.Meaning.{is_address_index}
use Rattle.object_view.specs.declared.units.UnitContext.{UnitContext}
use Rattle.object_view.specs.Seen.{opened_seen}
use Rattle.object_view.specs.Ready.{AllRawAttrs, HasRoot, IsListAttr, IsReadAttr, context_among}
use Rattle.object_view.specs.Stages.{tables_in}
use Rattle.object_view.specs.Units.{context_of}
use Rattle.object_view.proofs.Fitting.{all_listed, all_read, raw_units}
use Rattle.object_view.proofs.Assembling.{done_count, done_lines, done_listed, done_units, tables_count}
use Rattle.object_view.proofs.analysis.analyse_entries.Goals as goal

pub understand_info-requires-clause-fits : goal.understand_info-requires-clause-fits
understand_info-requires-clause-fits c =
    let sections = bytes_in c.args.object.now.sections in
    subst (λ (units : List UnitContext). AllRawAttrs (IsReadAttr sections units (places_of c.args.raw)) c.args.raw) (sym c.requires.units) (all_read sections c.args.units c.args.raw c.requires.inside)

pub read_tables-requires-clause-roots : goal.read_tables-requires-clause-roots
read_tables-requires-clause-roots c =
    let count = done_count (opened_seen c.args.object.now) c.args.map.now (tables_in c.args.tables.now) c.args.raw c.in_ok-entries.entries c.in_ok-entries.ensures in
    subst (λ (n : ℕ). All (HasRoot n) c.args.units) (sym count) c.requires.roots

pub read_tables-requires-clause-inside : goal.read_tables-requires-clause-inside
read_tables-requires-clause-inside c =
    done_lines (opened_seen c.args.object.now) c.args.map.now (tables_in c.args.tables.now) c.args.raw c.in_ok-entries.entries c.in_ok-entries.ensures c.args.units c.requires.inside c.requires.rooted

pub read_tables-requires-clause-fits : goal.read_tables-requires-clause-fits
read_tables-requires-clause-fits c =
    done_listed (opened_seen c.args.object.now) c.args.map.now (tables_in c.args.tables.now) c.args.raw c.in_ok-entries.entries c.in_ok-entries.ensures
    (subst (λ (units : List UnitContext). AllRawAttrs (λ unit a. is_address_index a.form ≡ false → IsListAttr (bytes_in c.args.object.now.sections) (context_among units unit).version (attr_of a)) c.args.raw)
    (sym c.requires.units) (all_listed (bytes_in c.args.object.now.sections) c.args.units c.args.raw c.requires.inside))

pub read_tables-requires-clause-count : goal.read_tables-requires-clause-count
read_tables-requires-clause-count c = rw c.requires.units (sym (length-map c.args.units (context_of c.args.raw)))

pub read_tables-requires-clause-units : goal.read_tables-requires-clause-units
read_tables-requires-clause-units c =
    let units = raw_units (bytes_in c.args.object.now.sections) c.args.units c.args.raw c.requires.inside in
    done_units (opened_seen c.args.object.now) c.args.map.now (tables_in c.args.tables.now) c.args.raw c.in_ok-entries.entries c.in_ok-entries.ensures (length c.args.tables.now.units.now)
    (rw (c.requires.units, length-map c.args.units (context_of c.args.raw)) units)

pub finish-requires-clause-few : goal.finish-requires-clause-few
finish-requires-clause-few c =
    let read : List InUnit × List Entry = (c.read_tables.new.units, c.read_tables.new.entries) in
    let listed = tables_count (opened_seen c.args.object.now) c.args.map.now (tables_in c.args.tables.now) c.args.units c.in_ok-entries.entries read c.in_ok-read_tables.ensures in
    let understood = done_count (opened_seen c.args.object.now) c.args.map.now (tables_in c.args.tables.now) c.args.raw c.in_ok-entries.entries c.in_ok-entries.ensures in
    omega (arith, c.requires.few, listed, understood)
