use Rattle.std.proofs.Common.{◌≡◌, ◌∙◌, refl, slice_get}
use Rattle.std.specs.Option.{option_map_or}
use Rattle.std.proofs.lemmas.List.{length-map}
use Rattle.std.proofs.lemmas.Result.{err_from_is_err_and}
use Rattle.ds_base.proofs.Refusals.{refused_from_gives, refused_gives}
use Rattle.dwarf_types.specs.declared.address.Addr.{Addr}
use Rattle.dwarf_types.specs.declared.address.Addr.TheVariants as addrs
use Rattle.dwarf_types.specs.declared.entry.InUnit.{InUnit}
use Rattle.object_view.specs.Attributes.{base_of}
use Rattle.object_view.specs.Seen.{opened_seen}
use Rattle.object_view.specs.Stages.{bases_of, tables_in}
use Rattle.object_view.proofs.Assembling.{listed_is, unlisted_is}
use Rattle.object_view.proofs.analysis.read_tables.Goals as goal

pub returns-in_err-read_lists : goal.returns-in_err-read_lists
returns-in_err-read_lists c =
    let p = err_from_is_err_and c.from_residual-in_err-read_lists.result c.from_residual-in_err-read_lists.ensures.1 in
    let bases : c.as_slice-2.result.now ≡ bases_of c.args.units.now c.args.entries.now = rw (c.as_slice-2.ensures, c.in_ok-bases.ensures, c.as_slice.ensures) refl in
    let r = refused_from_gives (λ (_ : Unit {0}). c.read_lists.new.entries) _ _ c.in_err-read_lists.ensures in
    let h = unlisted_is (opened_seen c.args.object.now) c.args.map.now (tables_in c.args.tables.now) c.args.units.now c.args.entries.now c.read_line_tables.new.units c.as_slice-2.result.now
    c.in_ok-read_line_tables.ensures bases _ r in
    rw (p.1, p.2) (search (refused_gives, h))

pub returns : goal.returns
returns c =
    let bases : c.as_slice-2.result.now ≡ bases_of c.args.units.now c.args.entries.now = rw (c.as_slice-2.ensures, c.in_ok-bases.ensures, c.as_slice.ensures) refl in
    listed_is (opened_seen c.args.object.now) c.args.map.now (tables_in c.args.tables.now) c.args.units.now c.args.entries.now c.read_line_tables.new.units c.as_slice-2.result.now
    c.in_ok-read_line_tables.ensures bases c.read_lists.new.entries c.in_ok-read_lists.ensures

pub unit_bases-requires : goal.unit_bases-requires
unit_bases-requires c = rw c.as_slice.ensures c.requires.roots

pub read_lists-requires-clause-bases : goal.read_lists-requires-clause-bases
read_lists-requires-clause-bases c =
    let base : InUnit → Addr = λ u. option_map_or base_of (slice_get c.args.entries.now u.first) (addrs.Fixed 0) in
    rw (c.as_slice-2.ensures, c.in_ok-bases.ensures, c.as_slice.ensures) (length-map c.args.units.now base ∙ c.requires.count)
