use Rattle.std.proofs.Common.{◌<◌, length, ap, subst, sym, ◌∙◌}
use Rattle.dwarf_types.specs.SectionBytes.{bytes_in, range_bytes}
use Rattle.dwarf_types.specs.Seen.{value_seen}
use Rattle.unit_tree.specs.declared.meaning.Meaning.{Meaning}
use Rattle.unit_tree.specs.Inside.{IsListInside}
use Rattle.object_view.specs.declared.units.UnitContext.{UnitContext}
use Rattle.object_view.specs.Ready.{context_among}
use Rattle.object_view.proofs.ranges.RangeListsStep.change.Goals as goal

pub base_of_unit-base-requires : goal.base_of_unit-base-requires
base_of_unit-base-requires c = rw c.requires.ready.1 c.requires.fits.0

pub unit_at-context-requires : goal.unit_at-context-requires
unit_at-context-requires c = c.requires.fits.0

pub ranges_at-requires-clause-open : goal.ranges_at-requires-clause-open
ranges_at-requires-clause-open c = c.requires.ready.0

pub ranges_at-requires-clause-inside : goal.ranges_at-requires-clause-inside
ranges_at-requires-clause-inside c =
    let s = c.args.self.now in
    let role = sym c.meaning_of_offset.ensures ∙ c.in-RangeList.is in
    let inside = subst (λ (m : Meaning). IsListInside (bytes_in s.object.now.sections) (context_among s.units.now c.args.unit).version m c.in-Offset.place) role (c.requires.fits.1 c.in-Offset.place (ap value_seen c.in-Offset.is)) in
    subst (λ (u : UnitContext). c.in-Offset.place < length (range_bytes (bytes_in s.object.now.sections) u.version)) (sym c.unit_at-context.ensures) inside
