use Rattle.std.proofs.Common.{◌<◌, length, ap, subst, sym, ◌∙◌}
use Rattle.dwarf_types.specs.SectionBytes.{bytes_in, location_bytes}
use Rattle.dwarf_types.specs.Seen.{value_seen}
use Rattle.expr_resolve.specs.Context.{Context}
use Rattle.unit_tree.specs.declared.meaning.Meaning.{Meaning}
use Rattle.unit_tree.specs.Inside.{IsListInside}
use Rattle.object_view.specs.Ready.{context_among}
use Rattle.object_view.proofs.Contexts.{locations_ready}
use Rattle.object_view.proofs.locations.LocationListsStep.change.Goals as goal

pub locations_context-context-requires : goal.locations_context-context-requires
locations_context-context-requires c = c.requires.fits.0

pub base_of_unit-base-requires : goal.base_of_unit-base-requires
base_of_unit-base-requires c = rw c.requires.ready.2 c.requires.fits.0

pub locations_at-requires-clause-ready : goal.locations_at-requires-clause-ready
locations_at-requires-clause-ready c = rw c.locations_context-context.ensures (locations_ready c.args.self.now.expressions c.requires.ready.0 c.requires.ready.1 c.args.unit)

pub locations_at-requires-clause-inside : goal.locations_at-requires-clause-inside
locations_at-requires-clause-inside c =
    let e = c.args.self.now.expressions in
    let role = sym c.meaning_of_offset.ensures ∙ c.in-LocationList.is in
    let inside = subst (λ (m : Meaning). IsListInside (bytes_in e.object.now.sections) (context_among e.units.now c.args.unit).version m c.in-Offset.place) role (c.requires.fits.1 c.in-Offset.place (ap value_seen c.in-Offset.is)) in
    subst (λ (s : Context). c.in-Offset.place < length (location_bytes s.sections s.version)) (sym c.locations_context-context.ensures) inside
