-- The draft of a unit of a graph that was measured.
use Rattle.std.proofs.Common.{◌≡◌, ◌<◌, ℕ, zero, suc, List, [], ◌∷◌, refl, length, slice_get, Some, Ok, sym, ◌∙◌, arith}
use Rattle.dwarf_types.specs.declared.graph.Graph.{Graph}
use Rattle.dwarf_types.specs.declared.graph.OutUnit.{OutUnit}
use Rattle.dwarf_types.specs.Layout.{lists_place, places_of, table_place}
use Rattle.dwarf_types.proofs.Lengths.{length-unit}
use Rattle.unit_draft.specs.declared.unit.Draft.{Draft}
use Rattle.unit_draft.specs.Drafted.{IsDraft}
use Rattle.section_write.specs.Emitting.{bytes_in}
use Rattle.layout.specs.Laid.{IsMeasured, Laid, Measures}
use Rattle.section_write.proofs.UnitByUnit.{unit_is, unit_of}

-- as many units as drafts
pub within_graph : (graph : Graph) (layout : Laid) (u : ℕ) → Measures graph (Ok layout) → u < length layout.drafts → u < length graph.units
within_graph graph layout u measured lt = omega (arith, lt, measured.3.count)

pub its_draft : (layout : Laid) (u : ℕ) (draft : Draft) (m : IsMeasured layout) → u < length layout.drafts → slice_get layout.drafts u ≡ Some draft → IsDraft u (unit_of m.graph u) draft
its_draft layout u draft m lt there = m.measured.3.each u (unit_of m.graph u) draft (unit_is m.graph u (within_graph m.graph layout u m.measured lt)) there

-- how long a unit is
pub unit_size : (graph : Graph) (layout : Laid) (u : ℕ) (it : OutUnit) (draft : Draft) → Measures graph (Ok layout) → slice_get graph.units u ≡ Some it → slice_get layout.drafts u ≡ Some draft → length (bytes_in graph u it) ≡ draft.len
unit_size graph layout u it draft measured here there = length-unit (places_of graph u it) (lists_place graph u it) (table_place graph u) it ∙ sym (measured.3.each u it draft here there).len

-- a draft of that number
pub some_draft : (drafts : List Draft) (u : ℕ) → u < length drafts → (draft : Draft) × (slice_get drafts u ≡ Some draft)
some_draft [] u lt = absurd (omega (arith, lt))
some_draft (d ∷ drafts) zero lt = (d, refl)
some_draft (d ∷ drafts) (suc u) lt = some_draft drafts u (omega (arith, lt))
