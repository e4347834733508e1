-- Units of a graph as bytes.
use Rattle.std.specs.Prelude.{◌≡◌, ℕ, ◌≤◌, List, drop, length, take, Ok}
use Rattle.std.specs.List.{flat_map}
use Rattle.dwarf_types.specs.declared.graph.Graph.{Graph}
use Rattle.dwarf_types.specs.declared.graph.OutUnit.{OutUnit}
use Rattle.dwarf_types.specs.Entries.{unit_bytes}
use Rattle.dwarf_types.specs.Layout.{lists_place, numbered_units, places_of, table_place}
use Rattle.layout.specs.Laid.{IsMeasured, Laid, Measures}

-- the unit of a number as bytes of the information section
abbrev pub bytes_in : Graph → ℕ → OutUnit → List ℕ
bytes_in graph u unit = unit_bytes (places_of graph u unit) (lists_place graph u unit) (table_place graph u) unit

-- ---- the units from a number up to another, one behind the other

abbrev pub bytes_between : Graph → ℕ → ℕ → List ℕ
bytes_between graph first end = flat_map (λ n. bytes_in graph n.0 n.1) (drop first (take end (numbered_units graph)))

-- those of a layout that was measured have so many bytes
pub record IsSizeOf (layout : Laid) (first end size : ℕ) : Type 0 where
  pub measured : IsMeasured layout
  pub ordered : first ≤ end
  pub within : end ≤ length layout.drafts
  pub bytes : (graph : Graph) → Measures graph (Ok layout) → size ≡ length (bytes_between graph first end)

-- the bytes of a room are theirs
pub record Fills (layout : Laid) (first end : ℕ) (room : List ℕ) : Type 0 where
  pub bytes : (graph : Graph) → Measures graph (Ok layout) → room ≡ bytes_between graph first end
