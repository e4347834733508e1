-- Sections that stand one behind the other, and what several threads write beside each other.
use Rattle.std.specs.Prelude.{◌≡◌, ℕ, List, Ok, drop, take}
use Rattle.std.specs.List.{flat_map}
use Rattle.dwarf_types.specs.declared.graph.Graph.{Graph}
use Rattle.layout.specs.declared.table.Section.{Section}
use Rattle.layout.specs.declared.table.TheConstants.{SECTIONS}
use Rattle.layout.specs.Laid.{Laid, Measures}
use Rattle.layout.specs.Sections.{content_bytes}

abbrev pub run_bytes : Graph → List Section → List ℕ
run_bytes graph sections = flat_map (λ s. content_bytes graph s.content) sections

-- the bytes of a room are theirs
pub record FillsRun (layout : Laid) (sections : List Section) (room : List ℕ) : Type 0 where
  pub bytes : (graph : Graph) → Measures graph (Ok layout) → room ≡ run_bytes graph sections

-- ---- beside each other

-- abbreviations and entries
abbrev pub front_run : List Section
front_run = take 2 SECTIONS

-- the texts of entries
abbrev pub texts_run : List Section
texts_run = take 1 (drop 2 SECTIONS)

-- those behind
abbrev pub behind_run : List Section
behind_run = drop 1 (drop 2 SECTIONS)

abbrev pub back_run : List Section
back_run = drop 2 SECTIONS
