-- Marks of the live entries of objects.
use Rattle.std.specs.Prelude.{◌≡◌, ◌↔◌, ℕ, Bool, true, false, List, slice_index_or}
use Rattle.std.specs.List.{All, zip}
use Rattle.dwarf_types.specs.declared.analysis.Analysis.{Analysis}
use Rattle.dwarf_types.specs.LinkedShape.{AreMarked}
use Rattle.dwarf_types.specs.Live.{IsLive}

-- exactly the live entries of an object are marked
abbrev pub AreLive : Analysis × List Bool → Type 0
AreLive object = (k : ℕ) → (slice_index_or object.1 k false ≡ true) ↔ IsLive object.0.entries k

-- marks of the live entries of all objects
pub record MarkLive (seen : List Analysis) (marks : List (List Bool)) : Type 0 where
  pub marked : AreMarked seen marks
  pub live : All AreLive (zip seen marks)
