-- Which lists of siblings end behind a node (DWARF 4, section 2.3).
use Rattle.std.specs.Prelude.{◌≡◌, ◌⊎◌, ℕ, ◌+◌, List, [], ◌∷◌, ◌++◌, length}
use Rattle.dwarf_types.specs.declared.graph.Node.{Node}
use Rattle.dwarf_types.specs.Entries.{ancestors_of, lists_ended}

-- Behind a node the lists of those of its ancestors end below which the next node doesn't stand. The ancestors that they share are all that the next node has, or it is a child of this one.
pub record Ends (nodes : List Node) (k : ℕ) : Type 0 where
  pub ended : List ℕ
  pub shared : List ℕ
  pub above : ancestors_of nodes k ≡ ended ++ shared
  pub next : (ancestors_of nodes (k + 1) ≡ shared) ⊎ ((ended ≡ []) × (ancestors_of nodes (k + 1) ≡ k ∷ shared))
  pub count : lists_ended nodes k ≡ length ended
