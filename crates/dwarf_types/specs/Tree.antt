-- The trees of an object's entries: which entries stand above one.
use Rattle.std.specs.Prelude.{◌≡◌, ℕ, zero, suc, ◌<◌, ◌==◌, Bool, List, [], ◌∷◌, ◌++◌, slice_get, Option, Some}
use Rattle.std.specs.List.{list_any}
use Rattle.std.specs.Option.{option_and_then, option_map_or}
use Rattle.dwarf_types.specs.declared.entry.Entry.{Entry}

abbrev pub parent_of : List Entry → ℕ → Option ℕ
parent_of entries k = option_and_then (λ e. e.parent) (slice_get entries k)

-- each entry stands behind its parent
abbrev pub ParentsStandBefore : List Entry → Type 0
ParentsStandBefore entries = (k p : ℕ) (e : Entry) → slice_get entries k ≡ Some e → e.parent ≡ Some p → p < k

-- entry k and up to n entries above it, from the top down
abbrev pub lineage_of : ℕ → List Entry → ℕ → List ℕ
lineage_of zero entries k = k ∷ []
lineage_of (suc n) entries k = option_map_or (lineage_of n entries) (parent_of entries k) [] ++ k ∷ []

-- entry k and all entries above it, from its unit down: a parent stands before its children, so there are k of them at most
unfoldable pub lineage : List Entry → ℕ → List ℕ
lineage entries k = lineage_of k entries k

-- entry k stands in the subtree of entry a
abbrev pub is_in : List Entry → ℕ → ℕ → Bool
is_in entries a k = list_any (λ j. j == a) (lineage entries k)
