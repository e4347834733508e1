-- The children of each entry as a table, and which of them stay with a live parent.
use Rattle.std.specs.Prelude.{◌≡◌, ℕ, ◌<◌, ◌≤◌, ◌&&◌, ◌||◌, not, Bool, true, List, length, slice_index_or, Option, Some, None, ◌⊎◌}
use Rattle.dwarf_types.specs.declared.entry.Entry.{Entry}
use Rattle.dwarf_types.specs.Live.{Stands, is_import, is_left_behind, keeps_children}

-- entry j is a child of entry k
abbrev pub IsChild : List Entry → ℕ → ℕ → Type 0
IsChild entries k j = (c : Entry) × Stands entries j c × (c.parent ≡ Some k)

-- which child of entry k is the last of those before entry i
abbrev pub IsLastChild : List Entry → ℕ → ℕ → Option ℕ → Type 0
IsLastChild entries k i None = (m : ℕ) → IsChild entries k m → i ≤ m
IsLastChild entries k i (Some j) = (j < i) × IsChild entries k j × ((m : ℕ) → IsChild entries k m → (m ≤ j) ⊎ (i ≤ m))

-- of the first i entries: of each entry its last child, and of each child the one before it
pub record IsTable (entries : List Entry) (i : ℕ) (last before : List (Option ℕ)) : Type 0 where
  pub last_len : length last ≡ length entries
  pub before_len : length before ≡ i
  pub lasts : (k : ℕ) → k < length entries → IsLastChild entries k i (slice_index_or last k None)
  pub befores : (k j : ℕ) → j < i → IsChild entries k j → IsLastChild entries k j (slice_index_or before j None)

-- this child stays with its live parent, which keeps its children or not
abbrev pub is_wanted : Bool → Entry → Bool
is_wanted keeps c = (keeps && not (is_left_behind c)) || is_import c

-- entry j is a child that stays with entry k
abbrev pub IsKept : List Entry → ℕ → ℕ → Type 0
IsKept entries k j = (e : Entry) × (c : Entry) × Stands entries k e × Stands entries j c × (c.parent ≡ Some k) × (is_wanted (keeps_children e) c ≡ true)
