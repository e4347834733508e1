-- The trees of an object's entries: what stands above an entry, and what below it.
use Rattle.std.specs.Prelude.{ℕ, ◌≡◌, ◌≤◌, ◌↔◌, ◌==◌, ◌||◌, ◌&&◌, not, Bool, true, false, List, length, slice_index_or, slice_set, if◌then◌else◌, [], map, drop, slice_get, Option, Some, is_some}
use Rattle.std.specs.List.{enumerate_from, filter, filter_map}
use Rattle.std.specs.Option.{option_map_or}
use Rattle.dwarf_types.specs.declared.entry.Entry.{Entry}
unfoldable pub use Rattle.dwarf_types.specs.Tree.{lineage}
pub use Rattle.dwarf_types.specs.Tree.{is_in, lineage_of, parent_of}

-- the entries of the subtree of entry a, which is one of them
abbrev pub subtree : List Entry → ℕ → List Entry
subtree entries a = map (λ e. e.1) (filter (λ e. is_in entries a e.0) (enumerate_from 0 entries))

-- the children of entry k, in order, with their numbers
abbrev pub children : List Entry → ℕ → List (ℕ × Entry)
children entries k = filter (λ e. option_map_or (λ p. p == k) e.1.parent false) (enumerate_from 0 entries)

-- entry k and the entries above it but its unit, from the top down
abbrev pub below_unit : List Entry → ℕ → List ℕ
below_unit entries k = drop 1 (lineage entries k)

-- the entries between the unit and entry k, from the top down
abbrev pub numbers_above : List Entry → ℕ → List ℕ
numbers_above entries k = option_map_or (below_unit entries) (parent_of entries k) []

abbrev pub above : List Entry → ℕ → List Entry
above entries k = filter_map (slice_get entries) (numbers_above entries k)

-- its parent is the unit
abbrev pub is_at_top : List Entry → Entry → Bool
is_at_top entries e = option_map_or (λ parent. is_some (slice_get entries parent) && not (is_some (parent_of entries parent))) e.parent false

-- ---- marks

-- entry k is marked
abbrev pub is_marked : List Bool → ℕ → Bool
is_marked marks k = slice_index_or marks k false

-- entry k stands below entry a
abbrev pub is_below : List Entry → ℕ → ℕ → Bool
is_below entries a k = not (k == a) && is_in entries a k

-- an entry below entry a is marked
abbrev pub HasMarkedBelow : List Entry → List Bool → ℕ → Type 0
HasMarkedBelow entries marks a = (k : ℕ) × (is_below entries a k ≡ true) × (is_marked marks k ≡ true)

-- entry k or an entry below it is marked
abbrev pub HasMarkedIn : List Entry → List Bool → ℕ → Type 0
HasMarkedIn entries marks a = (k : ℕ) × (is_in entries a k ≡ true) × (is_marked marks k ≡ true)

-- a child of entry a, from entry i on, has a mark in its subtree
abbrev pub HasMarkedFrom : List Entry → List Bool → ℕ → ℕ → Type 0
HasMarkedFrom entries marks i a = (c : ℕ) × (i ≤ c) × (parent_of entries c ≡ Some a) × HasMarkedIn entries marks c

-- the row tells of each entry whether one of its children from entry i on has a mark in its subtree
pub record IsPassedTo (entries : List Entry) (marks row : List Bool) (i : ℕ) : Type 0 where
  pub within : i ≤ length entries
  pub len : length row ≡ length entries
  pub each : (a : ℕ) → (is_marked row a ≡ true) ↔ HasMarkedFrom entries marks i a

-- the parent is marked where the entry or its place in the row is
abbrev pub passed_up : List Bool → List Bool → Option ℕ → ℕ → List Bool
passed_up row marks parent k = if is_marked marks k || is_marked row k then option_map_or (λ p. slice_set row p true) parent row else row
