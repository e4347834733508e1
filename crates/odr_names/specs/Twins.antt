-- How many earlier siblings of an entry have its parts.
use Rattle.std.specs.Prelude.{◌≡◌, ℕ, ◌+◌, ◌/◌, ◌%◌, ◌^◌, ◌<◌, ◌≤◌, ◌==◌, ◌&&◌, ◌||◌, not, Bool, true, false, List, length, slice_get, slice_index_or, Option, Some, None, is_some}
use Rattle.std.specs.Option.{option_and_then, option_map, option_map_or}
use Rattle.ds_base.specs.DwarfNumbers as dw
use Rattle.dwarf_types.specs.declared.entry.Entry.{Entry}
use Rattle.odr_names.specs.declared.ordinals.Sibling.{Sibling}
use Rattle.odr_names.specs.declared.ordinals.Chains.{Chains}
use Rattle.type_names.specs.Entries.{is_type}
use Rattle.type_names.specs.Heads.{Object, entries_of, is_in_head}
use Rattle.type_names.specs.Paths.{Parts, earlier_twins, parts_of}
use Rattle.type_names.specs.Start.{hash_from, piece_bytes}
use Rattle.type_names.specs.Tree.{parent_of}

-- the parts of entry k of object n
abbrev pub parts_in : ℕ → Object → ℕ → Option Parts
parts_in n o k = option_map (parts_of n o k) (slice_get (entries_of o) k)

-- the object and the entry among its parts, where nothing else tells it apart
abbrev pub own_in : ℕ → Object → ℕ → Option (ℕ × ℕ)
own_in n o k = option_and_then (λ parts. parts.private) (parts_in n o k)

-- entries a and b are children of one entry, and have the same parts
pub record AreTwins (n : ℕ) (o : Object) (a b : ℕ) : Type 0 where
  pub parent : parent_of (entries_of o) a ≡ parent_of (entries_of o) b
  pub parts : parts_in n o a ≡ parts_in n o b

-- how many earlier siblings have its parts
abbrev pub twins_before : ℕ → Object → ℕ → ℕ
twins_before n o k = option_map_or (λ e. option_map_or (λ p. length (earlier_twins n o p k (parts_of n o k e))) e.parent 0) (slice_get (entries_of o) k) 0

-- ---- siblings in the order of their numbers

-- it stands below an entry that is in the subtree of a head
abbrev pub is_inside : Object → ℕ → Bool
is_inside o k = option_map_or (is_in_head o) (parent_of (entries_of o) k) false

-- they tell an entry apart wherever it stands: it is a namespace, a type with a name, or a derived head
abbrev pub tell_alone : Parts → Bool
tell_alone p = p.tag == dw.DW_TAG_namespace || ((is_type p.tag && is_some p.name) || (not (p.tag == dw.DW_TAG_subprogram && not (is_some p.linkage)) && is_some p.spelled))

-- its parts do
abbrev pub is_told_in : ℕ → Object → ℕ → Bool
is_told_in n o k = option_map_or tell_alone (parts_in n o k) false

-- it stands below an entry in the subtree of a head, and its parts do not tell it apart
abbrev pub wants_ordinal : ℕ → Object → ℕ → Bool
wants_ordinal n o k = is_inside o k && not (is_told_in n o k)

-- the same, and its own number is none of its parts, so that siblings may have them too
abbrev pub may_have_twins : ℕ → Object → ℕ → Bool
may_have_twins n o k = wants_ordinal n o k && not (is_some (own_in n o k))

-- a hash of its parent and its parts
abbrev pub parts_hash : ℕ → Parts → ℕ
parts_hash parent parts = hash_from parent (piece_bytes (record { parts = parts; ordinal = 0 }))

-- an entry of which there is a rank
abbrev pub IsRanked : List Sibling → ℕ → Type 0
IsRanked ranks k = (i : ℕ) × (r : Sibling) × (slice_get ranks i ≡ Some r) × (r.number ≡ k)

-- the hash of parts goes on from the parent's number
pub record IsSibling (n : ℕ) (o : Object) (r : Sibling) : Type 0 where
  pub entry : Entry
  pub parent : ℕ
  pub stands : slice_get (entries_of o) r.number ≡ Some entry
  pub child : entry.parent ≡ Some parent
  pub inside : is_in_head o parent ≡ true
  pub untold : tell_alone (parts_of n o r.number entry) ≡ false
  pub common : (parts_of n o r.number entry).private ≡ None
  pub hash : r.hash ≡ parts_hash parent (parts_of n o r.number entry)

pub record AreSiblings (n : ℕ) (o : Object) (ranks : List Sibling) (i : ℕ) : Type 0 where
  pub each : (j : ℕ) (r : Sibling) → slice_get ranks j ≡ Some r → IsSibling n o r
  -- in the order of their numbers
  pub rising : (j k : ℕ) (r s : Sibling) → j < k → slice_get ranks j ≡ Some r → slice_get ranks k ≡ Some s → r.number < s.number
  pub below : (j : ℕ) (r : Sibling) → slice_get ranks j ≡ Some r → r.number < i
  pub few : length ranks ≤ i
  pub all : (k : ℕ) → k < i → may_have_twins n o k ≡ true → (j : ℕ) × (r : Sibling) × (slice_get ranks j ≡ Some r) × (r.number ≡ k)

-- the rank of entry k, where it has one
abbrev pub IsRankOf : ℕ → Object → ℕ → Option Sibling → Type 0
IsRankOf n o k (Some r) = (r.number ≡ k) × IsSibling n o r
IsRankOf n o k None = may_have_twins n o k ≡ false

-- the twins of the first i ranks are counted; entries without a rank have none
pub record AreCounted (n : ℕ) (o : Object) (ranks : List Sibling) (counts : List ℕ) (i : ℕ) : Type 0 where
  pub len : length counts ≡ length (entries_of o)
  pub each : (j : ℕ) (r : Sibling) → j < i → slice_get ranks j ≡ Some r → slice_index_or counts r.number 0 ≡ twins_before n o r.number
  pub others : (k : ℕ) → (IsRanked ranks k → ⊥) → slice_index_or counts k 0 ≡ 0

-- ---- chains

-- the cell of a rank, among so many
abbrev pub cell_of : ℕ → Sibling → ℕ
cell_of cells r = r.hash / 2 ^ 32 % cells

-- the link to the newest of the first i ranks that is in cell c
pub record IsNewest (ranks : List Sibling) (cells c i link : ℕ) : Type 0 where
  pub le : link ≤ i
  pub own : (k : ℕ) (r : Sibling) → link ≡ k + 1 → slice_get ranks k ≡ Some r → cell_of cells r ≡ c
  pub none : (k : ℕ) (r : Sibling) → link ≤ k → k < i → slice_get ranks k ≡ Some r → cell_of cells r ≡ c → ⊥

-- the first i ranks hang in the chains of their cells
pub record AreChained (ranks : List Sibling) (chains : Chains) (i : ℕ) : Type 0 where
  pub some : 1 ≤ length chains.newest.items
  pub len : length chains.before.items ≡ i
  pub newest : (c : ℕ) → c < length chains.newest.items → IsNewest ranks (length chains.newest.items) c i (slice_index_or chains.newest.items c 0)
  pub before : (k : ℕ) (r : Sibling) → k < i → slice_get ranks k ≡ Some r → IsNewest ranks (length chains.newest.items) (cell_of (length chains.newest.items) r) k (slice_index_or chains.before.items k 0)

-- no rank from this one up to rank i is a twin of that one, and the rank before this one is in its cell
pub record IsWalked (n : ℕ) (o : Object) (ranks : List Sibling) (cells : ℕ) (here : Sibling) (link i : ℕ) : Type 0 where
  pub le : link ≤ i
  pub own : (k : ℕ) (r : Sibling) → link ≡ k + 1 → slice_get ranks k ≡ Some r → cell_of cells r ≡ cell_of cells here
  pub differ : (k : ℕ) (r : Sibling) → link ≤ k → k < i → slice_get ranks k ≡ Some r → AreTwins n o r.number here.number → ⊥
