-- The children that the spelling of an entry reads, in order, and a table of them.
use Rattle.std.specs.Prelude.{◌≡◌, ℕ, ◌+◌, ◌<◌, ◌≤◌, ◌==◌, ◌||◌, Bool, false, List, length, drop, slice_get, slice_index_or, Option, Some, None, if◌then◌else◌}
use Rattle.std.specs.List.{enumerate_from, filter}
use Rattle.std.specs.Option.{option_and_then, option_map, option_map_or}
use Rattle.ds_base.specs.DwarfNumbers as dw
use Rattle.dwarf_types.specs.declared.entry.Entry.{Entry}

-- the tag of entry k is this one
abbrev pub has_tag : List Entry → ℕ → ℕ → Bool
has_tag entries tag k = option_map_or (λ e. e.tag == tag) (slice_get entries k) false

abbrev pub is_parameter : ℕ → Bool
is_parameter tag = tag == dw.DW_TAG_formal_parameter || tag == dw.DW_TAG_unspecified_parameters

-- the entry whose spelling reads this one: its parent, which is an array, or of which it is a parameter
abbrev pub holder : List Entry → Entry → Option ℕ
holder entries e = option_and_then (λ p. if is_parameter e.tag || has_tag entries dw.DW_TAG_array_type p then Some p else None) e.parent

-- the entries that the spelling of entry k reads, from entry j on
abbrev pub listed_from : List Entry → ℕ → ℕ → List (ℕ × Entry)
listed_from entries k j = filter (λ e. option_map_or (λ p. p == k) (holder entries e.1) false) (enumerate_from j (drop j entries))

-- the number of the first of them
abbrev pub next_listed : List Entry → ℕ → ℕ → Option ℕ
next_listed entries k j = option_map (λ e. e.0) (slice_get (listed_from entries k j) 0)

-- of each entry the first that its spelling reads, and of each of these the next one, as far as they stand from entry i on
pub record IsTableFrom (entries : List Entry) (first next : List (Option ℕ)) (i : ℕ) : Type 0 where
  pub within : i ≤ length entries
  pub first_len : length first ≡ length entries
  pub next_len : length next ≡ length entries
  pub firsts : (k : ℕ) → k < length entries → slice_index_or first k None ≡ next_listed entries k i
  pub nexts : (j k : ℕ) (e : Entry) → i ≤ j → slice_get entries j ≡ Some e → holder entries e ≡ Some k → slice_index_or next j None ≡ next_listed entries k (j + 1)

-- entry j is one of those that the spelling of entry k reads
pub record IsListed (entries : List Entry) (k j : ℕ) : Type 0 where
  pub entry : Entry
  pub stands : slice_get entries j ≡ Some entry
  pub held : holder entries entry ≡ Some k
