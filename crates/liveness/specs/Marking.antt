-- Rows of marks over the entries, and the entries that wait: marked ones whose needs are not marked yet.
use Rattle.std.specs.Prelude.{◌≡◌, ℕ, ◌+◌, not, Bool, false, true, List, length, slice_index_or, ◌⊎◌}
use Rattle.std.specs.List.{Contains, count_by}
use Rattle.dwarf_types.specs.declared.entry.Entry.{Entry}
use Rattle.dwarf_types.specs.Live.{IsLive, IsRoot, Needs}

abbrev pub Marked : List Bool → ℕ → Type 0
Marked row k = slice_index_or row k false ≡ true

abbrev pub unmarked : List Bool → ℕ
unmarked row = count_by not row

-- these were marked, where they were not, and those newly marked wait
pub record Grown (row : List Bool) (work : List ℕ) (new_row : List Bool) (new_work : List ℕ) (these : List ℕ) : Type 0 where
  pub len : length new_row ≡ length row
  pub kept : (k : ℕ) → Marked row k → Marked new_row k
  pub marked : (k : ℕ) → Contains these k → Marked new_row k
  pub fresh : (k : ℕ) → Marked new_row k → Marked row k ⊎ (Contains these k × Contains new_work k)
  pub still_waits : (k : ℕ) → Contains work k → Contains new_work k
  pub waits : (k : ℕ) → Contains new_work k → Contains work k ⊎ Contains these k
  -- each newly marked entry waits once
  pub balance : unmarked new_row + length new_work ≡ unmarked row + length work

-- all marked entries are live, the roots are marked, and a marked entry waits or has its needs marked
pub record Spread (entries : List Entry) (row : List Bool) (work : List ℕ) : Type 0 where
  pub len : length row ≡ length entries
  pub sound : (k : ℕ) → Marked row k → IsLive entries k
  pub roots : (k : ℕ) → IsRoot entries k → Marked row k
  pub waits : (k : ℕ) → Contains work k → Marked row k
  pub closed : (k j : ℕ) → Marked row k → Needs entries k j → Marked row j ⊎ Contains work k
