-- What a book is made of.
use Rattle.std.specs.Prelude.{◌≡◌, ◌↔◌, ℕ, ◌^◌, ◌≤◌, Bool, true, false, List, length, slice_get, slice_index_or, Some}
use Rattle.dwarf_types.specs.declared.analysis.Analysis.{Analysis}
use Rattle.dwarf_types.specs.declared.entry.Entry.{Entry}
use Rattle.dwarf_types.specs.Live.{IsLive}
use Rattle.dwarf_types.specs.Tree.{ParentsStandBefore}
use Rattle.odr_names.specs.Entering.{AreLiveParents}
use Rattle.type_names.specs.Heads.{Object, entries_of}

-- one mark for each entry, and exactly the live ones are marked
pub record IsLiveRow (entries : List Entry) (row : List Bool) : Type 0 where
  pub len : length row ≡ length entries
  pub exact : (k : ℕ) → (slice_index_or row k false ≡ true) ↔ IsLive entries k

-- each object has its row
pub record AreLiveRows (seen : List Analysis) (live : List (List Bool)) : Type 0 where
  pub len : length live ≡ length seen
  pub each : (i : ℕ) (a : Analysis) (row : List Bool) → slice_get seen i ≡ Some a → slice_get live i ≡ Some row → IsLiveRow a.entries row

-- ---- on the way

-- what entering asks of an object
pub record IsFit (o : Object) : Type 0 where
  pub few : length (entries_of o) ≤ 2 ^ 24
  pub parents : ParentsStandBefore (entries_of o)
  pub live_parents : AreLiveParents o
