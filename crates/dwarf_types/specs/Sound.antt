-- A sound analysis: what every analysis of an object keeps to.
use Rattle.std.specs.Prelude.{◌≡◌, ℕ, ◌+◌, ◌^◌, ◌<◌, ◌≤◌, List, [], ◌∷◌, length, slice_get, Option, Some, None}
use Rattle.std.specs.List.{Contains}
use Rattle.ds_base.specs.DwarfNumbers.{DW_TAG_base_type, DW_TAG_subprogram}
use Rattle.dwarf_types.specs.declared.analysis.Analysis.{Analysis}
use Rattle.dwarf_types.specs.declared.analysis.CodeRange.{CodeRange}
use Rattle.dwarf_types.specs.declared.entry.Attr.{Attr}
use Rattle.dwarf_types.specs.declared.entry.Entry.{Entry}
use Rattle.dwarf_types.specs.declared.entry.InUnit.{InUnit}
use Rattle.dwarf_types.specs.Live.{Stands, bases_of, target_in}

-- the units' entries follow one another from a number on, up to an end
abbrev pub AreUnits : ℕ → List InUnit → ℕ → Type 0
AreUnits at [] end = at ≡ end
AreUnits at (u ∷ us) end = (u.first ≡ at) × (0 < u.count) × AreUnits (at + u.count) us end

-- entry k lies in this unit
pub record IsIn (u : InUnit) (k : ℕ) : Type 0 where
  pub from_first : u.first ≤ k
  pub before_end : k < u.first + u.count

-- the root has no parent, and every other entry's stands before it in the unit
abbrev pub IsParent : InUnit → ℕ → Option ℕ → Type 0
IsParent u k None = k ≡ u.first
IsParent u k (Some p) = (u.first ≤ p) × (p < k)

-- a base type of the unit of this number
pub record IsBaseType (entries : List Entry) (in_unit k : ℕ) : Type 0 where
  pub entry : Entry
  pub stands : Stands entries k entry
  pub tag : entry.tag ≡ DW_TAG_base_type
  pub unit : entry.unit ≡ in_unit

pub record IsSoundEntry (a : Analysis) (k : ℕ) (e : Entry) : Type 0 where
  pub unit : InUnit
  pub its_unit : slice_get a.units e.unit ≡ Some unit
  pub lies : IsIn unit k
  pub parent : IsParent unit k e.parent
  -- each reference leads to an entry, each base type is one of the unit
  pub targets : (attr : Attr) (j : ℕ) → Contains e.attrs attr → target_in attr.value ≡ Some j → j < length a.entries
  pub bases : (j : ℕ) → Contains (bases_of e) j → IsBaseType a.entries e.unit j

-- pieces of code, in the order of the subprograms that they name, from one of a number on
abbrev pub AreCodeRanges : List Entry → ℕ → List CodeRange → Type 0
AreCodeRanges entries from [] = Unit {0}
AreCodeRanges entries from (r ∷ rs) = (from ≤ r.entry) × ((e : Entry) × Stands entries r.entry e × (e.tag ≡ DW_TAG_subprogram)) × AreCodeRanges entries r.entry rs

pub record IsSound (a : Analysis) : Type 0 where
  pub few : length a.entries ≤ 2 ^ 24
  pub units : AreUnits 0 a.units (length a.entries)
  pub entries : (k : ℕ) (e : Entry) → Stands a.entries k e → IsSoundEntry a k e
  pub code : AreCodeRanges a.entries 0 a.code
