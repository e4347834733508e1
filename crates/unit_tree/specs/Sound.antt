-- What the units of every object keep to that was read.
use Rattle.std.specs.Prelude.{◌≡◌, ℕ, ◌^◌, ◌≤◌, List, length, slice_get, Some}
use Rattle.dwarf_types.specs.declared.entry.RawEntry.{RawEntry}
use Rattle.dwarf_types.specs.declared.entry.InUnit.{InUnit}
use Rattle.dwarf_types.specs.declared.entry.RawUnits.{RawUnits}
use Rattle.dwarf_types.specs.Sound.{AreUnits, IsIn, IsParent}
use Rattle.unit_tree.specs.Reference.{IsRising}

-- entry k lies in its unit, and its parent stands before it there
pub record LiesInUnit (units : List InUnit) (k : ℕ) (e : RawEntry) : Type 0 where
  pub unit : InUnit
  pub its_unit : slice_get units e.unit ≡ Some unit
  pub lies : IsIn unit k
  pub parent : IsParent unit k e.parent

pub record AreSound (raw : RawUnits) : Type 0 where
  pub few : length raw.entries ≤ 2 ^ 24
  pub units : AreUnits 0 raw.units (length raw.entries)
  pub entries : (k : ℕ) (e : RawEntry) → slice_get raw.entries k ≡ Some e → LiesInUnit raw.units k e
  -- each entry begins behind those before it
  pub rising : IsRising raw.entries
