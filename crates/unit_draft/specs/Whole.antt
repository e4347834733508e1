-- A unit that was drafted, whose own places are not filled in yet.
use Rattle.std.specs.Prelude.{◌≡◌, ℕ, ◌^◌, ◌<◌, List, [], ◌++◌, length}
use Rattle.std.specs.List.{flat_map}
use Rattle.std.specs.Str.{bytes_eq}
use Rattle.ds_base.specs.FirstUse.{once}
use Rattle.byteorder.specs.Endian.{little_bytes}
use Rattle.dwarf_types.specs.declared.abbrev.Declaration.{Declaration}
use Rattle.dwarf_types.specs.declared.graph.OutUnit.{OutUnit}
use Rattle.dwarf_types.specs.Abbreviations.{table_of}
use Rattle.dwarf_types.specs.Encode.{unit_locations, unit_ranges}
use Rattle.dwarf_types.specs.Entries.{entries_of, header_fields, node_place, unit_bytes, unit_len}
use Rattle.dwarf_types.specs.Layout.{texts_of_node}
use Rattle.patches.specs.declared.hole.Own.TheVariants as own
use Rattle.patches.specs.declared.hole.Outer.TheVariants as outer
use Rattle.patches.specs.Filling.{Filling, filled}
use Rattle.patches.specs.Numbers.{settled}
use Rattle.unit_draft.specs.declared.entries.Appender.{Appender}
use Rattle.unit_draft.specs.declared.whole.Whole.{Whole}
use Rattle.unit_draft.specs.Drafted.{node_places}
use Rattle.unit_draft.specs.Stretches.{GoesOn}
use Rattle.unit_draft.specs.World.{Stands, World}

-- a filling, once the unit has told what it tells
abbrev pub told : ℕ → OutUnit → Filling → Filling
told number clone f = settled f (unit_len number clone) (node_places number clone)

pub record IsWhole (number : ℕ) (clone : OutUnit) (whole : Whole) : Type 0 where
  pub info : (w : World) (line_texts : List (List ℕ)) → Stands number clone whole.drafting.names line_texts w
      → filled whole.drafting.info (told number clone w.filling) ≡ unit_bytes w.places w.lists w.table clone
  pub declared : whole.declared ≡ table_of number clone.nodes
  pub size : (f : Filling) → length (filled whole.drafting.info f) ≡ unit_len number clone
  pub locations : (f : Filling) → filled whole.drafting.locations (told number clone f) ≡ unit_locations (node_place number clone) clone
  pub ranges : whole.drafting.ranges ≡ unit_ranges clone
  pub names : whole.drafting.names ≡ once bytes_eq (flat_map texts_of_node clone.nodes)
  pub places : whole.places ≡ node_places number clone
  pub len : whole.len ≡ unit_len number clone
  pub short : unit_len number clone < 2 ^ 28

-- ---- on the way there

-- the header of a unit of a version
abbrev pub header_by : ℕ → Filling → List ℕ
header_by version f = little_bytes 4 (f.own own.Size) ++ (little_bytes 2 version ++ header_fields version (f.outer outer.Table))

-- the header of the unit of a number and a version was appended, and nothing else
pub record IsBegun (number version : ℕ) (it : Appender) : Type 0 where
  pub numbered : it.number ≡ number
  pub of_version : it.version ≡ version
  pub header : (f : Filling) → filled it.drafting.info f ≡ header_by version f
  pub locations : (f : Filling) → filled it.drafting.locations f ≡ []
  pub ranges : it.drafting.ranges ≡ []
  pub names : it.drafting.names ≡ []
  pub places : it.places ≡ []

-- and all entries of the unit, behind that
pub record IsEntered (number : ℕ) (unit : OutUnit) (it : Appender) (declared : List Declaration) : Type 0 where
  pub start : Appender
  pub begun : IsBegun number unit.version start
  pub entries : GoesOn number unit.version start.drafting it.drafting start.places it.places (entries_of number unit) []
  pub table : declared ≡ table_of number unit.nodes
