-- What the bytes of a unit's values depend on beside the values: where the things stand that they name.
use Rattle.std.specs.Prelude.{ℕ, ◌+◌, List, ◌==◌, if◌then◌else◌}
use Rattle.dwarf_types.specs.declared.graph.OutValue.{OutValue}
use Rattle.dwarf_types.specs.declared.graph.Target.{Target}
use Rattle.dwarf_types.specs.Lists.{ranges_len, locations_len}

pub record Places : Type 0 where
  -- the unit's number in the graph, and its version
  pub unit : ℕ
  pub version : ℕ
  -- of a text in the string section
  pub text : List ℕ → ℕ
  -- of the header of the unit of a number in the information section
  pub start : ℕ → ℕ
  -- of an entry, counted from the header of its unit
  pub node : Target → ℕ
  -- of the unit's line table in the line section
  pub lines : ℕ
  -- of a text of a line table in the section of such texts
  pub line_text : List ℕ → ℕ

-- where the next range list and the next location list stand, each in its section
pub record ListPlaces : Type 0 where
  pub ranges : ℕ
  pub locations : ℕ

-- where the next ones stand behind those of a value of a unit of a version
abbrev pub behind_value : ℕ → ListPlaces → OutValue → ListPlaces
behind_value version next value = record { ranges = next.ranges + ranges_len version value; locations = next.locations + locations_len version value }

-- where a node of the unit itself stands
abbrev pub own_node : Places → ℕ → ℕ
own_node places node = places.node (record { unit = places.unit; node = node })

-- a reference counts from the header of the unit where it stays in the unit, and else from the start of the section
abbrev pub ref_place : Places → Target → ℕ
ref_place places target = if target.unit == places.unit then places.node target else places.start target.unit + places.node target
