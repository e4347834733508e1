-- An object with its units as they are read, or its first fault up to there: what it says whatever program it was linked to.
use Rattle.std.specs.Prelude.{ℕ, List, Result, Ok}
use Rattle.ds_base.specs.declared.fault.Fault.{Fault}
use Rattle.ds_base.specs.Reading.{◌>>=◌}
use Rattle.dwarf_types.specs.declared.entry.RawUnits.{RawUnits}
use Rattle.unit_tree.specs.Unit.{units_of}
use Rattle.object_read.specs.Opened.{Opened, opened_of}

pub record Read : Type 0 where
  pub opened : Opened
  pub units : RawUnits

-- the object in a file's bytes, for a program of a CPU type
unfoldable pub read_of : List ℕ → ℕ → Result Read Fault
read_of bytes cpu = do
  opened ← opened_of bytes cpu
  units ← units_of opened.sections
  Ok (record { opened = opened; units = units })
