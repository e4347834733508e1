-- A program whose commands and symbols can be spelled by the records of a file (mach-o/loader.h, mach-o/nlist.h).
use Rattle.std.specs.Prelude.{◌≡◌, ◌⊎◌, ◌<◌, ◌≤◌, ◌^◌, false}
use Rattle.std.specs.List.{All, AllByRecursion}
use Rattle.ds_base.specs.MachONumbers.{CPU_TYPE_ARM64, CPU_TYPE_X86_64}
use Rattle.macho_read.specs.declared.image.Image.{Image}
use Rattle.macho_read.specs.declared.image.Symbol.{Symbol}
use Rattle.macho_read.specs.Commands.{last_end}
use Rattle.macho_read.specs.ImageSpelling.{IsLoadCommand}
use Rattle.macho_read.specs.Sound.{IsSound}
use Rattle.macho_write.specs.Records.{IsUuidLen, segment_commands}
use Rattle.dsym_write.specs.Bundle.{end_of, kept_symbols}

-- its numbers have the sizes of their fields
pub record FitsFields (s : Symbol) : Type 0 where
  pub kind : s.kind < 2 ^ 8
  pub sect : s.sect < 2 ^ 8
  pub desc : s.desc < 2 ^ 16
  pub value : s.value < 2 ^ 64

-- each number that is written of it has the size of its field, and there is room for a segment behind its own
pub record FitsRecords (program : Image) : Type 0 where
  pub sound : IsSound program
  pub cpu : (program.cpu ≡ CPU_TYPE_X86_64) ⊎ (program.cpu ≡ CPU_TYPE_ARM64)
  pub sub : program.sub < 2 ^ 32
  pub uuid : IsUuidLen program.uuid
  pub segments : AllByRecursion IsLoadCommand (segment_commands false program.segments program.sections)
  pub symbols : All FitsFields (kept_symbols program)
  pub room : end_of program.segments ≤ last_end
