-- The header of a file (mach-o/loader.h, mach_header_64): its fields, or the first fault.
use Rattle.std.specs.Prelude.{ℕ, ◌-◌, ◌==◌, not, ◌||◌, Bool, List, length, Result, Ok, nat_lt}
use Rattle.ds_base.specs.declared.fault.Fault.{Fault}
use Rattle.ds_base.specs.declared.fault.Kind.{Kind}
use Rattle.ds_base.specs.declared.fault.Kind.TheVariants as kinds
use Rattle.ds_base.specs.declared.fault.Part.TheVariants as parts
use Rattle.ds_base.specs.MachONumbers.{MH_MAGIC_64, CPU_TYPE_X86_64, CPU_TYPE_ARM64, MACH_HEADER_64_SIZE}
use Rattle.ds_base.specs.Reading.{◌>>=◌, refuse_if}
use Rattle.macho_read.specs.declared.header.Header.{Header}
use Rattle.macho_read.specs.Fields.{number_of}

abbrev pub header_fault : Kind → ℕ → Fault
header_fault kind place = record { kind = kind; section = parts.Header; place = place }

-- one of the two CPU types that are read
abbrev pub is_known_cpu : ℕ → Bool
is_known_cpu cpu = cpu == CPU_TYPE_X86_64 || cpu == CPU_TYPE_ARM64

-- the commands pass the file
abbrev pub commands_cut : Fault
commands_cut = record { kind = kinds.Truncated; section = parts.Commands; place = MACH_HEADER_64_SIZE }

unfoldable pub header_of : List ℕ → Result Header Fault
header_of bytes = do
  _ ← refuse_if (nat_lt (length bytes) MACH_HEADER_64_SIZE) (header_fault kinds.Truncated 0)
  _ ← refuse_if (not (number_of 4 0 bytes == MH_MAGIC_64)) (header_fault kinds.NotMachO 0)
  _ ← refuse_if (not (is_known_cpu (number_of 4 4 bytes))) (header_fault kinds.WrongCpu 4)
  _ ← refuse_if (nat_lt (length bytes - MACH_HEADER_64_SIZE) (number_of 4 20 bytes)) commands_cut
  Ok
      (record {
        cpu = number_of 4 4 bytes;
        sub = number_of 4 8 bytes;
        filetype = number_of 4 12 bytes;
        ncmds = number_of 4 16 bytes;
        sizeofcmds = number_of 4 20 bytes;
      })
