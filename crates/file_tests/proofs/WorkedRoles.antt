-- Which files can be the program, and which can be one of its objects (mach-o/machine.h, mach-o/loader.h).
use Rattle.std.proofs.Common.{◌≡◌, ℕ, [], ◌∷◌, Result, Ok, Err, refl}
use Rattle.std.specs.Prelude.{codes}
use Rattle.ds_base.specs.declared.fault.Fault.{Fault}
use Rattle.ds_base.specs.declared.fault.Kind.TheVariants as kinds
use Rattle.ds_base.specs.declared.fault.Part.TheVariants as parts
use Rattle.macho_read.specs.declared.kind.Role.{Role}
use Rattle.macho_read.specs.declared.kind.Role.TheVariants as roles
use Rattle.macho_read.specs.Kind.{kind_of}
use Rattle.file_tests.proofs.Images.{object, program}

-- CPU_TYPE_ARM64, CPU_TYPE_X86_64, and another
abbrev arm64 : ℕ
arm64 = 0x0100000c

abbrev x86_64 : ℕ
x86_64 = 0x01000007

abbrev vax : ℕ
vax = 1

-- MH_OBJECT, MH_EXECUTE, MH_DYLIB
abbrev relocatable : ℕ
relocatable = 1

abbrev executable : ℕ
executable = 2

abbrev library : ℕ
library = 6

-- the program with other types
abbrev plays : ℕ → ℕ → Role → Result (Unit {0}) Fault
plays cpu filetype role = kind_of (record (program (codes "/tmp/m.o")) { cpu = cpu; filetype = filetype }) role

abbrev wrong_cpu : Fault
wrong_cpu = record { kind = kinds.WrongCpu; section = parts.Header; place = 4 }

abbrev bad_file_type : Fault
bad_file_type = record { kind = kinds.BadFileType; section = parts.Header; place = 12 }

abbrev already_linked : Fault
already_linked = record { kind = kinds.AlreadyLinked; section = parts.Commands; place = 0 }

-- ---- the program

an_executable : plays arm64 executable roles.Program ≡ Ok tt
an_executable = refl

a_dynamic_library : plays x86_64 library roles.Program ≡ Ok tt
a_dynamic_library = refl

a_program_for_another_cpu : plays vax relocatable roles.Program ≡ Err wrong_cpu
a_program_for_another_cpu = refl

an_object_as_the_program : plays arm64 relocatable roles.Program ≡ Err bad_file_type
an_object_as_the_program = refl

-- ---- an object

an_object : plays arm64 relocatable (roles.Object arm64) ≡ Ok tt
an_object = refl

an_object_for_the_other_cpu : plays x86_64 executable (roles.Object arm64) ≡ Err wrong_cpu
an_object_for_the_other_cpu = refl

an_executable_as_an_object : plays arm64 executable (roles.Object arm64) ≡ Err bad_file_type
an_executable_as_an_object = refl

an_object_and_a_program_for_another_cpu : plays vax relocatable (roles.Object vax) ≡ Err wrong_cpu
an_object_and_a_program_for_another_cpu = refl

-- ---- a program has no debug information

sections_of_dwarf : kind_of (record object { filetype = executable }) roles.Program ≡ Err already_linked
sections_of_dwarf = refl

-- the segment of the program under another name
a_segment_of_dwarf : kind_of (record (program (codes "/tmp/m.o")) {
  segments = record { name = codes "__DWARF"; vmaddr = 0x100000000; vmsize = 0x4000; maxprot = 5; initprot = 5; flags = 0; sections = 1 } ∷ [];
}) roles.Program ≡ Err already_linked
a_segment_of_dwarf = refl
