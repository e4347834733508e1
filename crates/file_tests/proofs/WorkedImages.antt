-- Files, and their images or the first fault; and the bytes of a debug section.
use Rattle.std.proofs.Common.{◌≡◌, ℕ, true, [], ◌∷◌, take, drop, Ok, Err, refl}
use Rattle.std.specs.Prelude.{codes}
use Rattle.ds_base.specs.declared.fault.Fault.{Fault}
use Rattle.ds_base.specs.declared.fault.Kind.{Kind}
use Rattle.ds_base.specs.declared.fault.Kind.TheVariants as kinds
use Rattle.ds_base.specs.declared.fault.Part.{Part}
use Rattle.ds_base.specs.declared.fault.Part.TheVariants as parts
use Rattle.ds_base.specs.Room.{put}
use Rattle.macho_read.specs.Fields.{name_of, number_of}
use Rattle.macho_read.specs.Header.{header_of}
use Rattle.macho_read.specs.Commands.{command_at, commands_of, is_bad, is_bad_segment, what_is_in}
use Rattle.macho_read.specs.Records.{section_of, segment_of, symtab_of, uuid_of}
use Rattle.macho_read.specs.Symbols.{name_in, symbol_of, symbols_in}
use Rattle.macho_read.specs.Image.{image_of}
use Rattle.macho_read.specs.Debug.{debug_part, is_debug, section_in}
use Rattle.file_tests.specs.declared.object.TheConstants.{OBJECT}
use Rattle.file_tests.specs.declared.program.TheConstants.{PROGRAM}
use Rattle.file_tests.proofs.Images.{info, object, program}

-- what reading an image computes with
reading : Unit {0}
unfolding image_of header_of commands_of command_at is_bad is_bad_segment what_is_in segment_of section_of symtab_of uuid_of symbols_in symbol_of name_in name_of number_of
reading = tt

-- what cutting a section computes with
cutting : Unit {0}
unfolding section_in debug_part
cutting = tt

abbrev fault : Kind → Part → ℕ → Fault
fault kind section place = record { kind = kind; section = section; place = place }

-- ---- images

the_object : image_of OBJECT ≡ Ok object
unfolding reading
the_object = refl

the_program : image_of PROGRAM ≡ Ok (program (codes "/tmp/m.o"))
unfolding reading
the_program = refl

-- ---- first faults

without_the_last_byte_of_the_header : image_of (take 31 OBJECT) ≡ Err (fault kinds.Truncated parts.Header 0)
unfolding reading
without_the_last_byte_of_the_header = refl

without_the_last_byte_of_the_commands : image_of (take 391 OBJECT) ≡ Err (fault kinds.Truncated parts.Commands 32)
unfolding reading
without_the_last_byte_of_the_commands = refl

-- the end of the magic and the begin of the CPU type, of which the magic comes first
another_magic_and_cpu_type : image_of (put OBJECT 1 (0xfa ∷ 0xed ∷ 0xff ∷ 0x05 ∷ [])) ≡ Err (fault kinds.NotMachO parts.Header 0)
unfolding reading
another_magic_and_cpu_type = refl

another_cpu_type : image_of (put OBJECT 4 (5 ∷ 0 ∷ 0 ∷ 0 ∷ [])) ≡ Err (fault kinds.WrongCpu parts.Header 4)
unfolding reading
another_cpu_type = refl

-- its command stands at 368, and in a command the size follows its kind
a_symbol_table_command_of_7_bytes : image_of (put OBJECT 372 (7 ∷ 0 ∷ 0 ∷ 0 ∷ [])) ≡ Err (fault kinds.BadCommand parts.Commands 368)
unfolding reading
a_symbol_table_command_of_7_bytes = refl

-- the upper half of its address stands at 60; it has 0x10000 bytes
a_segment_without_room_above_it : image_of (put OBJECT 60 (0xfe ∷ 0xff ∷ 0xff ∷ 0xff ∷ [])) ≡ Err (fault kinds.BadCommand parts.Commands 32)
unfolding reading
a_segment_without_room_above_it = refl

-- of the second symbol, whose entry stands at 469
a_name_that_begins_at_the_end_of_the_strings : image_of (put OBJECT 469 (4 ∷ 0 ∷ 0 ∷ 0 ∷ [])) ≡ Err (fault kinds.BadSymbols parts.Symbols 1)
unfolding reading
a_name_that_begins_at_the_end_of_the_strings = refl

-- ---- the bytes of `__debug_info`, which begins 82 bytes before the end of the file

it_is_a_debug_section : is_debug info ≡ true
unfolding cutting
it_is_a_debug_section = refl

up_to_the_end_of_the_file : section_in OBJECT (record info { size = 82 }) 2 ≡ Ok (drop 407 OBJECT)
unfolding cutting
up_to_the_end_of_the_file = refl

one_byte_past_the_file : section_in OBJECT (record info { size = 83 }) 2 ≡ Err (fault kinds.BadSection parts.Info 0)
unfolding cutting
one_byte_past_the_file = refl

a_compressed_section : section_in OBJECT (record info { name = codes "__zdebug_info" }) 2 ≡ Err (fault kinds.CompressedSection parts.Commands 2)
unfolding cutting
a_compressed_section = refl
