-- The relocations of the object's `__debug_info` (mach-o/reloc.h), or the fault; and what numbers mean by them.
use Rattle.std.proofs.Common.{◌≡◌, ℕ, Bool, true, false, [], ◌∷◌, Ok, Err, refl}
use Rattle.ds_base.specs.declared.fault.Fault.{Fault}
use Rattle.ds_base.specs.declared.fault.Kind.{Kind}
use Rattle.ds_base.specs.declared.fault.Kind.TheVariants as kinds
use Rattle.ds_base.specs.declared.fault.Part.TheVariants as parts
use Rattle.ds_base.specs.Room.{put}
use Rattle.dwarf_types.specs.declared.address.Addr.TheVariants as addrs
use Rattle.macho_read.specs.Debug.{debug_part}
use Rattle.macho_read.specs.Fields.{number_of}
use Rattle.macho_read.specs.Standings.{standing_of}
use Rattle.reloc_table.specs.declared.relocation.Relocs.{Relocs}
use Rattle.reloc_table.specs.Address.{address_of}
use Rattle.reloc_table.specs.Relocation.{info_of, reloc_of}
use Rattle.reloc_table.specs.Table.{is_part, relocs_in, relocs_of, table_in}
use Rattle.file_tests.specs.declared.object.TheConstants.{OBJECT}
use Rattle.file_tests.proofs.Images.{info, object}

-- what relocations, and addresses by them, compute with
relocating : Unit {0}
unfolding relocs_of relocs_in table_in reloc_of info_of debug_part number_of address_of standing_of
relocating = tt

-- those at 12 and at 21 in the order of their places; to the latter a section is added, or a symbol
abbrev two : Bool → Relocs
two outer = record { list = record { place = 12; symbol = 1; outer = false } ∷ record { place = 21; symbol = 1; outer = outer } ∷ [] }

abbrev fault : Kind → ℕ → Fault
fault kind place = record { kind = kind; section = parts.Info; place = place }

-- ---- the table, whose first entry stands at 437: four bytes of a place, then 24 bits of a number and 8 of flags

a_part_of_the_file : is_part info ≡ true
unfolding relocating
a_part_of_the_file = refl

of_sections : relocs_of OBJECT object info ≡ Ok (two false)
unfolding relocating
of_sections = refl

the_first_of_a_symbol : relocs_of (put OBJECT 441 (1 ∷ 0 ∷ 0 ∷ 0x0e ∷ [])) object info ≡ Ok (two true)
unfolding relocating
the_first_of_a_symbol = refl

one_of_4_bytes : relocs_of (put OBJECT 441 (1 ∷ 0 ∷ 0 ∷ 0x04 ∷ [])) object info ≡ Err (fault kinds.RelocKind 0)
unfolding relocating
one_of_4_bytes = refl

one_of_no_such_symbol : relocs_of (put OBJECT 441 (2 ∷ 0 ∷ 0 ∷ 0x0e ∷ [])) object info ≡ Err (fault kinds.RelocSymbol 0)
unfolding relocating
one_of_no_such_symbol = refl

one_byte_past_the_section : relocs_of (put OBJECT 437 (23 ∷ 0 ∷ 0 ∷ 0 ∷ [])) object info ≡ Err (fault kinds.RelocPlace 0)
unfolding relocating
one_byte_past_the_section = refl

two_that_are_7_bytes_apart : relocs_of (put OBJECT 437 (19 ∷ 0 ∷ 0 ∷ 0 ∷ [])) object info ≡ Err (fault kinds.RelocOverlap 19)
unfolding relocating
two_that_are_7_bytes_apart = refl

-- ---- the number 8

with_a_section : address_of object (two false) 21 8 ≡ addrs.Placed 8
unfolding relocating
with_a_section = refl

with_a_common_symbol : address_of object (two true) 21 8 ≡ addrs.Named 1 8
unfolding relocating
with_a_common_symbol = refl

without_a_relocation : address_of object (two false) 20 8 ≡ addrs.Fixed 8
unfolding relocating
without_a_relocation = refl
