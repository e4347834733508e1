-- Of which kinds the faults of an image, of its role and of a debug section's bytes are.
use Rattle.std.proofs.Common.{ℕ, zero, suc, ◌+◌, ◌-◌, ◌*◌, ◌||◌, ◌&&◌, not, List, [], ◌∷◌, length, take, drop, Option, Some, None, Result, Ok, refl, arith}
use Rattle.std.specs.Prelude.{◌==◌, ◌%◌, nat_lt, nat_le}
use Rattle.std.specs.List.{Contains}
use Rattle.ds_base.specs.declared.fault.Fault.{Fault}
use Rattle.ds_base.specs.declared.fault.Kind.{Kind}
use Rattle.ds_base.specs.declared.fault.Kind.TheVariants as kinds
use Rattle.ds_base.specs.declared.fault.Part.{Part}
use Rattle.ds_base.specs.MachONumbers.{MACH_HEADER_64_SIZE, MH_MAGIC_64, NLIST_64_SIZE, S_ZEROFILL}
use Rattle.ds_base.specs.Reading.{◌>>=◌, refuse_if}
use Rattle.macho_read.specs.declared.image.Image.{Image}
use Rattle.macho_read.specs.declared.image.Section.{Section}
use Rattle.macho_read.specs.declared.image.Symbol.{Symbol}
use Rattle.macho_read.specs.declared.kind.Role.{Role}
use Rattle.macho_read.specs.declared.kind.Role.TheVariants as roles
use Rattle.macho_read.specs.declared.records.Symtab.{Symtab}
use Rattle.macho_read.specs.Fields.{number_of, text_len, before_zero}
use Rattle.macho_read.specs.Header.{header_fault, header_of, is_known_cpu, commands_cut}
use Rattle.macho_read.specs.Commands.{bad_command, command_at, commands_of, area_of, gathered, gathered_of, is_bad}
use Rattle.macho_read.specs.Symbols.{bad_symbols, each, ended_text, name_in, symbol_of, symbols_in, symbols_of}
use Rattle.macho_read.specs.Image.{image_of}
use Rattle.macho_read.specs.Kind.{already_linked, dwarf_at, not_linked, is_wrong_cpu, is_wrong_type, holds_no_dwarf, kind_of}
use Rattle.macho_read.specs.Debug.{bad_section, compressed, debug_part, is_compressed, named_part, section_in}
use Rattle.ds_base.proofs.FaultKinds.{FaultsAre, ok_kinds, err_kinds, bind_kinds, refuse_kinds, either_kinds}

-- so many readings, each by its index
pub each_kinds : {A : Type 0} (P : Kind → Type 0) (read : ℕ → Result A Fault) → ((i : ℕ) → FaultsAre P (read i)) → (count i : ℕ) → FaultsAre P (each read count i)
each_kinds P read all zero i = ok_kinds P []
each_kinds P read all (suc count) i =
    bind_kinds P (read i) _ (all i) (λ item. bind_kinds P (each read count (i + 1)) _ (each_kinds P read all count (i + 1)) (λ others. ok_kinds P (item ∷ others)))

-- ---- an image

abbrev OfImage : Kind → Type 0
OfImage = Contains (kinds.Truncated ∷ kinds.NotMachO ∷ kinds.WrongCpu ∷ kinds.BadCommand ∷ kinds.BadSymbols ∷ [])

header_kinds : (bytes : List ℕ) → FaultsAre OfImage (header_of bytes)
unfolding header_of
header_kinds bytes =
    bind_kinds OfImage _ _ (refuse_kinds OfImage (nat_lt (length bytes) MACH_HEADER_64_SIZE) (header_fault kinds.Truncated 0) (0, omega arith, refl))
    (λ u. bind_kinds OfImage _ _ (refuse_kinds OfImage (not (number_of 4 0 bytes == MH_MAGIC_64)) (header_fault kinds.NotMachO 0) (1, omega arith, refl))
    (λ u. bind_kinds OfImage _ _ (refuse_kinds OfImage (not (is_known_cpu (number_of 4 4 bytes))) (header_fault kinds.WrongCpu 4) (2, omega arith, refl))
    (λ u. bind_kinds OfImage _ _ (refuse_kinds OfImage (nat_lt (length bytes - MACH_HEADER_64_SIZE) (number_of 4 20 bytes)) commands_cut (0, omega arith, refl)) (λ u. ok_kinds OfImage _))))

bad : (place : ℕ) → OfImage (bad_command place).kind
bad place = (3, omega arith, refl)

command_kinds : (place : ℕ) (area : List ℕ) → FaultsAre OfImage (command_at place area)
unfolding command_at
command_kinds place area =
    bind_kinds OfImage _ _ (refuse_kinds OfImage (nat_lt (length area) 8) (bad_command place) (bad place))
    (λ u. bind_kinds OfImage _ _ (refuse_kinds OfImage (nat_lt (number_of 4 4 area) 8 || nat_lt (length area) (number_of 4 4 area)) (bad_command place) (bad place))
    (λ u. bind_kinds OfImage _ _ (refuse_kinds OfImage (is_bad (take (number_of 4 4 area) area)) (bad_command place) (bad place)) (λ u. ok_kinds OfImage _)))

commands_kinds : (count place : ℕ) (area : List ℕ) → FaultsAre OfImage (commands_of count place area)
unfolding commands_of
commands_kinds zero place area = ok_kinds OfImage []
commands_kinds (suc count) place area =
    bind_kinds OfImage (command_at place area) _ (command_kinds place area)
    (λ command. bind_kinds OfImage (commands_of count (place + length command) (drop (length command) area)) _ (commands_kinds count (place + length command) (drop (length command) area)) (λ others. ok_kinds OfImage (command ∷ others)))

symbol_bad : (index : ℕ) → OfImage (bad_symbols index).kind
symbol_bad index = (4, omega arith, refl)

name_kinds : (strings : List ℕ) (index strx : ℕ) → FaultsAre OfImage (name_in strings index strx)
unfolding name_in
name_kinds strings index strx =
    either_kinds OfImage (strx == 0) (Ok []) (refuse_if (nat_le (length strings) strx) (bad_symbols index) >>= λ _. ended_text (drop strx strings) index) (ok_kinds OfImage [])
    (bind_kinds OfImage _ _ (refuse_kinds OfImage (nat_le (length strings) strx) (bad_symbols index) (symbol_bad index))
    (λ u. bind_kinds OfImage _ _ (refuse_kinds OfImage (text_len (drop strx strings) == length (drop strx strings)) (bad_symbols index) (symbol_bad index)) (λ u. ok_kinds OfImage (before_zero (drop strx strings)))))

symbol_kinds : (strings : List ℕ) (index : ℕ) (entry : List ℕ) → FaultsAre OfImage (symbol_of strings index entry)
unfolding symbol_of
symbol_kinds strings index entry = bind_kinds OfImage (name_in strings index (number_of 4 0 entry)) _ (name_kinds strings index (number_of 4 0 entry)) (λ name. ok_kinds OfImage _)

symbols_kinds : (symtab : Option Symtab) (bytes : List ℕ) → FaultsAre OfImage (symbols_of symtab bytes)
unfolding symbols_in
symbols_kinds None bytes = ok_kinds OfImage []
symbols_kinds (Some t) bytes =
    let read : ℕ → Result Symbol Fault = λ i. symbol_of (take t.strsize (drop t.stroff bytes)) i (drop (NLIST_64_SIZE * i) (drop t.symoff bytes)) in
    bind_kinds OfImage _ _ (refuse_kinds OfImage (nat_lt (length bytes) (t.symoff + NLIST_64_SIZE * t.nsyms) || nat_lt (length bytes) (t.stroff + t.strsize)) (bad_symbols 0) (symbol_bad 0))
    (λ u. each_kinds OfImage read (λ i. symbol_kinds (take t.strsize (drop t.stroff bytes)) i (drop (NLIST_64_SIZE * i) (drop t.symoff bytes))) t.nsyms 0)

pub image_kinds : (bytes : List ℕ) → FaultsAre OfImage (image_of bytes)
unfolding image_of
image_kinds bytes =
    bind_kinds OfImage (header_of bytes) _ (header_kinds bytes)
    (λ h. bind_kinds OfImage (gathered_of (commands_of h.ncmds MACH_HEADER_64_SIZE (area_of h bytes))) _
    (bind_kinds OfImage (commands_of h.ncmds MACH_HEADER_64_SIZE (area_of h bytes)) _ (commands_kinds h.ncmds MACH_HEADER_64_SIZE (area_of h bytes)) (λ cs. ok_kinds OfImage (gathered cs)))
    (λ kept. bind_kinds OfImage (symbols_of kept.symtab bytes) _ (symbols_kinds kept.symtab bytes) (λ symbols. ok_kinds OfImage _)))

-- ---- a role

abbrev OfRole : Kind → Type 0
OfRole = Contains (kinds.BadFileType ∷ kinds.WrongCpu ∷ kinds.AlreadyLinked ∷ [])

linked_kinds : (at : Option ℕ) → FaultsAre OfRole (not_linked at)
linked_kinds None = ok_kinds OfRole tt
linked_kinds (Some k) = err_kinds OfRole (already_linked k) (2, omega arith, refl)

dwarf_kinds : (role : Role) (image : Image) → FaultsAre OfRole (holds_no_dwarf role image)
dwarf_kinds roles.Program image = linked_kinds (dwarf_at image.segments image.sections)
dwarf_kinds (roles.Object program) image = ok_kinds OfRole tt
dwarf_kinds roles.Bundle image = ok_kinds OfRole tt

pub role_kinds : (image : Image) (role : Role) → FaultsAre OfRole (kind_of image role)
role_kinds image role =
    bind_kinds OfRole _ _ (refuse_kinds OfRole (is_wrong_cpu role image.cpu) (header_fault kinds.WrongCpu 4) (1, omega arith, refl))
    (λ u. bind_kinds OfRole _ _ (refuse_kinds OfRole (is_wrong_type role image.filetype) (header_fault kinds.BadFileType 12) (0, omega arith, refl)) (λ u. dwarf_kinds role image))

-- ---- a debug section

abbrev OfSection : Kind → Type 0
OfSection = Contains (kinds.CompressedSection ∷ kinds.BadSection ∷ [])

part_kinds : (bytes : List ℕ) (section : Section) (part : Option Part) → FaultsAre OfSection (named_part bytes section part)
part_kinds bytes section None = ok_kinds OfSection []
part_kinds bytes section (Some part) =
    bind_kinds OfSection _ _ (refuse_kinds OfSection (nat_lt (length bytes) (section.offset + section.size)) (bad_section part) (1, omega arith, refl))
    (λ u. bind_kinds OfSection _ _ (refuse_kinds OfSection (section.flags % 256 == S_ZEROFILL && not (section.size == 0)) (bad_section part) (1, omega arith, refl)) (λ u. ok_kinds OfSection _))

pub section_kinds : (bytes : List ℕ) (section : Section) (index : ℕ) → FaultsAre OfSection (section_in bytes section index)
unfolding section_in
section_kinds bytes section index =
    bind_kinds OfSection _ _ (refuse_kinds OfSection (is_compressed section) (compressed index) (0, omega arith, refl)) (λ u. part_kinds bytes section (debug_part section.name))
