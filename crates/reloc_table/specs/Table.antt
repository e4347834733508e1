-- The relocations of a debug section (mach-o/reloc.h), or the first fault in them.
use Rattle.std.specs.Prelude.{ℕ, ◌+◌, ◌*◌, ◌&&◌, Bool, List, [], ◌∷◌, length, drop, Option, Some, None, is_some, Result, Ok, nat_lt, if◌then◌else◌}
use Rattle.ds_base.specs.declared.fault.Fault.{Fault}
use Rattle.ds_base.specs.declared.fault.Kind.TheVariants as kinds
use Rattle.ds_base.specs.declared.fault.Part.{Part}
use Rattle.ds_base.specs.MachONumbers.{RELOCATION_INFO_SIZE, SEG_DWARF}
use Rattle.ds_base.specs.Reading.{◌>>=◌, refuse_if}
use Rattle.macho_read.specs.declared.image.Image.{Image}
use Rattle.macho_read.specs.declared.image.Section.{Section}
use Rattle.macho_read.specs.Debug.{debug_part}
use Rattle.macho_read.specs.Fields.{is_named}
use Rattle.macho_read.specs.Symbols.{each}
use Rattle.reloc_table.specs.declared.relocation.Reloc.{Reloc}
use Rattle.reloc_table.specs.declared.relocation.Relocs.{Relocs}
use Rattle.ds_base.specs.DwarfNumbers.{ADDRESS_SIZE}
use Rattle.reloc_table.specs.Relocation.{reloc_of}

-- a debug section that is read: its segment is `__DWARF`, and its name is that of a part of the file
abbrev pub is_part : Section → Bool
is_part section = is_named SEG_DWARF section.segment && is_some (debug_part section.name)

-- the table passes the file
abbrev pub table_cut : Part → Fault
table_cut part = record { kind = kinds.Truncated; section = part; place = 0 }

-- the bytes from the section's table on
unfoldable pub table_in : List ℕ → Section → Part → Result (List ℕ) Fault
table_in bytes section part = do
  _ ← refuse_if (nat_lt (length bytes) (section.reloff + RELOCATION_INFO_SIZE * section.nreloc)) (table_cut part)
  Ok (drop section.reloff bytes)

-- a relocation put before the first whose place is not below its own
abbrev pub placed : Reloc → List Reloc → List Reloc
placed r [] = r ∷ []
placed r (x ∷ xs) = if nat_lt x.place r.place then x ∷ placed r xs else r ∷ x ∷ xs

-- relocations in the order of their places
abbrev pub by_place : List Reloc → List Reloc
by_place [] = []
by_place (r ∷ rs) = placed r (by_place rs)

-- the number at a place meets the one before it
abbrev pub overlap : Part → ℕ → Fault
overlap part place = record { kind = kinds.RelocOverlap; section = part; place = place }

-- each relocation stands at least 8 bytes behind the one before it
abbrev pub all_apart : Part → List Reloc → Result (Unit {0}) Fault
all_apart part [] = Ok tt
all_apart part (r ∷ []) = Ok tt
all_apart part (r ∷ next ∷ rs) = do
  _ ← refuse_if (nat_lt next.place (r.place + ADDRESS_SIZE)) (overlap part next.place)
  all_apart part (next ∷ rs)

-- the relocations of the section that is this part of the file
unfoldable pub relocs_in : List ℕ → Image → Section → Part → Result Relocs Fault
relocs_in bytes image section part = do
  table ← table_in bytes section part
  relocs ← each (λ i. reloc_of image section part i (drop (RELOCATION_INFO_SIZE * i) table)) section.nreloc 0
  _ ← all_apart part (by_place relocs)
  Ok (record { list = by_place relocs })

abbrev pub named_relocs : List ℕ → Image → Section → Option Part → Result Relocs Fault
named_relocs bytes image section (Some part) = relocs_in bytes image section part
named_relocs bytes image section None = Ok (record { list = [] })

-- the relocations of a debug section; none of another, for which nobody asks
unfoldable pub relocs_of : List ℕ → Image → Section → Result Relocs Fault
relocs_of bytes image section = named_relocs bytes image section (debug_part section.name)
