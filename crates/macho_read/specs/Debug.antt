-- The bytes of a debug section, or what is wrong with it.
use Rattle.std.specs.Prelude.{ℕ, ◌+◌, ◌%◌, ◌==◌, ◌||◌, ◌&&◌, not, Bool, List, [], length, take, drop, Option, Some, None, is_some, Result, Ok, nat_lt, nat_eq, if◌then◌else◌}
use Rattle.std.specs.List.{starts_with}
use Rattle.ds_base.specs.declared.fault.Fault.{Fault}
use Rattle.ds_base.specs.declared.fault.Kind.TheVariants as kinds
use Rattle.ds_base.specs.declared.fault.Part.{Part}
use Rattle.ds_base.specs.declared.fault.Part.TheVariants as parts
use Rattle.ds_base.specs.MachONumbers.{SEG_DWARF, S_ZEROFILL, SECT_ZDEBUG, SECT_DEBUG_INFO, SECT_DEBUG_ABBREV, SECT_DEBUG_STR, SECT_DEBUG_STR_OFFS, SECT_DEBUG_ADDR, SECT_DEBUG_LINE, SECT_DEBUG_LINE_STR, SECT_DEBUG_RANGES, SECT_DEBUG_RNGLISTS, SECT_DEBUG_LOC, SECT_DEBUG_LOCLISTS, SECT_DEBUG_ARANGES, SECT_DEBUG_FRAME}
use Rattle.ds_base.specs.Reading.{◌>>=◌, refuse_if}
use Rattle.macho_read.specs.declared.image.Section.{Section}
use Rattle.macho_read.specs.Fields.{is_named}

-- the part of a file that a debug section of a name is
unfoldable pub debug_part : List ℕ → Option Part
debug_part name =
    if is_named SECT_DEBUG_INFO name then Some parts.Info
    else if is_named SECT_DEBUG_ABBREV name then Some parts.Abbrev
    else if is_named SECT_DEBUG_STR name then Some parts.Str
    else if is_named SECT_DEBUG_STR_OFFS name then Some parts.StrOffs
    else if is_named SECT_DEBUG_ADDR name then Some parts.Addr
    else if is_named SECT_DEBUG_LINE name then Some parts.Line
    else if is_named SECT_DEBUG_LINE_STR name then Some parts.LineStr
    else if is_named SECT_DEBUG_RANGES name then Some parts.Ranges
    else if is_named SECT_DEBUG_RNGLISTS name then Some parts.Rnglists
    else if is_named SECT_DEBUG_LOC name then Some parts.Loc
    else if is_named SECT_DEBUG_LOCLISTS name then Some parts.Loclists
    else if is_named SECT_DEBUG_ARANGES name then Some parts.Aranges
    else if is_named SECT_DEBUG_FRAME name then Some parts.Frame
    else None

-- a compressed section
abbrev pub is_compressed : Section → Bool
is_compressed section = starts_with nat_eq section.name SECT_ZDEBUG

-- a debug section, compressed or not
abbrev pub is_debug : Section → Bool
is_debug section = is_named SEG_DWARF section.segment && (is_compressed section || is_some (debug_part section.name))

-- the section of an index
abbrev pub compressed : ℕ → Fault
compressed index = record { kind = kinds.CompressedSection; section = parts.Commands; place = index }

abbrev pub bad_section : Part → Fault
bad_section part = record { kind = kinds.BadSection; section = part; place = 0 }

-- the bytes of a section that is a part of the file: they pass the file, or there are none though the section is not empty
abbrev pub part_in : List ℕ → Section → Part → Result (List ℕ) Fault
part_in bytes section part = do
  _ ← refuse_if (nat_lt (length bytes) (section.offset + section.size)) (bad_section part)
  _ ← refuse_if (section.flags % 256 == S_ZEROFILL && not (section.size == 0)) (bad_section part)
  Ok (take section.size (drop section.offset bytes))

abbrev pub named_part : List ℕ → Section → Option Part → Result (List ℕ) Fault
named_part bytes section (Some part) = part_in bytes section part
named_part bytes section None = Ok []

-- the bytes of the debug section of an index; none of another, for which nobody asks
unfoldable pub section_in : List ℕ → Section → ℕ → Result (List ℕ) Fault
section_in bytes section index = do
  _ ← refuse_if (is_compressed section) (compressed index)
  named_part bytes section (debug_part section.name)
