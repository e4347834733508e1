-- The debug sections of an image: which count, which are tried, and their bytes.
use Rattle.std.specs.Prelude.{ℕ, ◌&&◌, not, Bool, false, List, [], ◌∷◌, ◌++◌, length, take, drop, Option, None, Result, Ok, if◌then◌else◌}
use Rattle.std.specs.Option.{option_map_or}
use Rattle.std.specs.List.{find, list_any}
use Rattle.ds_base.specs.contracts.fault.Part.{the_type}
use Rattle.ds_base.specs.declared.fault.Fault.{Fault}
use Rattle.ds_base.specs.declared.fault.Part.{Part}
use Rattle.ds_base.specs.declared.fault.Part.TheVariants as parts
use Rattle.ds_base.specs.Reading.{◌>>=◌}
use Rattle.dwarf_types.specs.SectionBytes.{SectionBytes}
use Rattle.macho_read.specs.declared.image.Section.{Section}
use Rattle.macho_read.specs.Debug.{debug_part, is_debug, section_in}
use Rattle.reloc_table.specs.declared.sections.Compressed.{Compressed}
use Rattle.reloc_table.specs.declared.sections.Compressed.TheVariants.{Tried, Ignored}
use Rattle.reloc_table.specs.Table.{is_part}

abbrev pub same_part : Part → Part → Bool
same_part a b = denote.Enum.Bare.sameb the_type a b

-- the part of the file that a section is, if it is a debug section that is read
abbrev pub part_of : Section → Option Part
part_of section = if is_part section then debug_part section.name else None

abbrev pub is_of : Part → Section → Bool
is_of part section = option_map_or (λ own. same_part own part) (part_of section) false

-- the section that is a part of the file: of two of one name the first counts
abbrev pub section_of : List Section → Part → Option Section
section_of sections part = find (is_of part) sections

-- a section before it has its name
abbrev pub is_repeated : List Section → Section → Bool
is_repeated before section = option_map_or (λ part. list_any (is_of part) before) (part_of section) false

-- a section that may be tried: one that is a part of the file, and where compressed ones are tried each of them
abbrev pub may_be_tried : Compressed → Section → Bool
may_be_tried Tried section = is_debug section
may_be_tried Ignored section = is_part section

-- it is, unless it is repeated; a compressed one is no part of the file, and so never is
abbrev pub is_tried : Compressed → List Section → Section → Bool
is_tried compressed before section = may_be_tried compressed section && not (is_repeated before section)

-- a section of an image, behind those before it
abbrev pub section_tried : Compressed → List ℕ → List Section → Section → Result (Unit {0}) Fault
section_tried compressed bytes before section =
    if is_tried compressed before section then section_in bytes section (length before) >>= (λ content. Ok tt) else Ok tt

-- some sections in the order of the image, behind those before them
abbrev pub all_tried : Compressed → List ℕ → List Section → List Section → Result (Unit {0}) Fault
all_tried compressed bytes before [] = Ok tt
all_tried compressed bytes before (section ∷ others) =
    section_tried compressed bytes before section >>= λ ok. all_tried compressed bytes (before ++ section ∷ []) others

-- the bytes of a section that was tried
abbrev pub content_of : List ℕ → Section → List ℕ
content_of bytes section = take section.size (drop section.offset bytes)

-- the bytes of a part of the file; a section that is not there has none
abbrev pub part_bytes : List ℕ → List Section → Part → List ℕ
part_bytes bytes sections part = option_map_or (content_of bytes) (section_of sections part) []

-- the bytes of all parts of the file that are read
abbrev pub sections_in : List ℕ → List Section → SectionBytes
sections_in bytes sections = record {
  info = part_bytes bytes sections parts.Info;
  abbrev_ = part_bytes bytes sections parts.Abbrev;
  strings = part_bytes bytes sections parts.Str;
  str_offs = part_bytes bytes sections parts.StrOffs;
  addr = part_bytes bytes sections parts.Addr;
  line = part_bytes bytes sections parts.Line;
  line_str = part_bytes bytes sections parts.LineStr;
  ranges = part_bytes bytes sections parts.Ranges;
  rnglists = part_bytes bytes sections parts.Rnglists;
  loc = part_bytes bytes sections parts.Loc;
  loclists = part_bytes bytes sections parts.Loclists;
  aranges = part_bytes bytes sections parts.Aranges;
  frame = part_bytes bytes sections parts.Frame;
}
