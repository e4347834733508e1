-- The generated program of some objects: the image of the program, its debug map, and the files of its objects, which are numbered from 1.
use Rattle.std.specs.Prelude.{ℕ, ◌+◌, ◌*◌, ◌%◌, ◌==◌, not, Bool, List, [], ◌∷◌, ◌++◌, codes, map, slice_get, None, Some}
use Rattle.std.specs.Fmt.{decimal}
use Rattle.std.specs.List.{filter, flat_map, range_with_len}
use Rattle.std.specs.Option.{option_map_or}
use Rattle.ds_base.specs.MachONumbers.{CPU_TYPE_ARM64, MH_EXECUTE, N_EXT, N_FUN, N_OSO, N_SECT, SEG_TEXT}
use Rattle.ds_base.specs.Leb.{uleb_len_of}
use Rattle.dwarf_types.specs.declared.graph.OutUnit.{OutUnit}
use Rattle.dwarf_types.specs.Entries.{entries_of, node_place}
use Rattle.macho_read.specs.declared.image.Image.{Image}
use Rattle.macho_read.specs.declared.image.Section.{Section}
use Rattle.macho_read.specs.declared.image.Segment.{Segment}
use Rattle.macho_read.specs.declared.image.Symbol.{Symbol}
use Rattle.macho_read.specs.Fields.{before_zero}
use Rattle.reloc_table.specs.declared.relocation.Reloc.{Reloc}
use Rattle.stab_map.specs.declared.object.MapEntry.{MapEntry}
use Rattle.stab_map.specs.declared.object.MapObject.{MapObject}
use Rattle.sample_objects.specs.declared.program.Generated.{Generated}
use Rattle.sample_objects.specs.declared.spec.ObjectSpec.{ObjectSpec}
use Rattle.sample_objects.specs.GeneratedUnit.{all_numbers, function_name, function_node, unit_of}
use Rattle.sample_objects.specs.ObjectFile.{counts_from_text, object_bytes, text_section}

-- ---- objects

-- `_fi_j`
abbrev pub symbol_name : ℕ → ℕ → List ℕ
symbol_name i j = codes "_" ++ function_name i j

-- an external symbol of section 1, where function j begins: a function has 16 bytes
abbrev pub symbol_of : ℕ → ℕ → Symbol
symbol_of i j = record { name = symbol_name i j; kind = N_SECT + N_EXT; sect = 1; desc = 0; value = 16 * j }

-- how many bytes the code of node k has
abbrev pub code_len : OutUnit → ℕ → ℕ
code_len unit k = option_map_or (λ e. uleb_len_of e.code) (slice_get (entries_of 0 unit) k) 0

-- the low_pc of function j stands behind the code and the name of its entry, and a name is the place of a text in four bytes
unfoldable pub low_pc_place : ℕ → ℕ → ℕ
low_pc_place i j = node_place 0 (unit_of i) (function_node j) + code_len (unit_of i) (function_node j) + 4

-- it counts from where that section goes
abbrev pub reloc_of : ℕ → ℕ → Reloc
reloc_of i j = counts_from_text (low_pc_place i j)

abbrev pub spec_of : ℕ → ObjectSpec
spec_of i = record { cpu = CPU_TYPE_ARM64; unit = unit_of i; symbols = map (symbol_of i) all_numbers; relocs = map (reloc_of i) all_numbers }

-- ---- the debug map

-- `gen/i.o`
abbrev pub path_of : ℕ → List ℕ
path_of i = codes "gen/" ++ (decimal i ++ codes ".o")

-- where function j is linked: the code of an object begins 2048 bytes behind that of the one before it
abbrev pub linked_at : ℕ → ℕ → ℕ
linked_at i j = 0x100001000 + 2048 * i + 16 * j

-- each fourth function is not linked
abbrev pub is_linked : ℕ → Bool
is_linked j = not (j % 4 == 3)

abbrev pub linked_numbers : List ℕ
linked_numbers = filter is_linked all_numbers

abbrev pub map_entry : ℕ → ℕ → MapEntry
map_entry i j = record { name = symbol_name i j; linked = linked_at i j; size = Some 16 }

abbrev pub map_object : ℕ → MapObject
map_object i = record { path = path_of i; file = path_of i; member = None; entries = map (map_entry i) linked_numbers }

-- ---- the program

-- the stabs of a linked function: its name and its address, and its size
abbrev pub stab : List ℕ → ℕ → ℕ → Symbol
stab name kind value = record { name = name; kind = kind; sect = 0; desc = 0; value = value }

abbrev pub function_stabs : ℕ → ℕ → List Symbol
function_stabs i j = stab (symbol_name i j) N_FUN (linked_at i j) ∷ stab [] N_FUN 16 ∷ []

-- those of an object: its path, and those of its functions
abbrev pub object_stabs : ℕ → List Symbol
object_stabs i = stab (path_of i) N_OSO 0 ∷ flat_map (function_stabs i) linked_numbers

abbrev pub text_segment : Segment
text_segment = record { name = before_zero SEG_TEXT; vmaddr = 0x100000000; vmsize = 0x1000000; maxprot = 0; initprot = 0; flags = 0; sections = 1 }

-- its one section, which is as large
abbrev pub code_section : Section
code_section = record text_section { addr = 0x100000000; size = 0x1000000 }

-- the program of so many objects, whose UUID is the bytes 0 to 15
abbrev pub program_of : ℕ → Image
program_of count =
    record {
      cpu = CPU_TYPE_ARM64;
      sub = 0;
      filetype = MH_EXECUTE;
      uuid = Some (range_with_len 0 16);
      segments = text_segment ∷ [];
      sections = code_section ∷ [];
      symbols = flat_map object_stabs (range_with_len 1 count);
    }

-- ---- all

abbrev pub generated_program : ℕ → Generated
generated_program count =
    record {
      program = program_of count;
      objects = map map_object (range_with_len 1 count);
      files = map (λ i. object_bytes (spec_of i)) (range_with_len 1 count);
    }
