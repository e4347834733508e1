-- Files that are made, by computing: an object whose line table is relocated, the debug map that the stabs of a generated program say, and a name in an Info.plist.
use Rattle.std.proofs.Common.{◌≡◌, ℕ, true, false, List, [], ◌∷◌, map, length, slice_get, take, drop, Option, Some, None, Ok, refl}
use Rattle.std.specs.Prelude.{codes}
use Rattle.std.specs.Fmt.{digits}
use Rattle.std.specs.Str.{chars, is_utf8}
use lib.Utf8.{encode}
use Rattle.ds_base.specs.DwarfNumbers.{DW_AT_stmt_list, DW_TAG_compile_unit}
use Rattle.ds_base.specs.MachONumbers.{CPU_TYPE_X86_64}
use Rattle.ds_base.specs.Leb.{sleb, uleb}
use Rattle.dwarf_types.specs.declared.graph.OutValue.TheVariants as values
use Rattle.dwarf_types.specs.declared.lines.OutLines.{OutLines}
use Rattle.dwarf_types.specs.declared.lines.Row.{Row}
use Rattle.dwarf_types.specs.Values.{number_bytes, number_len}
use Rattle.stab_map.specs.declared.object.MapEntry.{MapEntry}
use Rattle.stab_map.specs.DebugMap.{map_of, objects_of}
use Rattle.stab_map.specs.Origin.{origin_of}
use Rattle.stab_map.specs.Stab.{stab_of}
use Rattle.dsym_write.specs.Plist.{plist_bytes}
use Rattle.sample_objects.specs.declared.spec.ObjectSpec.{ObjectSpec}
use Rattle.sample_objects.specs.GeneratedProgram.{map_object, program_of}
use Rattle.sample_objects.specs.GeneratedUnit.{all_numbers}
use Rattle.sample_objects.specs.ObjectFile.{object_bytes, sections_in}

-- ---- an object with a line table

-- one file, and two rows, the second of which has a discriminator of more than 16 bits
abbrev row : ℕ → ℕ → ℕ → Row
row address line discriminator =
    record { address = address; file = 1; line = line; column = 0; discriminator = discriminator; isa = 0; is_stmt = true; basic_block = false; prologue_end = false; epilogue_begin = false }

abbrev lines : OutLines
lines = record {
  dirs = [];
  files = record { name = codes "a.c"; dir = 0; time = 0; size = 0; digest = None } ∷ [];
  sequences = record { rows = row 0x10 3 0 ∷ row 0x14 4 0x10000 ∷ []; end = 0x18 } ∷ [];
}

-- it has no symbols and no other relocations
abbrev with_lines : ObjectSpec
with_lines = record {
  cpu = CPU_TYPE_X86_64;
  unit = record {
    version = 4;
    nodes = record { parent = None; tag = DW_TAG_compile_unit; attrs = record { name = DW_AT_stmt_list; value = values.Lines } ∷ [] } ∷ [];
    lines = Some lines;
    ranges = [];
  };
  symbols = [];
  relocs = [];
}

-- the record of `__debug_info`, from its offset on: it has no relocations
entries_are_not_relocated : take 16 (drop 312 (object_bytes with_lines)) ≡
    0xc8 ∷ 0x01 ∷ 0x00 ∷ 0x00 ∷ 0x00 ∷ 0x00 ∷ 0x00 ∷ 0x00 ∷ 0x00 ∷ 0x00 ∷ 0x00 ∷ 0x00 ∷ 0x00 ∷ 0x00 ∷ 0x00 ∷ 0x00 ∷ []
unfolding object_bytes sections_in uleb sleb number_len number_bytes
entries_are_not_relocated = refl

-- that of `__debug_line`: it stands at 472, and its one relocation at 533
a_sequence_is_relocated : take 16 (drop 392 (object_bytes with_lines)) ≡
    0xd8 ∷ 0x01 ∷ 0x00 ∷ 0x00 ∷ 0x00 ∷ 0x00 ∷ 0x00 ∷ 0x00 ∷ 0x15 ∷ 0x02 ∷ 0x00 ∷ 0x00 ∷ 0x01 ∷ 0x00 ∷ 0x00 ∷ 0x00 ∷ []
unfolding object_bytes sections_in uleb sleb number_len number_bytes
a_sequence_is_relocated = refl

-- `__debug_line`, whose set_address has its operand at 40; the relocation of it, and the strings
the_relocation_is_that_of_the_operand : drop 472 (object_bytes with_lines) ≡
    0x39 ∷ 0x00 ∷ 0x00 ∷ 0x00 ∷ 0x04 ∷ 0x00 ∷ 0x1b ∷ 0x00 ∷ 0x00 ∷ 0x00 ∷ 0x01 ∷ 0x01 ∷ 0x01 ∷ 0xfb ∷ 0x0e ∷ 0x0d
    ∷ 0x00 ∷ 0x01 ∷ 0x01 ∷ 0x01 ∷ 0x01 ∷ 0x00 ∷ 0x00 ∷ 0x00 ∷ 0x01 ∷ 0x00 ∷ 0x00 ∷ 0x01
    ∷ 0x00 ∷ 0x61 ∷ 0x2e ∷ 0x63 ∷ 0x00 ∷ 0x00 ∷ 0x00 ∷ 0x00 ∷ 0x00
    ∷ 0x00 ∷ 0x09 ∷ 0x02 ∷ 0x10 ∷ 0x00 ∷ 0x00 ∷ 0x00 ∷ 0x00 ∷ 0x00 ∷ 0x00 ∷ 0x00
    ∷ 0x14 ∷ 0x00 ∷ 0x04 ∷ 0x04 ∷ 0x80 ∷ 0x80 ∷ 0x04 ∷ 0x4b ∷ 0x02 ∷ 0x04 ∷ 0x00 ∷ 0x01 ∷ 0x01
    ∷ 0x28 ∷ 0x00 ∷ 0x00 ∷ 0x00 ∷ 0x01 ∷ 0x00 ∷ 0x00 ∷ 0x06
    ∷ 0x00 ∷ []
unfolding object_bytes sections_in uleb sleb number_len number_bytes
the_relocation_is_that_of_the_operand = refl

-- ---- the debug map of a generated program of two objects

the_stabs_say_the_map : map_of (program_of 2) ≡ Ok (map_object 1 ∷ map_object 2 ∷ [])
unfolding all_numbers chars digits encode is_utf8 objects_of origin_of stab_of
the_stabs_say_the_map = refl

-- an object's file is its path, and the last of its linked functions is the last but one of all
paths : map (λ i. (map_object i).path) (1 ∷ 2 ∷ []) ≡ codes "gen/1.o" ∷ codes "gen/2.o" ∷ []
unfolding digits
paths = refl

counts : map (λ i. length (map_object i).entries) (1 ∷ 2 ∷ []) ≡ 75 ∷ 75 ∷ []
unfolding all_numbers digits
counts = refl

abbrev function : List ℕ → ℕ → Option MapEntry
function name linked = Some (record { name = name; linked = linked; size = Some 16 })

last_functions : map (λ i. slice_get (map_object i).entries 74) (1 ∷ 2 ∷ []) ≡ function (codes "_f1_98") 0x100001e20 ∷ function (codes "_f2_98") 0x100002620 ∷ []
unfolding all_numbers digits
last_functions = refl

-- ---- an Info.plist

-- a byte with a meaning in XML is an entity
a_name_in_xml : take 61 (drop 281 (plist_bytes (codes "a&b"))) ≡ codes "<string>com.apple.xcode.dsym.a&amp;b</string>\n\t\t<key>CFBundle"
a_name_in_xml = refl

size : length (plist_bytes (codes "a&b")) ≡ 636
size = refl
