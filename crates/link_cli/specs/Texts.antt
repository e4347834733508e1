-- The texts that the command tells: what was counted, and a debug map.
use Rattle.std.specs.Prelude.{ℕ, zero, suc, ◌+◌, ◌/◌, ◌%◌, List, [], ◌∷◌, ◌++◌, Option, Some, None, codes, decimal, nat_lt, if◌then◌else◌}
use Rattle.std.specs.List.{flat_map}
use Rattle.uuid.specs.Text.{hyphenated_text, lower}
use Rattle.stab_map.specs.declared.object.MapEntry.{MapEntry}
use Rattle.stab_map.specs.declared.object.MapObject.{MapObject}
use Rattle.link_core.specs.declared.bundle.Counts.{Counts}
use Rattle.link_program.specs.declared.program.MappedProgram.{MappedProgram}

-- ---- what was counted

-- a word, and how many
abbrev pub count_line : List ℕ → ℕ → List ℕ
count_line word n = word ++ (0x20 ∷ (decimal n ++ 0x0a ∷ []))

abbrev pub summary : Counts → List ℕ
summary counts =
    count_line (codes "objects") counts.objects
    ++ (count_line (codes "entries") counts.entries
    ++ (count_line (codes "live") counts.live
    ++ (count_line (codes "pooled") counts.pooled
    ++ (count_line (codes "names") counts.names ++ (count_line (codes "nodes") counts.nodes ++ count_line (codes "bytes") counts.bytes)))))

-- ---- a debug map

-- a digit of a hexadecimal number
abbrev pub hex_digit : ℕ → ℕ
hex_digit d = if nat_lt d 10 then 0x30 + d else 0x57 + d

-- the last so many hexadecimal digits of a number
unfoldable pub hex_digits : ℕ → ℕ → List ℕ
hex_digits zero n = []
hex_digits (suc k) n = hex_digits k (n / 16) ++ hex_digit (n % 16) ∷ []

-- a number of 64 bits
abbrev pub hex : ℕ → List ℕ
hex n = codes "0x" ++ hex_digits 16 n

-- a function with its size, or a variable
abbrev pub kind_and_place : ℕ → Option ℕ → List ℕ
kind_and_place linked (Some size) = codes "  function " ++ (hex linked ++ (0x20 ∷ hex size))
kind_and_place linked None = codes "  variable " ++ hex linked

abbrev pub entry_text : MapEntry → List ℕ
entry_text entry = kind_and_place entry.linked entry.size ++ (0x20 ∷ (entry.name ++ 0x0a ∷ []))

abbrev pub object_text : ℕ → MapObject → List ℕ
object_text number object = codes "object " ++ (decimal number ++ (0x20 ∷ (object.path ++ (0x0a ∷ flat_map entry_text object.entries))))

-- objects with their numbers, from this one on
abbrev pub objects_text : ℕ → List MapObject → List ℕ
objects_text number [] = []
objects_text number (o ∷ objects) = object_text number o ++ objects_text (number + 1) objects

abbrev pub uuid_text : Option (List ℕ) → List ℕ
uuid_text None = codes "none"
uuid_text (Some uuid) = hyphenated_text lower uuid

-- the debug map of a program
abbrev pub map_text : MappedProgram → List ℕ
map_text program = codes "uuid " ++ (uuid_text program.image.uuid ++ (0x0a ∷ objects_text 1 program.objects))
