-- The symbols of a file and their strings, as they are written (mach-o/nlist.h).
use Rattle.std.specs.Prelude.{ℕ, ◌+◌, ◌==◌, ◌||◌, not, Bool, true, false, List, [], ◌∷◌, ◌++◌, length, map, if◌then◌else◌}
use Rattle.std.specs.List.{filter, flat_map}
use Rattle.ds_base.specs.Texts.{ended, section_of}
use Rattle.macho_read.specs.declared.image.Symbol.{Symbol}
use Rattle.macho_read.specs.ImageSpelling.{nlist_bytes}
use Rattle.macho_read.specs.Standings.{is_stab}

abbrev pub is_empty : List ℕ → Bool
is_empty name = length name == 0

-- the strings: a zero byte, then the names that are not empty, each ended by one
abbrev pub strings_bytes : List Symbol → List ℕ
strings_bytes symbols = 0 ∷ section_of (filter (λ name. not (is_empty name)) (map (λ s. s.name) symbols))

-- symbols with the places of their names in the strings, from a place on; an empty name has the place 0
abbrev pub with_places : ℕ → List Symbol → List (ℕ × Symbol)
with_places at [] = []
with_places at (s ∷ symbols) = if is_empty s.name then (0, s) ∷ with_places at symbols else (at, s) ∷ with_places (at + length s.name + 1) symbols

abbrev pub symbols_bytes : List Symbol → List ℕ
symbols_bytes symbols = flat_map nlist_bytes (with_places 1 symbols)

-- all symbols, or those that are not stabs
abbrev pub chosen : Bool → List Symbol → List Symbol
chosen true symbols = symbols
chosen false symbols = filter (λ s. not (is_stab s)) symbols

-- ---- stations between the code and the definitions: symbols one at a time

abbrev pub is_left_out : Bool → Symbol → Bool
is_left_out true s = false
is_left_out false s = is_stab s

-- it has no name in the strings
abbrev pub has_no_text : Bool → Symbol → Bool
has_no_text stabs s = is_left_out stabs s || is_empty s.name

-- what a symbol has in the strings
abbrev pub text_of : Bool → Symbol → List ℕ
text_of stabs s = if has_no_text stabs s then [] else ended s.name

-- and in the table, its name at a place of the strings
abbrev pub entry_of : Bool → ℕ → Symbol → List ℕ
entry_of stabs place s = if is_left_out stabs s then [] else nlist_bytes ((if is_empty s.name then 0 else place), s)

-- symbols that follow one another, the texts of the first from a place on
abbrev pub entries_from : Bool → ℕ → List Symbol → List ℕ
entries_from stabs place [] = []
entries_from stabs place (s ∷ symbols) = entry_of stabs place s ++ entries_from stabs (place + length (text_of stabs s)) symbols
