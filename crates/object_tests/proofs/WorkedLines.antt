-- A line table before version 5, of a unit of version 5: directories and files count from 0 (DWARF 5, section 6.2.4).
use Rattle.std.proofs.Common.{◌≡◌, ℕ, List, [], ◌∷◌, None, refl}
use Rattle.dwarf_types.specs.declared.lines.FileName.{FileName}
use Rattle.dwarf_types.specs.declared.lines.RawLines.{RawLines}
use Rattle.line_read.specs.Counting.{lines_as}

-- the directories `/d`, that of the unit, and `inc`
abbrev here : List ℕ
here = 0x2f ∷ 0x64 ∷ []

abbrev inc : List ℕ
inc = 0x69 ∷ 0x6e ∷ 0x63 ∷ []

-- the file `m.c` in the directory 1
abbrev file : FileName
file = record { name = 0x6d ∷ 0x2e ∷ 0x63 ∷ []; dir = 1; time = 0; size = 0; digest = None }

-- directories and files, and no sequences
abbrev lines : List (List ℕ) → List FileName → RawLines
lines dirs files = record { dirs = dirs; files = files; sequences = [] }

-- directory 0 is that of the unit, and file 0 is a second file 1
older : lines_as 5 4 here (lines (inc ∷ []) (file ∷ [])) ≡ lines (here ∷ inc ∷ []) (file ∷ file ∷ [])
older = refl

-- a table stays as it is whose unit counts as it does
of_its_unit :
    (lines_as 4 4 here (lines (inc ∷ []) (file ∷ [])) ≡ lines (inc ∷ []) (file ∷ []))
    × (lines_as 5 5 here (lines (here ∷ inc ∷ []) (file ∷ file ∷ [])) ≡ lines (here ∷ inc ∷ []) (file ∷ file ∷ []))
of_its_unit = (refl, refl)
