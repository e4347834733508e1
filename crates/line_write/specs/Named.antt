-- Bytes of a line table with holes for the places of its texts.
use Rattle.std.specs.Prelude.{◌≡◌, ℕ, ◌+◌, ◌==◌, List, [], ◌++◌, fold, length, map, slice_get, Some, if◌then◌else◌}
use Rattle.byteorder.specs.Endian.{little_bytes}
use Rattle.ds_base.specs.Texts.{with_text}
use Rattle.dwarf_types.specs.declared.lines.OutLines.{OutLines}
use Rattle.dwarf_types.specs.LineTable.{version_bytes}
use Rattle.patches.specs.declared.hole.Outer.TheVariants as outer
use Rattle.patches.specs.Filling.{Filling, Holey, filled}

-- the texts of a table, in the order of their holes: in version 5 its directories and then its files; in version 4 none, since they stand in the table
abbrev pub texts_in : ℕ → OutLines → List (List ℕ)
texts_in version lines = if version == 5 then lines.dirs ++ map (λ file. file.name) lines.files else []

-- the filling puts the place of each of these texts into the holes of its number
abbrev pub TellsTexts : List (List ℕ) → Filling → (List ℕ → ℕ) → Type 0
TellsTexts texts f text = (i : ℕ) (t : List ℕ) → slice_get texts i ≡ Some t → f.outer (outer.LineText i) ≡ text t

-- bytes were put last that name texts by their places, and these texts were added to those with numbers
pub record AppendsNamed (old new : Holey) (before after : List (List ℕ)) (part : (List ℕ → ℕ) → List ℕ) (uses : List (List ℕ)) : Type 0 where
  pub bytes : (f : Filling) (text : List ℕ → ℕ) → TellsTexts after f text → filled new f ≡ filled old f ++ part text
  pub names : after ≡ fold with_text before uses

-- a table of these fields and this program: unit_length, the version, header_length, the fields, the program
abbrev pub table_of : ℕ → List ℕ → List ℕ → List ℕ
table_of version fields program =
    little_bytes 4 (length (version_bytes version) + 4 + length fields + length program) ++ (version_bytes version ++ (little_bytes 4 (length fields) ++ (fields ++ program)))
