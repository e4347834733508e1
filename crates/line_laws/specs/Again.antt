-- A written line table as it is read again.
use Rattle.std.specs.Prelude.{◌≡◌, ◌<◌, ◌^◌, ◌++◌, ℕ, List, Some, map, length}
use Rattle.std.specs.List.{All}
use Rattle.ds_base.specs.Texts.{ended}
use Rattle.dwarf_types.specs.declared.address.Addr.TheVariants as addrs
use Rattle.dwarf_types.specs.declared.lines.OutLines.{OutLines}
use Rattle.dwarf_types.specs.declared.lines.RawLines.{RawLines}
use Rattle.dwarf_types.specs.declared.lines.RawRow.{RawRow}
use Rattle.dwarf_types.specs.declared.lines.RawSequence.{RawSequence}
use Rattle.dwarf_types.specs.declared.lines.Row.{Row}
use Rattle.dwarf_types.specs.declared.lines.Sequence.{Sequence}

-- a row, whose address no relocation moves
abbrev pub read_row : Row → RawRow
read_row row = record { at = addrs.Fixed row.address; row = record row { address = 0 } }

abbrev pub read_sequence : Sequence → RawSequence
read_sequence sequence = record { rows = map read_row sequence.rows; end = Some (addrs.Fixed sequence.end) }

abbrev pub read_again : OutLines → RawLines
read_again lines = record { dirs = lines.dirs; files = lines.files; sequences = map read_sequence lines.sequences }

-- ---- texts of tables of version 5, which stand in a section of their own

-- a text stands at a place of a section with its end, and four bytes hold the place
pub record StandsAt (section text : List ℕ) (place : ℕ) : Type 0 where
  pub front : List ℕ
  pub more : List ℕ
  pub is : section ≡ front ++ (ended text ++ more)
  pub there : place ≡ length front
  pub fits : place < 2 ^ 32

-- the names of a table's directories and files, each at the place that is told for its text
pub record AreThere (section : List ℕ) (place_of : List ℕ → ℕ) (lines : OutLines) : Type 0 where
  pub dirs : All (λ dir. StandsAt section dir (place_of dir)) lines.dirs
  pub files : All (λ file. StandsAt section file.name (place_of file.name)) lines.files
