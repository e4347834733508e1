-- Parts of line tables where they stand, as the values of which contracts speak.
use Rattle.std.specs.Prelude.{List, [], ◌∷◌, None, map}
use Rattle.std.specs.Option.{option_copied}
use Rattle.dwarf_types.specs.declared.files.FileNameRef.{FileNameRef}
use Rattle.dwarf_types.specs.declared.lines.FileName.{FileName}
use Rattle.dwarf_types.specs.declared.lines.RawRow.{RawRow}
use Rattle.dwarf_types.specs.declared.lines.RawSequence.{RawSequence}
use Rattle.dwarf_types.specs.declared.lines.Row.{Row}
use Rattle.dwarf_types.specs.declared.lines.Sequence.{Sequence}
use Rattle.dwarf_types.specs.declared.rows.Rows.{Rows}
use Rattle.dwarf_types.specs.declared.sequences.RawSequenceRef.{RawSequenceRef}
use Rattle.dwarf_types.specs.declared.sequences.SequenceRef.{SequenceRef}
use Rattle.dwarf_types.specs.Packed.{row_of}

abbrev pub file_seen : FileNameRef → FileName
file_seen f = record { name = f.name.now; dir = f.dir; time = f.time; size = f.size; digest = option_copied f.digest }

unfoldable pub rows_seen : Rows → List Row
rows_seen r = map (row_of r.wide.now) r.packed.now

abbrev pub sequence_seen : SequenceRef → Sequence
sequence_seen s = record { rows = rows_seen s.rows; end = s.end }

abbrev pub raw_sequence_seen : RawSequenceRef → RawSequence
raw_sequence_seen s = record { rows = s.rows.now; end = s.end }

-- sequences that are put one behind the other, and the rows of the next one
pub record SequencesBuilt : Type 0 where
  pub ended : List Sequence
  pub rows : List Row

pub record RawSequencesBuilt : Type 0 where
  pub ended : List RawSequence
  pub rows : List RawRow

-- rows that are left are a sequence without an end
abbrev pub last_of : List RawRow → List RawSequence
last_of [] = []
last_of (row ∷ rows) = record { rows = row ∷ rows; end = None } ∷ []
