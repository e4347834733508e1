-- What the rows of line tables stand for.
use Rattle.std.specs.Prelude.{ℕ, ◌≤◌, List, All, length, map, drop, IfSome}
use Rattle.std.specs.Option.{option_map}
use Rattle.dwarf_types.specs.declared.files.FileRow.{FileRow}
use Rattle.dwarf_types.specs.declared.lines.FileName.{FileName}
use Rattle.dwarf_types.specs.declared.lines.RawRow.{RawRow}
use Rattle.dwarf_types.specs.declared.lines.RawSequence.{RawSequence}
use Rattle.dwarf_types.specs.declared.lines.Row.{Row}
use Rattle.dwarf_types.specs.declared.lines.Sequence.{Sequence}
use Rattle.dwarf_types.specs.declared.sequences.RawSequenceRow.{RawSequenceRow}
use Rattle.dwarf_types.specs.declared.sequences.SequenceRow.{SequenceRow}
use Rattle.dwarf_types.specs.Runs.{InRun, InTexts, run_of, text_of}
use Rattle.dwarf_types.specs.SeenLines.{RawSequencesBuilt, SequencesBuilt}

-- a file, whose name is a text and whose digest is a run of the table's own bytes
abbrev pub file_of : List ℕ → List ℕ → FileRow → FileName
file_of shared own r = record { name = text_of shared own r.name; dir = r.dir; time = r.time; size = r.size; digest = option_map (run_of own) r.digest }

abbrev pub FileWithin : List ℕ → List ℕ → FileRow → Type 0
FileWithin shared own r = InTexts shared own r.name × IfSome r.digest (InRun own)

-- a sequence, whose rows are a run of all rows
abbrev pub sequence_of : List Row → SequenceRow → Sequence
sequence_of rows s = record { rows = run_of rows s.rows; end = s.end }

abbrev pub SequenceWithin : List Row → SequenceRow → Type 0
SequenceWithin rows s = InRun rows s.rows

abbrev pub raw_sequence_of : List RawRow → RawSequenceRow → RawSequence
raw_sequence_of rows s = record { rows = run_of rows s.rows; end = s.end }

abbrev pub RawSequenceWithin : List RawRow → RawSequenceRow → Type 0
RawSequenceWithin rows s = InRun rows s.rows

-- the sequences that have ended, and the rows from a place on
abbrev pub built_of : List Row → List SequenceRow → ℕ → SequencesBuilt
built_of rows ended open_from = record { ended = map (sequence_of rows) ended; rows = drop open_from rows }

abbrev pub raw_built_of : List RawRow → List RawSequenceRow → ℕ → RawSequencesBuilt
raw_built_of rows ended open_from = record { ended = map (raw_sequence_of rows) ended; rows = drop open_from rows }

abbrev pub IsBuilt : List Row → List SequenceRow → ℕ → Type 0
IsBuilt rows ended open_from = All (SequenceWithin rows) ended × (open_from ≤ length rows)

abbrev pub IsRawBuilt : List RawRow → List RawSequenceRow → ℕ → Type 0
IsRawBuilt rows ended open_from = All (RawSequenceWithin rows) ended × (open_from ≤ length rows)
