-- The one pass over a program's operations: what has been made of those before.
use Rattle.std.specs.Prelude.{ℕ, zero, suc, ◌-◌, ◌==◌, List, [], ◌∷◌, ◌++◌, Some, None, Result, Ok, Err, if◌then◌else◌}
use Rattle.ds_base.specs.declared.fault.Fault.{Fault}
use Rattle.ds_base.specs.declared.fault.Kind.TheVariants as kinds
use Rattle.ds_base.specs.Spot.{Spot, fault_at}
use Rattle.ds_base.specs.Reading.{◌>>=◌, refuse_if}
use Rattle.dwarf_types.specs.declared.lines.FileName.{FileName}
use Rattle.dwarf_types.specs.declared.lines.RawLines.{RawLines}
use Rattle.dwarf_types.specs.declared.lines.RawRow.{RawRow}
use Rattle.dwarf_types.specs.SeenLines.{last_of}
use Rattle.line_read.specs.declared.header.LineHeader.{LineHeader}
use Rattle.line_read.specs.declared.operation.LineOp.{LineOp}
use Rattle.line_read.specs.declared.operation.LineOp.TheVariants as ops
use Rattle.line_read.specs.declared.program.Matrix.{Matrix}
use Rattle.line_read.specs.Registers.{initial, changed, cleared}
use Rattle.line_read.specs.Program.{falls, last_placed, backwards}

-- nothing but the files of the header
abbrev pub empty_matrix : LineHeader → List FileName → Matrix
empty_matrix header files = record { files = files; built = record { ended = []; rows = [] }; registers = initial header; last = None }

-- a row is appended
unfoldable pub row_at : ℕ → RawRow → Matrix → Result Matrix Fault
row_at place r m = do
  _ ← refuse_if (falls m.last r.at) (backwards place)
  Ok (record m { built = record m.built { rows = m.built.rows ++ r ∷ [] }; registers = cleared r; last = last_placed m.last r.at })

-- a sequence ends where the registers stand
unfoldable pub end_at : LineHeader → ℕ → Matrix → Result Matrix Fault
end_at header place m = do
  _ ← refuse_if (falls m.last m.registers.at) (backwards place)
  Ok (record {
    files = m.files;
    built = record { ended = m.built.ended ++ record { rows = m.built.rows; end = Some m.registers.at } ∷ []; rows = [] };
    registers = initial header;
    last = None;
  })

-- an operation is run
unfoldable pub step_of : LineHeader → ℕ → LineOp → Matrix → Result Matrix Fault
step_of header place (ops.Special adjusted) m = row_at place (changed header (ops.Special adjusted) m.registers) m
step_of header place ops.Copy m = row_at place (changed header ops.Copy m.registers) m
step_of header place ops.EndSequence m = end_at header place m
step_of header place (ops.DefineFile file) m = Ok (record m { files = m.files ++ file ∷ [] })
step_of header place op m = Ok (record m { registers = changed header op m.registers })

-- operations are read and run up to the end
abbrev pub run_at : (Spot → Result (LineOp × Spot) Fault) → LineHeader → ℕ → Matrix → Spot → Result Matrix Fault
run_at read header zero m s = if s.end - s.place == 0 then Ok m else Err (fault_at s kinds.Truncated)
run_at read header (suc left) m s =
    if s.end - s.place == 0 then Ok m
    else (read s >>= λ op. step_of header s.place op.0 m >>= λ new. run_at read header left new op.1)

-- all is run; rows behind the last end are a sequence that has none
abbrev pub finished : List (List ℕ) → Matrix → RawLines
finished dirs m = record { dirs = dirs; files = m.files; sequences = m.built.ended ++ last_of m.built.rows }
