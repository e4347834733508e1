-- A line program (DWARF 4 and DWARF 5, section 6.2): the list of its operations, the matrix of rows that they give, and its sequences.
use Rattle.std.specs.Prelude.{ℕ, zero, suc, ◌-◌, ◌==◌, Bool, true, false, List, [], ◌∷◌, ◌++◌, Option, Some, None, Result, Ok, Err, nat_lt, if◌then◌else◌}
use Rattle.ds_base.specs.declared.fault.Fault.{Fault}
use Rattle.ds_base.specs.declared.fault.Kind.TheVariants as kinds
use Rattle.ds_base.specs.declared.fault.Part.TheVariants as parts
use Rattle.ds_base.specs.Spot.{Spot, fault_at}
use Rattle.ds_base.specs.Reading.{◌>>=◌, refuse_if}
pub use Rattle.ds_base.specs.Reading.{unless_stopped}
use Rattle.dwarf_types.specs.declared.address.Addr.{Addr}
use Rattle.dwarf_types.specs.declared.address.Addr.TheVariants as addrs
use Rattle.dwarf_types.specs.declared.lines.FileName.{FileName}
use Rattle.dwarf_types.specs.declared.lines.RawLines.{RawLines}
use Rattle.dwarf_types.specs.declared.lines.RawRow.{RawRow}
use Rattle.dwarf_types.specs.declared.lines.RawSequence.{RawSequence}
use Rattle.dwarf_types.specs.SectionBytes.{SectionBytes}
use Rattle.macho_read.specs.declared.image.Image.{Image}
use Rattle.reloc_table.specs.declared.relocation.Relocs.{Relocs}
use Rattle.line_read.specs.declared.header.LineHeader.{LineHeader}
use Rattle.line_read.specs.declared.names.HeaderEnd.{HeaderEnd}
use Rattle.line_read.specs.declared.operation.LineOp.{LineOp}
use Rattle.line_read.specs.declared.operation.LineOp.TheVariants as ops
use Rattle.line_read.specs.Header.{line_at, bad, table_at, version_at, sizes_at, program_at, fields_at}
use Rattle.line_read.specs.Tables.{dirs_at, files_at}
use Rattle.line_read.specs.Operation.{op_at}
use Rattle.line_read.specs.Registers.{initial, changed, next}

-- ---- operations

-- the operations of a program, each with its place, up to the first that is faulty
pub record Listing : Type 0 where
  pub ops : List (ℕ × LineOp)
  pub stop : Option Fault

-- an operation before others
abbrev pub listed : ℕ → Result (LineOp × Spot) Fault → (Spot → Listing) → Listing
listed place (Ok op) more = record (more op.1) { ops = (place, op.0) ∷ (more op.1).ops }
listed place (Err f) more = record { ops = []; stop = Some f }

-- The operations up to the end. Each takes a byte at least, so the count of the bytes that are left bounds them; where it ran out before the end, that would be a fault.
abbrev pub ops_at : (Spot → Result (LineOp × Spot) Fault) → ℕ → Spot → Listing
ops_at read zero s = record { ops = []; stop = if s.end - s.place == 0 then None else Some (fault_at s kinds.Truncated) }
ops_at read (suc left) s = if s.end - s.place == 0 then record { ops = []; stop = None } else listed s.place (read s) (λ t. ops_at read left t)

-- the files that operations define
abbrev pub defined : List (ℕ × LineOp) → List FileName
defined [] = []
defined ((place, ops.DefineFile file) ∷ more) = file ∷ defined more
defined ((place, op) ∷ more) = defined more

-- ---- rows

-- a row of the matrix: the place of the operation that appends it, the registers, and whether it is the end of a sequence
pub record MatrixRow : Type 0 where
  pub place : ℕ
  pub registers : RawRow
  pub ends : Bool

-- the row that an operation appends, if it does
abbrev pub row_of : LineHeader → ℕ → LineOp → RawRow → List MatrixRow
row_of header place (ops.Special adjusted) r = record { place = place; registers = changed header (ops.Special adjusted) r; ends = false } ∷ []
row_of header place ops.Copy r = record { place = place; registers = r; ends = false } ∷ []
row_of header place ops.EndSequence r = record { place = place; registers = r; ends = true } ∷ []
row_of header place op r = []

-- the rows that operations append, from where the registers stand
abbrev pub matrix : LineHeader → RawRow → List (ℕ × LineOp) → List MatrixRow
matrix header r [] = []
matrix header r (op ∷ more) = row_of header op.0 op.1 r ++ matrix header (next header op.1 r) more

-- ---- addresses of a sequence, which do not fall

-- the last address of the object up to a row, where this is the last one before it
abbrev pub last_placed : Option ℕ → Addr → Option ℕ
last_placed last (addrs.Placed a) = Some a
last_placed last (addrs.Named symbol a) = last
last_placed last (addrs.Fixed a) = last

abbrev pub falls : Option ℕ → Addr → Bool
falls (Some last) (addrs.Placed a) = nat_lt a last
falls last at = false

abbrev pub backwards : ℕ → Fault
backwards place = record { kind = kinds.LineBackwards; section = parts.Line; place = place }

-- no address of the object is below the last one before it in its sequence
abbrev pub all_rise : Option ℕ → List MatrixRow → Result (Unit {0}) Fault
all_rise last [] = Ok tt
all_rise last (row ∷ more) = do
  _ ← refuse_if (falls last row.registers.at) (backwards row.place)
  all_rise (if row.ends then None else last_placed last row.registers.at) more

-- ---- sequences

-- a row before those of the first sequence
abbrev pub before : RawRow → List RawSequence → List RawSequence
before row [] = record { rows = row ∷ []; end = None } ∷ []
before row (s ∷ more) = record s { rows = row ∷ s.rows } ∷ more

-- rows cut behind each that ends a sequence; the last sequence may have no end
abbrev pub sequences : List MatrixRow → List RawSequence
sequences [] = []
sequences (row ∷ more) = if row.ends then record { rows = []; end = Some row.registers.at } ∷ sequences more else before row.registers (sequences more)

-- ---- the whole

-- What a listing means. A faulty operation stands behind all that are listed, so addresses are tried first.
unfoldable pub program_of : LineHeader → List (List ℕ) → List FileName → Listing → Result RawLines Fault
program_of header dirs files listing = do
  _ ← all_rise None (matrix header (initial header) listing.ops)
  _ ← unless_stopped listing.stop
  Ok (record { dirs = dirs; files = files ++ defined listing.ops; sequences = sequences (matrix header (initial header) listing.ops) })

-- where the header of a table ends, which begins at first
abbrev pub header_end : Spot → Spot → HeaderEnd
header_end first program = record { place = program.place; passed = bad first; bad_format = fault_at first kinds.BadEntryFormat }

-- the line table that begins at first, of a unit of a version
unfoldable pub lines_from : Image → Relocs → SectionBytes → ℕ → Spot → Result RawLines Fault
lines_from image relocs sections unit first = do
  s ← table_at first
  version ← version_at unit s
  sizes ← sizes_at first version.0 version.1
  program ← program_at first sizes.1
  header ← fields_at first version.0 program.1
  dirs ← dirs_at (header_end first program.0) sections version.0 header.1
  files ← files_at (header_end first program.0) sections version.0 dirs.1
  program_of header.0 dirs.0 files.0 (ops_at (op_at header.0 image relocs) (program.0.end - program.0.place) program.0)

-- the line table that begins at a place of the section
abbrev pub lines_of : Image → Relocs → SectionBytes → ℕ → ℕ → Result RawLines Fault
lines_of image relocs sections version offset = lines_from image relocs sections version (line_at sections.line offset)
