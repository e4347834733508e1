-- A line table of whose program no byte is left out.
use Rattle.std.specs.Prelude.{◌≡◌, ℕ, ◌<◌, List, [], ◌∷◌, Option, Some, None, Result, Ok, Err, OnOk}
use Rattle.ds_base.specs.declared.fault.Fault.{Fault}
use Rattle.ds_base.specs.Spot.{Spot}
use Rattle.dwarf_types.specs.declared.lines.FileName.{FileName}
use Rattle.dwarf_types.specs.declared.lines.RawLines.{RawLines}
use Rattle.dwarf_types.specs.SectionBytes.{SectionBytes}
use Rattle.line_read.specs.declared.header.LineHeader.{LineHeader}
use Rattle.line_read.specs.declared.operation.LineOp.{LineOp}
use Rattle.line_read.specs.Header.{table_at, version_at, sizes_at, program_at, fields_at}
use Rattle.line_read.specs.Program.{Listing, header_end, program_of}
use Rattle.line_read.specs.Tables.{dirs_at, files_at}

-- Operations end where a cursor stands: the program ends there, or the operation that begins there is wrong.
abbrev pub Ends : (Spot → Result (LineOp × Spot) Fault) → Spot → Option Fault → Type 0
Ends read s None = s.place ≡ s.end
Ends read s (Some f) = (s.place < s.end) × (read s ≡ Err f)

-- operations that follow each other without a gap from where a cursor stands: each is what is read where the one before ends
abbrev pub Fill : (Spot → Result (LineOp × Spot) Fault) → Spot → List (ℕ × LineOp) → Option Fault → Type 0
Fill read s [] stop = Ends read s stop
Fill read s (op ∷ more) stop = (t : Spot) × (op.0 ≡ s.place) × (read s ≡ Ok (op.1, t)) × (s.place < t.place) × Fill read t more stop

-- the table that begins at first: its program begins where header_length says, and ends where unit_length says; its header, directories and files are what
-- stands before, one behind the other
pub record IsTable (sections : SectionBytes) (unit : ℕ) (first program : Spot) (header : LineHeader) (dirs : List (List ℕ)) (files : List FileName) : Type 0 where
  pub table : Spot
  pub version : ℕ × Spot
  pub sizes : Unit {0} × Spot
  pub behind : Spot
  pub dirs_from : Spot
  pub files_from : Spot
  pub files_to : Spot
  pub opened : table_at first ≡ Ok table
  pub versioned : version_at unit table ≡ Ok version
  pub sized : sizes_at first version.0 version.1 ≡ Ok sizes
  pub placed : program_at first sizes.1 ≡ Ok (program, behind)
  pub ended : program.end ≡ table.end
  pub headed : fields_at first version.0 behind ≡ Ok (header, dirs_from)
  pub dirs_read : dirs_at (header_end first program) sections version.0 dirs_from ≡ Ok (dirs, files_from)
  pub files_read : files_at (header_end first program) sections version.0 files_from ≡ Ok (files, files_to)

-- a table that is read has a header, directories and files, which stand before its program
pub record HasTable (sections : SectionBytes) (unit : ℕ) (first : Spot) : Type 0 where
  pub header : LineHeader
  pub dirs : List (List ℕ)
  pub files : List FileName
  pub program : Spot
  pub stands : IsTable sections unit first program header dirs files

-- what a table answers under its header, directories and files: what the operations mean that fill its program, up to its end or to the first that is wrong; where it is read, up to its end
pub record IsWhole (read : Spot → Result (LineOp × Spot) Fault) (program : Spot) (header : LineHeader) (dirs : List (List ℕ)) (files : List FileName) (answer : Result RawLines Fault) : Type 0 where
  pub listing : Listing
  pub filled : Fill read program listing.ops listing.stop
  pub means : answer ≡ program_of header dirs files listing
  pub ended : OnOk answer (listing.stop ≡ None)
