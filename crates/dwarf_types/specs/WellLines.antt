-- What the line tables and the frames of a well graph keep to.
use Rattle.std.specs.Prelude.{◌≡◌, ◌<◌, ◌≤◌, ◌^◌, ℕ, List, [], ◌∷◌, length, Option, Some, None}
use Rattle.std.specs.List.{All}
use Rattle.dwarf_types.specs.declared.frames.OutFrame.{OutFrame}
use Rattle.dwarf_types.specs.declared.lines.FileName.{FileName}
use Rattle.dwarf_types.specs.declared.lines.OutLines.{OutLines}
use Rattle.dwarf_types.specs.declared.lines.Row.{Row}
use Rattle.dwarf_types.specs.declared.lines.Sequence.{Sequence}
use Rattle.dwarf_types.specs.Spelled.{AreBytes, AreTextBytes}

-- a name of a table of a version; in version 4 it is not empty, since an empty one ends its table
pub record IsPath (version : ℕ) (name : List ℕ) : Type 0 where
  pub some : version ≡ 4 → 0 < length name
  pub text : AreTextBytes name

pub record IsFile (version : ℕ) (file : FileName) : Type 0 where
  pub name : IsPath version file.name
  pub dir : file.dir < 2 ^ 64
  pub time : file.time < 2 ^ 64
  pub size : file.size < 2 ^ 64

abbrev pub IsDigest : Option (List ℕ) → Type 0
IsDigest None = ⊥
IsDigest (Some bytes) = (length bytes ≡ 16) × AreBytes bytes

-- no file has a digest, or in version 5 each has one
pub data HaveDigests (version : ℕ) (files : List FileName) : Type 0 where
  none_has : All (λ file. file.digest ≡ None) files → HaveDigests version files
  each_has : version ≡ 5 → All (λ file. IsDigest file.digest) files → HaveDigests version files

pub record IsRow (row : Row) : Type 0 where
  pub address : row.address < 2 ^ 64
  pub file : row.file < 2 ^ 64
  pub line : row.line < 2 ^ 32
  pub column : row.column < 2 ^ 64
  pub discriminator : row.discriminator < 2 ^ 64
  pub isa : row.isa < 2 ^ 64

-- from an address on the rows' addresses never fall, and neither does the end
abbrev pub NeverFall : ℕ → List Row → ℕ → Type 0
NeverFall from [] end = from ≤ end
NeverFall from (row ∷ rows) end = (from ≤ row.address) × NeverFall row.address rows end

pub record IsSequence (sequence : Sequence) : Type 0 where
  pub some : 0 < length sequence.rows
  pub rows : All IsRow sequence.rows
  pub order : NeverFall 0 sequence.rows sequence.end
  pub end : sequence.end < 2 ^ 64

pub record IsLineTable (version : ℕ) (lines : OutLines) : Type 0 where
  pub dirs : All (IsPath version) lines.dirs
  pub files : All (IsFile version) lines.files
  pub digests : HaveDigests version lines.files
  pub sequences : All IsSequence lines.sequences

pub record IsFrame (frame : OutFrame) : Type 0 where
  pub cie : AreBytes frame.cie
  pub address : frame.address < 2 ^ 64
  pub length : frame.length < 2 ^ 64
  pub code : AreBytes frame.code
