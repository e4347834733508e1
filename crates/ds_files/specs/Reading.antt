-- Reading a reader to its end, where it tells its bytes.
use Rattle.std.specs.Prelude.{ℕ, ◌<◌, List, length, Option}
use Rattle.ds_files.specs.Outside.{Told}
use Rattle.ds_files.specs.declared.files.FileError.{FileError}
use Rattle.ds_files.specs.declared.files.FileError.TheVariants as errors

-- Why a reader with these bytes left was not read whole. It is there, so it is not missing.
abbrev pub WholeFails : Option (List ℕ) → ℕ → FileError → Type 0
WholeFails left most errors.Missing = ⊥
WholeFails left most errors.Failed = Unit {0}
WholeFails left most errors.TooLong = Told left (λ bytes. most < length bytes)
WholeFails left most errors.NoMemory = Unit {0}
