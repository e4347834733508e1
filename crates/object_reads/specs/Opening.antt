-- What files are for a program of a CPU type and subtype.
use Rattle.std.specs.Prelude.{◌≡◌, ℕ, List, map, Option, Some, None, Result, Ok, Err}
use denote.Ref.{Bor}
use Rattle.ds_base.specs.declared.fault.Fault.{Fault}
use Rattle.universal.specs.declared.choosing.Arch.{Arch}
use Rattle.universal.specs.Choice.{slice_for}
use Rattle.object_reads.specs.declared.opened.Opened.{Opened}
use Rattle.object_reads.specs.declared.opened.Opened.TheVariants as opens

-- the bytes that are read, or why none are
abbrev pub opened_as : Opened → Result (List ℕ) Fault
opened_as (opens.Thin file) = Ok file.bytes.now
opened_as (opens.Refused fault) = Err fault

-- each file is opened
abbrev pub AreOpened : Arch → List (List ℕ) → List Opened → Type 0
AreOpened arch files opened = map opened_as opened ≡ map (slice_for arch) files

-- the file of an object is opened, where it has one
abbrev pub IsOpened : Arch → Option (List ℕ) → Option (Bor Opened) → Type 0
IsOpened arch None opened = opened ≡ None
IsOpened arch (Some file) (Some opened) = opened_as opened.now ≡ slice_for arch file
IsOpened arch (Some file) None = ⊥
