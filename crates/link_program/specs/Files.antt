-- Reading the files of a link, and what was read.
use Rattle.std.specs.Prelude.{◌≡◌, ℕ, ◌+◌, ◌-◌, ◌^◌, ◌≤◌, Bool, false, true, List, [], ◌∷◌, ◌++◌, length, Option, Some, None, Result, Ok, Err}
use Rattle.std.specs.Option.{option_map}
use Rattle.std.specs.List.{find, list_any}
use Rattle.std.specs.Str.{bytes_eq}
use Rattle.std.specs.FinMap as map
use Rattle.ds_files.specs.Outside.{Contents, Counts, IsLater, IsOneCall, Told, ReadFails, called}
use Rattle.ds_files.specs.declared.files.FileError.{FileError}
use Rattle.ds_files.specs.declared.files.FileError.TheVariants as errors
use Rattle.stab_map.specs.declared.object.MapObject.{MapObject}
use Rattle.link_status.specs.declared.status.Status.{Status}
use Rattle.link_status.specs.declared.status.Status.TheVariants as statuses
use Rattle.link_status.specs.declared.refusal.LimitKind.TheVariants as limits
use Rattle.link_program.specs.declared.files.Stopped.{Stopped}
use Rattle.link_program.specs.Warnings.{warning}

-- the files, where they are told, how often they were asked for and what went wrong so far
pub record World : Type 0 where
  pub files : Option Contents
  pub counts : Counts

abbrev pub world : Option Contents → Counts → World
world files counts = record { files = files; counts = counts }

-- the most bytes that all files may have together
abbrev pub most_input : ℕ
most_input = 2 ^ 29

-- a file was read by one call, which alone is counted: these bytes, which are the file's where files are told
pub record ReadsFile (name : List ℕ) (most : ℕ) (bytes : List ℕ) (before after : World) : Type 0 where
  pub few : length bytes ≤ most
  pub told : Told before.files (λ files. map.get files name ≡ Some bytes)
  pub same : after.files ≡ before.files
  pub counted : after.counts ≡ called before.counts
  pub later : IsLater before.counts after.counts

-- the call did not read it, and this is why
pub record MissesFile (name : List ℕ) (most : ℕ) (error : FileError) (before after : World) : Type 0 where
  pub cause : ReadFails before.files name most before.counts after.counts error
  pub same : after.files ≡ before.files
  pub once : IsOneCall before.counts after.counts
  pub later : IsLater before.counts after.counts

-- the status for a file that was not read
abbrev pub unread_status : ℕ → FileError → Status
unread_status file errors.Missing = statuses.Missing file
unread_status file errors.Failed = statuses.ReadFault file
unread_status file errors.TooLong = statuses.Limit limits.Input most_input
unread_status file errors.NoMemory = statuses.NoMemory

-- the program's file was read or not
abbrev pub ReadsProgram : List ℕ → World → World → Result (List ℕ) Status → Type 0
ReadsProgram exe before after (Ok bytes) = ReadsFile exe most_input bytes before after
ReadsProgram exe before after (Err status) = (error : FileError) × (status ≡ unread_status 0 error) × MissesFile exe most_input error before after

-- a file that was read
pub record HeldFile : Type 0 where
  pub name : List ℕ
  pub bytes : List ℕ

-- the bytes of the file of a name, if it was read
abbrev pub content_in : List HeldFile → List ℕ → Option (List ℕ)
content_in held name = option_map (λ f. f.bytes) (find (λ f. bytes_eq name f.name) held)

-- ---- the files of objects

-- The files that are held, the names of those that were let go, how many bytes the others may have together, and the warnings so far.
pub record Held : Type 0 where
  pub files : List HeldFile
  pub missing : List (List ℕ)
  pub left : ℕ
  pub warnings : List ℕ

abbrev pub none_held : ℕ → Held
none_held most = record { files = []; missing = []; left = most; warnings = [] }

-- a file of this name was let go
abbrev pub is_missing : List (List ℕ) → List ℕ → Bool
is_missing missing name = list_any (bytes_eq name) missing

-- one more file is held
abbrev pub with_file : Held → List ℕ → List ℕ → Held
with_file held name bytes = record held { files = held.files ++ record { name = name; bytes = bytes } ∷ []; left = held.left - length bytes }

-- an object is told whose file was let go
abbrev pub with_warning : Held → MapObject → Held
with_warning held object = record held { warnings = held.warnings ++ warning object }

-- the file of an object is let go
abbrev pub with_missing : Held → MapObject → Held
with_missing held object = record held { missing = held.missing ++ object.file ∷ []; warnings = held.warnings ++ warning object }

-- a missing file is passed over where that is asked
abbrev pub passes_over : Bool → FileError → Bool
passes_over keep_going errors.Missing = keep_going
passes_over keep_going _ = false

-- Memory ran out behind the one call for the file of a name, which read the file or missed it.
pub data RunsOut (name : List ℕ) (most : ℕ) (before after : World) : Type 0 where
  behind_read : (bytes : List ℕ) → ReadsFile name most bytes before after → RunsOut name most before after
  behind_miss : (error : FileError) → MissesFile name most error before after → RunsOut name most before after

-- the file of an object was neither read nor let go before
pub record IsNew (held : Held) (object : MapObject) : Type 0 where
  pub unread : content_in held.files object.file ≡ None
  pub kept : is_missing held.missing object.file ≡ false

-- The files of objects are read in the order of the objects, which have numbers from one on, each file once and by one call. The answer is what is held then, or why reading ended, with the warnings so far: a file was not read and not let go, or memory ran out, before the call for a file or behind it.
pub data ReadsFiles (keep_going : Bool) : (number : ℕ) → List MapObject → Held → (before after : World) → Result Held Stopped → Type 0 where
  all_held : (number : ℕ) (held : Held) (now : World) → ReadsFiles keep_going number [] held now now (Ok held)
  is_held : (number : ℕ) (object : MapObject) (objects : List MapObject) (held : Held) (before after : World) (bytes : List ℕ) (answer : Result Held Stopped)
      → content_in held.files object.file ≡ Some bytes → ReadsFiles keep_going (number + 1) objects held before after answer → ReadsFiles keep_going number (object ∷ objects) held before after answer
  was_passed_over : (number : ℕ) (object : MapObject) (objects : List MapObject) (held : Held) (before after : World) (answer : Result Held Stopped)
      → content_in held.files object.file ≡ None → is_missing held.missing object.file ≡ true → ReadsFiles keep_going (number + 1) objects (with_warning held object) before after answer
      → ReadsFiles keep_going number (object ∷ objects) held before after answer
  is_read : (number : ℕ) (object : MapObject) (objects : List MapObject) (held : Held) (before middle after : World) (bytes : List ℕ) (answer : Result Held Stopped)
      → IsNew held object → ReadsFile object.file held.left bytes before middle → ReadsFiles keep_going (number + 1) objects (with_file held object.file bytes) middle after answer
      → ReadsFiles keep_going number (object ∷ objects) held before after answer
  is_passed_over : (number : ℕ) (object : MapObject) (objects : List MapObject) (held : Held) (before middle after : World) (error : FileError) (answer : Result Held Stopped)
      → IsNew held object → MissesFile object.file held.left error before middle → passes_over keep_going error ≡ true
      → ReadsFiles keep_going (number + 1) objects (with_missing held object) middle after answer → ReadsFiles keep_going number (object ∷ objects) held before after answer
  is_unread : (number : ℕ) (object : MapObject) (objects : List MapObject) (held : Held) (before after : World) (error : FileError)
      → IsNew held object → MissesFile object.file held.left error before after → passes_over keep_going error ≡ false
      → ReadsFiles keep_going number (object ∷ objects) held before after (Err (record { status = unread_status number error; warnings = held.warnings }))
  ran_out_unasked : (number : ℕ) (objects : List MapObject) (held : Held) (now : World) (warnings : List ℕ)
      → ReadsFiles keep_going number objects held now now (Err (record { status = statuses.NoMemory; warnings = warnings }))
  ran_out_behind : (number : ℕ) (object : MapObject) (objects : List MapObject) (held : Held) (before after : World) (warnings : List ℕ)
      → IsNew held object → RunsOut object.file held.left before after
      → ReadsFiles keep_going number (object ∷ objects) held before after (Err (record { status = statuses.NoMemory; warnings = warnings }))
