-- What the command answers where files tell their contents and no call of them fails: how it ends, and the files after it. The cases of each step stand in the order of the work. Want of memory may come wherever a plan is done, and says nothing more.
use Rattle.std.specs.Prelude.{◌≡◌, ◌⊎◌, ◌≤◌, ℕ, ◌+◌, ◌-◌, Bool, false, true, List, [], ◌∷◌, ◌++◌, length, map, Option, Some, None, IsSome, is_some, Ok, Err, nat_lt, if◌then◌else◌}
use Rattle.std.specs.List.{All, list_any}
use Rattle.std.specs.Str.{bytes_eq}
use Rattle.std.specs.FinMap as fin
use Rattle.ds_files.specs.Outside.{Contents, Counts, Rose}
use Rattle.stab_map.specs.declared.object.MapObject.{MapObject}
use Rattle.sample_objects.specs.GeneratedProgram.{generated_program}
use Rattle.link_program.specs.declared.bundle.Bundle.{Bundle}
use Rattle.link_status.specs.declared.refusal.LimitKind.TheVariants as limits
use Rattle.link_status.specs.declared.refusal.Refusal.{Refusal}
use Rattle.link_program.specs.Making.{HasNoRefusal}
use Rattle.object_reads.specs.Sources.{Source}
use Rattle.link_status.specs.Names.{image_name, plist_name}
use Rattle.link_status.specs.declared.status.Status.{Status}
use Rattle.link_status.specs.declared.status.Status.TheVariants as statuses
use Rattle.link_status.specs.Statuses.{refused_status}
use Rattle.link_cli.specs.declared.ending.Ending.{Ending}
use Rattle.link_cli.specs.declared.plan.Mode.{Mode}
use Rattle.link_cli.specs.declared.plan.Mode.TheVariants as modes
use Rattle.link_program.specs.declared.program.MappedProgram.{MappedProgram}
use Rattle.link_cli.specs.Answer.{LinksGenerated, Makes, sources_made}
use Rattle.link_cli.specs.Endings.{Puts, Said, done_ending, map_ending, no_memory, refused_ending, usage_ending}
use Rattle.link_program.specs.Files.{most_input}
use Rattle.link_cli.specs.Plan.{Planned, is_generated, plan_of}
use Rattle.link_program.specs.Refusals.{program_of}
use Rattle.link_program.specs.Warnings.{warning}

-- no call failed; a count that stands at its last value counts as risen
abbrev pub NoFault : Counts → Counts → Type 0
NoFault before now = Rose before.faults now.faults → ⊥

-- ---- reading

-- the bytes that are read of a file, none where it isn't there
abbrev pub size_of : Option (List ℕ) → ℕ
size_of None = 0
size_of (Some bytes) = length bytes

-- why the file of a number can't be read, of which at most so many bytes are taken; one that isn't there is let go where that is asked
abbrev pub file_refusal : Bool → ℕ → ℕ → Option (List ℕ) → Option Status
file_refusal keep_going number most None = if keep_going then None else Some (statuses.Missing number)
file_refusal keep_going number most (Some bytes) = if nat_lt most (length bytes) then Some (statuses.Limit limits.Input most_input) else None

-- the first, and where there is none, the second
abbrev pub or_else : {A : Type 0} → Option A → Option A → Option A
or_else (Some x) other = Some x
or_else None other = other

-- a file of this name was read or let go before
abbrev pub is_known : List (List ℕ) → List ℕ → Bool
is_known known name = list_any (bytes_eq name) known

-- Why the files of objects can't all be read, the first reason: one isn't there and not let go, or with it more than `most` bytes are read. Objects have numbers from one on, and a file is read at the first object that names it, unless it is known.
abbrev pub first_unread : Bool → Contents → ℕ → List (List ℕ) → ℕ → List MapObject → Option Status
first_unread keep_going files number known most [] = None
first_unread keep_going files number known most (o ∷ objects) =
    if is_known known o.file then first_unread keep_going files (number + 1) known most objects
    else or_else (file_refusal keep_going number most (fin.get files o.file))
    (first_unread keep_going files (number + 1) (known ++ o.file ∷ []) (most - size_of (fin.get files o.file)) objects)

-- the line of an object whose file isn't there
abbrev pub warning_at : Contents → MapObject → List ℕ
warning_at files object = if is_some (fin.get files object.file) then [] else warning object

-- the lines of such objects, up to the first whose file can't be read
abbrev pub warned : Bool → Contents → ℕ → List (List ℕ) → ℕ → List MapObject → List ℕ
warned keep_going files number known most [] = []
warned keep_going files number known most (o ∷ objects) =
    if is_known known o.file then warning_at files o ++ warned keep_going files (number + 1) known most objects
    else if is_some (file_refusal keep_going number most (fin.get files o.file)) then []
    else warning_at files o ++ warned keep_going files (number + 1) (known ++ o.file ∷ []) (most - size_of (fin.get files o.file)) objects

-- the bytes of all files that objects name and that aren't known, each file counted once
abbrev pub input_size : Contents → List (List ℕ) → List MapObject → ℕ
input_size files known [] = 0
input_size files known (o ∷ objects) =
    if is_known known o.file then input_size files known objects
    else size_of (fin.get files o.file) + input_size files (known ++ o.file ∷ []) objects

-- ---- the answer

-- objects with the bytes of their files
abbrev pub sources_at : Contents → List MapObject → List Source
sources_at files objects = map (λ object. record { object = object; file = fin.get files object.file }) objects

-- the files with Info.plist of a bundle, and with both files of it
abbrev pub with_plist : Planned → Bundle → Contents → Contents
with_plist plan linked files = fin.insert files (plist_name plan.out) linked.plist

abbrev pub with_bundle : Planned → Bundle → Contents → Contents
with_bundle plan linked files = fin.insert (with_plist plan linked files) (image_name plan.out plan.exe) linked.image

-- why the files of a program's objects can't all be read, and the warnings of their reading
abbrev pub unread_of : Planned → MappedProgram → ℕ → Contents → Option Status
unread_of plan program most files = first_unread plan.keep_going files 1 [] most program.objects

abbrev pub warnings_of : Planned → MappedProgram → ℕ → Contents → List ℕ
warnings_of plan program most files = warned plan.keep_going files 1 [] most program.objects

-- The objects of a program are linked, whose files have at most so many bytes together.
pub data AnswersObjects (plan : Planned) (program : MappedProgram) (most : ℕ) (files : Contents) : Ending → Contents → Type 0 where
  unread : (status : Status) → unread_of plan program most files ≡ Some status
      → AnswersObjects plan program most files (refused_ending plan program.objects (warnings_of plan program most files) status) files
  refused : (refusal : Refusal) → unread_of plan program most files ≡ None → Makes plan program (sources_at files program.objects) (Err refusal)
      → AnswersObjects plan program most files (refused_ending plan program.objects (warnings_of plan program most files) (refused_status refusal)) files
  done : (linked : Bundle) → unread_of plan program most files ≡ None → Makes plan program (sources_at files program.objects) (Ok linked)
      → AnswersObjects plan program most files (done_ending plan (warnings_of plan program most files) linked.counts) (with_bundle plan linked files)
  no_memory_before : AnswersObjects plan program most files no_memory files
  no_memory_between : (linked : Bundle) → unread_of plan program most files ≡ None → Makes plan program (sources_at files program.objects) (Ok linked)
      → AnswersObjects plan program most files no_memory (with_plist plan linked files)

-- What is done with a program that was read.
pub data AnswersMode (plan : Planned) (program : MappedProgram) (most : ℕ) (files : Contents) : Mode → Ending → Contents → Type 0 where
  linked : (ending : Ending) (now : Contents) → AnswersObjects plan program most files ending now → AnswersMode plan program most files modes.Link ending now
  map_told : AnswersMode plan program most files modes.Map (map_ending program) files
  map_no_memory : AnswersMode plan program most files modes.Map no_memory files

-- The program of a plan is read, and its mode is done.
pub data AnswersProgram (plan : Planned) (files : Contents) : Ending → Contents → Type 0 where
  program_unread : (status : Status) → file_refusal false 0 most_input (fin.get files plan.exe) ≡ Some status → AnswersProgram plan files (refused_ending plan [] [] status) files
  program_refused : (bytes : List ℕ) (refusal : Refusal) → fin.get files plan.exe ≡ Some bytes → file_refusal false 0 most_input (Some bytes) ≡ None → program_of bytes ≡ Err refusal
      → AnswersProgram plan files (refused_ending plan [] [] (refused_status refusal)) files
  program_found : (bytes : List ℕ) (program : MappedProgram) (ending : Ending) (now : Contents) → fin.get files plan.exe ≡ Some bytes → file_refusal false 0 most_input (Some bytes) ≡ None
      → program_of bytes ≡ Ok program → AnswersMode plan program (most_input - length bytes) files plan.mode ending now → AnswersProgram plan files ending now
  program_no_memory : AnswersProgram plan files no_memory files

-- A plan is done. A generated program is linked whatever the files are, and leaves them so.
pub data AnswersPlan (plan : Planned) (files : Contents) : Ending → Contents → Type 0 where
  of_generated : (count : ℕ) (ending : Ending) → plan.mode ≡ modes.Generate count → LinksGenerated plan count (generated_program count) ending → AnswersPlan plan files ending files
  of_program : (ending : Ending) (now : Contents) → is_generated plan.mode ≡ false → AnswersProgram plan files ending now → AnswersPlan plan files ending now

-- The words are read, and their plan is done.
pub data AnswersWords (words : List (List ℕ)) (files : Contents) : Ending → Contents → Type 0 where
  usage : plan_of words ≡ None → AnswersWords words files usage_ending files
  words_no_memory : AnswersWords words files no_memory files
  planned : (plan : Planned) (ending : Ending) (now : Contents) → plan_of words ≡ Some plan → AnswersPlan plan files ending now → AnswersWords words files ending now

-- The words are done, and the message goes out.
pub record Answers (words : List (List ℕ)) (files now : Contents) (silent heard : Said) (status : Status) : Type 0 where
  pub ending : Ending
  pub answers : AnswersWords words files ending now
  pub puts : Puts ending silent heard status

-- ---- what can be linked

-- Where nothing refuses the link of the objects whose files are there or let go, which have at most so many bytes together.
pub record AreLinkable (plan : Planned) (program : MappedProgram) (most : ℕ) (files : Contents) : Type 0 where
  pub there : (plan.keep_going ≡ true) ⊎ All (λ o. IsSome (fin.get files o.file)) program.objects
  pub few : input_size files [] program.objects ≤ most
  pub clean : HasNoRefusal plan.odr program.image (sources_at files program.objects)

-- The program of a plan is there, has at most 2 ^ 29 bytes and no fault. Where it is to be linked, all files that its map names are there or let go, they have at most 2 ^ 29 bytes together with it, its objects have no fault, and no limit is reached.
pub record HasProgram (plan : Planned) (files : Contents) : Type 0 where
  pub bytes : List ℕ
  pub program : MappedProgram
  pub held : fin.get files plan.exe ≡ Some bytes
  pub few : length bytes ≤ most_input
  pub reads : program_of bytes ≡ Ok program
  pub linkable : plan.mode ≡ modes.Link → AreLinkable plan program (most_input - length bytes) files

-- Nothing refuses the link of a generated program, or of the one that is there.
pub data CanBeDone (plan : Planned) (files : Contents) : Type 0 where
  clean_made : (count : ℕ) → plan.mode ≡ modes.Generate count → HasNoRefusal plan.odr (generated_program count).program (sources_made count (generated_program count)) → CanBeDone plan files
  clean_program : is_generated plan.mode ≡ false → HasProgram plan files → CanBeDone plan files

-- The words give a plan, and nothing refuses what it asks.
pub record IsAnswerable (words : List (List ℕ)) (files : Contents) : Type 0 where
  pub plan : Planned
  pub given : plan_of words ≡ Some plan
  pub can : CanBeDone plan files
