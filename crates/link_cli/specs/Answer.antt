-- The answer of the command: its status with its cause, what stands in the files then, and its message. The cases of each step stand in the order of the work, so that of two refusals the first one comes. Want of memory may come in each step; nothing is told then.
use Rattle.std.specs.Prelude.{◌≡◌, ℕ, ◌-◌, false, List, [], length, map, Some, None, Result, Ok, Err}
use Rattle.std.specs.List.{range_with_len}
use Rattle.std.specs.Option.{option_map}
use Rattle.std.specs.FinMap as fin
use Rattle.ds_files.specs.Outside.{IsLater, IsOneCall, ReplaceFails, called}
use Rattle.ds_files.specs.declared.files.FileError.{FileError}
use Rattle.stab_map.specs.declared.object.MapObject.{MapObject}
use Rattle.link_program.specs.declared.bundle.Bundle.{Bundle}
use Rattle.link_status.specs.declared.status.Status.{Status}
use Rattle.link_status.specs.declared.status.Status.TheVariants as statuses
use Rattle.link_status.specs.declared.refusal.Refusal.{Refusal}
use Rattle.link_program.specs.Making.{Bundles}
use Rattle.object_reads.specs.Sources.{Source, sources_of}
use Rattle.link_status.specs.Names.{image_name, last_part, plist_name}
use Rattle.link_status.specs.Statuses.{refused_status}
use Rattle.sample_objects.specs.declared.program.Generated.{Generated}
use Rattle.sample_objects.specs.GeneratedProgram.{generated_program}
use Rattle.link_cli.specs.declared.ending.Ending.{Ending}
use Rattle.link_program.specs.declared.files.Stopped.{Stopped}
use Rattle.link_cli.specs.declared.plan.Mode.{Mode}
use Rattle.link_cli.specs.declared.plan.Mode.TheVariants as modes
use Rattle.link_program.specs.declared.program.MappedProgram.{MappedProgram}
use Rattle.link_cli.specs.Endings.{Puts, Said, counts_ending, done_ending, map_ending, no_memory, refusal_message, refused_ending, unwritten_ending, usage_ending}
use Rattle.link_program.specs.Files.{World, RunsOut, most_input, ReadsFile, MissesFile, unread_status, Held, none_held, ReadsFiles}
use Rattle.link_program.specs.Making.{sources_in}
use Rattle.link_cli.specs.Plan.{Planned, is_generated, plan_of}
use Rattle.link_program.specs.Refusals.{program_of}

-- ---- the bundle

-- a file has these bytes now, by one call that alone is counted, and all others are as before; no count fell
pub record Replaces (name bytes : List ℕ) (before after : World) : Type 0 where
  pub files : after.files ≡ option_map (λ files. fin.insert files name bytes) before.files
  pub counted : after.counts ≡ called before.counts
  pub later : IsLater before.counts after.counts

-- the call did not replace a file, and this is why; no count fell
pub record NotReplaced (name : List ℕ) (error : FileError) (before after : World) : Type 0 where
  pub cause : ReplaceFails before.files after.files name before.counts after.counts error
  pub once : IsOneCall before.counts after.counts
  pub later : IsLater before.counts after.counts

-- the file of the bundle of a number was not written
abbrev pub unwritten : Planned → List MapObject → List ℕ → ℕ → FileError → Ending
unwritten plan objects warnings file error = unwritten_ending file error (refusal_message plan objects warnings (statuses.WriteFault file))

-- The two files of a bundle are written, Info.plist first. Want of memory comes before the first is replaced, or in one of the two replacements.
pub data Writes (plan : Planned) (objects : List MapObject) (warnings : List ℕ) (linked : Bundle) (before after : World) : Ending → Type 0 where
  not_made : after ≡ before → Writes plan objects warnings linked before after no_memory
  plist_unwritten : (error : FileError) → NotReplaced (plist_name plan.out) error before after → Writes plan objects warnings linked before after (unwritten plan objects warnings 0 error)
  image_unwritten : (middle : World) (error : FileError) → Replaces (plist_name plan.out) linked.plist before middle → NotReplaced (image_name plan.out plan.exe) error middle after
      → Writes plan objects warnings linked before after (unwritten plan objects warnings 1 error)
  written : (middle : World) → Replaces (plist_name plan.out) linked.plist before middle → Replaces (image_name plan.out plan.exe) linked.image middle after
      → Writes plan objects warnings linked before after (done_ending plan warnings linked.counts)

-- ---- the link

-- what linking a program of a plan with its objects answers
abbrev pub Makes : Planned → MappedProgram → List Source → Result Bundle Refusal → Type 0
Makes plan program sources answer = Bundles plan.odr program.image (last_part plan.exe) sources answer

-- The objects of a program are linked from the files that are held, and the bundle is written.
pub data LinksSources (plan : Planned) (program : MappedProgram) (held : Held) (before after : World) : Ending → Type 0 where
  refused : (refusal : Refusal) → after ≡ before → Makes plan program (sources_in held.files program.objects) (Err refusal)
      → LinksSources plan program held before after (refused_ending plan program.objects held.warnings (refused_status refusal))
  untold : after ≡ before → LinksSources plan program held before after no_memory
  bundled : (linked : Bundle) (ending : Ending) → Makes plan program (sources_in held.files program.objects) (Ok linked) → Writes plan program.objects held.warnings linked before after ending
      → LinksSources plan program held before after ending

-- The files of a program's objects, which have at most so many bytes together, are read, and the objects are linked.
pub data LinksObjects (plan : Planned) (program : MappedProgram) (most : ℕ) (before after : World) : Ending → Type 0 where
  file_unread : (stopped : Stopped) → ReadsFiles plan.keep_going 1 program.objects (none_held most) before after (Err stopped)
      → LinksObjects plan program most before after (refused_ending plan program.objects stopped.warnings stopped.status)
  files_untold : (stopped : Stopped) → ReadsFiles plan.keep_going 1 program.objects (none_held most) before after (Err stopped)
      → LinksObjects plan program most before after no_memory
  files_read : (held : Held) (middle : World) (ending : Ending) → ReadsFiles plan.keep_going 1 program.objects (none_held most) before middle (Ok held)
      → LinksSources plan program held middle after ending → LinksObjects plan program most before after ending

-- ---- a generated program

-- its objects with the bytes of their files
abbrev pub sources_made : ℕ → Generated → List Source
sources_made count made = sources_of made.objects made.files (map (λ k. Some k) (range_with_len 0 count))

-- what linking a generated program of so many objects answers, which has the name of the plan's program
abbrev pub MakesGenerated : Planned → ℕ → Generated → Result Bundle Refusal → Type 0
MakesGenerated plan count made answer = Bundles plan.odr made.program (last_part plan.exe) (sources_made count made) answer

-- The generated program of so many objects is linked, and what was counted is told. Files have no part in it.
pub data LinksGenerated (plan : Planned) (count : ℕ) (made : Generated) : Ending → Type 0 where
  made_refused : (refusal : Refusal) → MakesGenerated plan count made (Err refusal) → LinksGenerated plan count made (refused_ending plan made.objects [] (refused_status refusal))
  made_counted : (linked : Bundle) → MakesGenerated plan count made (Ok linked) → LinksGenerated plan count made (counts_ending linked.counts)
  made_untold : LinksGenerated plan count made no_memory

-- ---- the modes

-- What is done with a program that was read. Its debug map is told without a look at the files.
pub data Does (plan : Planned) (program : MappedProgram) (most : ℕ) (before after : World) : Mode → Ending → Type 0 where
  links : (ending : Ending) → LinksObjects plan program most before after ending → Does plan program most before after modes.Link ending
  tells_map : after ≡ before → Does plan program most before after modes.Map (map_ending program)
  map_untold : after ≡ before → Does plan program most before after modes.Map no_memory

-- The program of a plan is read, and its mode is done.
pub data RunsProgram (plan : Planned) (before after : World) : Ending → Type 0 where
  program_unread : (error : FileError) → MissesFile plan.exe most_input error before after → RunsProgram plan before after (refused_ending plan [] [] (unread_status 0 error))
  program_untold : RunsOut plan.exe most_input before after → RunsProgram plan before after no_memory
  program_refused : (bytes : List ℕ) (refusal : Refusal) → ReadsFile plan.exe most_input bytes before after → program_of bytes ≡ Err refusal
      → RunsProgram plan before after (refused_ending plan [] [] (refused_status refusal))
  program_found : (bytes : List ℕ) (middle : World) (program : MappedProgram) (ending : Ending) → ReadsFile plan.exe most_input bytes before middle → program_of bytes ≡ Ok program
      → Does plan program (most_input - length bytes) middle after plan.mode ending → RunsProgram plan before after ending

-- A plan is done. Where its program is to be generated, no file is read or written; else the program is read.
pub data Runs (plan : Planned) (before after : World) : Ending → Type 0 where
  generates : (count : ℕ) (ending : Ending) → plan.mode ≡ modes.Generate count → after ≡ before → LinksGenerated plan count (generated_program count) ending → Runs plan before after ending
  reads_exe : (ending : Ending) → is_generated plan.mode ≡ false → RunsProgram plan before after ending → Runs plan before after ending

-- The words are read, and their plan is done.
pub data Ends (words : List (List ℕ)) (before after : World) : Ending → Type 0 where
  usage : plan_of words ≡ None → after ≡ before → Ends words before after usage_ending
  no_plan : after ≡ before → Ends words before after no_memory
  planned : (plan : Planned) (ending : Ending) → plan_of words ≡ Some plan → Runs plan before after ending → Ends words before after ending

-- The words are done, and the message goes out behind all else.
pub record Links (words : List (List ℕ)) (before after : World) (silent heard : Said) (status : Status) : Type 0 where
  pub ending : Ending
  pub ends : Ends words before after ending
  pub puts : Puts ending silent heard status
