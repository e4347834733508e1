-- The command over files that tell their contents, without a failing call.
use Rattle.std.proofs.Common.{◌≡◌, ℕ, ◌-◌, ◌⊎◌, inl, inr, true≢false, List, [], ◌++◌, length, Option, Some, None, Ok, Err, refl, sym, ap, subst, ◌∙◌, false}
use Rattle.std.specs.FinMap as fin
use Rattle.std.proofs.lemmas.Bool.{le-ltb}
use Rattle.ds_files.specs.Outside.{Contents, Rose}
use Rattle.ds_files.specs.declared.files.FileError.{FileError}
use Rattle.ds_files.specs.declared.files.FileError.TheVariants as errors
use Rattle.sample_objects.specs.declared.program.Generated.{Generated}
use Rattle.sample_objects.specs.GeneratedProgram.{generated_program}
use Rattle.link_program.specs.declared.bundle.Bundle.{Bundle}
use Rattle.link_status.specs.Statuses.{refused_status}
use Rattle.link_program.specs.Making.{HasNoRefusal}
use Rattle.object_reads.specs.Sources.{Source}
use Rattle.link_status.specs.Names.{image_name, plist_name}
use Rattle.link_program.proofs.Refusing.{ok_is_no_err, ok_is_one, refused_for_memory, some_is_not_none}
use Rattle.link_status.specs.declared.status.Status.{Status}
use Rattle.link_status.specs.declared.status.Status.TheVariants as statuses
use Rattle.link_cli.specs.declared.ending.Ending.{Ending}
use Rattle.link_program.specs.declared.files.Stopped.{Stopped}
use Rattle.link_cli.specs.declared.plan.Mode.{Mode}
use Rattle.link_cli.specs.declared.plan.Mode.TheVariants as modes
use Rattle.link_program.specs.declared.program.MappedProgram.{MappedProgram}
use Rattle.link_program.specs.Files.{World, Held, ReadsFile, passes_over, most_input}
use Rattle.link_program.specs.Making.{sources_in}
use Rattle.link_cli.specs.Answer.{Writes, not_made, plist_unwritten, image_unwritten, written, NotReplaced, Makes, LinksSources, LinksObjects, Does, RunsProgram, Runs, Ends, Links, LinksGenerated, sources_made, unwritten}
use Rattle.link_cli.specs.Answer as answer
use Rattle.link_cli.specs.Endings.{Puts, Said, no_memory, refused_ending}
use Rattle.link_cli.specs.Endings as endings
use Rattle.link_cli.specs.Plan.{Planned, is_generated}
use Rattle.link_program.specs.Refusals.{program_of}
use Rattle.link_cli.specs.Told.{NoFault, file_refusal, unread_of, warnings_of, sources_at, with_plist, AnswersObjects, unread, refused, done, no_memory_before, no_memory_between, AnswersMode, linked, map_told, map_no_memory, AnswersProgram, program_unread, program_refused, program_found, program_no_memory, AnswersPlan, of_generated, of_program, AnswersWords, usage, words_no_memory, planned, Answers, AreLinkable, HasProgram, CanBeDone, clean_made, clean_program, IsAnswerable}
use Rattle.link_cli.proofs.Later.{out_same, reads_later, reads_same, sources_later}
use Rattle.link_cli.proofs.ToldSteps.{all_read, misses_told, none_so, quiet_before, quiet_behind, reads_told, told_some}

-- the files are told after it, and this is answered
abbrev Tells : World → (Contents → Type 0) → Type 0
Tells after fact = (now : Contents) × (after.files ≡ Some now) × fact now

-- a file that no failing call kept from being replaced is as before, since memory ran out
unreplaced : (files : Contents) (name : List ℕ) (number : ℕ) (error : FileError) (message : List ℕ) (before after : World) → NotReplaced name error before after → before.files ≡ Some files → NoFault before.counts after.counts
    → (after.files ≡ Some files) × (endings.unwritten_ending number error message ≡ no_memory)
unreplaced files name number errors.Missing message before after fails told quiet = absurd fails.cause
unreplaced files name number errors.Failed message before after fails told quiet = absurd (quiet fails.cause.0)
unreplaced files name number errors.TooLong message before after fails told quiet = absurd fails.cause
unreplaced files name number errors.NoMemory message before after fails told quiet = (fails.cause.0 ∙ told, refl)

module _ (plan : Planned) (files : Contents) where
  module _ (program : MappedProgram) (most : ℕ) (read : unread_of plan program most files ≡ None) where
    writes_told : (made : Bundle) (before after : World) {ending : Ending} → Makes plan program (sources_at files program.objects) (Ok made)
        → Writes plan program.objects (warnings_of plan program most files) made before after ending
        → before.files ≡ Some files → NoFault before.counts after.counts → Tells after (AnswersObjects plan program most files ending)
    writes_told made before after makes (not_made same) told quiet = (files, ap (λ (w : World). w.files) same ∙ told, no_memory_before)
    writes_told made before after makes (plist_unwritten error fails) told quiet =
        let kept = unreplaced files (plist_name plan.out) 0 error _ before after fails told quiet in
        (files, kept.0, subst (λ (e : Ending). AnswersObjects plan program most files e files) (sym kept.1) no_memory_before)
    writes_told made before after makes (image_unwritten middle error first fails) told quiet =
        let between : middle.files ≡ Some (with_plist plan made files) = rw told at first.files in
        let kept = unreplaced (with_plist plan made files) (image_name plan.out plan.exe) 1 error _ middle after fails between (quiet_behind before.counts middle.counts after.counts first.later quiet) in
        (with_plist plan made files, kept.0, subst (λ (e : Ending). AnswersObjects plan program most files e (with_plist plan made files)) (sym kept.1) (no_memory_between made read makes))
    writes_told made before after makes (written middle first second) told quiet =
        let between : middle.files ≡ Some (with_plist plan made files) = rw told at first.files in
        (_, rw between at second.files, done made read makes)

    sources_told : (held : Held) (before after : World) {ending : Ending} → sources_in held.files program.objects ≡ sources_at files program.objects → held.warnings ≡ warnings_of plan program most files
        → LinksSources plan program held before after ending → before.files ≡ Some files → NoFault before.counts after.counts → Tells after (AnswersObjects plan program most files ending)
    sources_told held before after are warn (answer.refused refusal same why) told quiet = (
      files,
      ap (λ (w : World). w.files) same ∙ told,
      subst (λ (w : List ℕ). AnswersObjects plan program most files (refused_ending plan program.objects w (refused_status refusal)) files) (sym warn)
          (refused refusal read (subst (λ (s : List Source). Makes plan program s (Err refusal)) are why)),
    )
    sources_told held before after are warn (answer.untold same) told quiet = (files, ap (λ (w : World). w.files) same ∙ told, no_memory_before)
    sources_told held before after are warn (answer.bundled made ending why writes) told quiet =
        writes_told made before after (subst (λ (s : List Source). Makes plan program s (Ok made)) are why)
        (subst (λ (w : List ℕ). Writes plan program.objects w made before after ending) warn writes) told quiet

  module _ (program : MappedProgram) (most : ℕ) where
    stopped_told : (stopped : Stopped) → ((unread_of plan program most files ≡ Some stopped.status) × (stopped.warnings ≡ [] ++ warnings_of plan program most files)) ⊎ (stopped.status ≡ statuses.NoMemory)
        → AnswersObjects plan program most files (refused_ending plan program.objects stopped.warnings stopped.status) files
    stopped_told stopped (inl why) =
        subst (λ (w : List ℕ). AnswersObjects plan program most files (refused_ending plan program.objects w stopped.status) files) (sym why.1) (unread stopped.status why.0)
    stopped_told stopped (inr memory) =
        subst (λ (s : Status). AnswersObjects plan program most files (refused_ending plan program.objects stopped.warnings s) files) (sym memory) no_memory_before

    objects_told : (before after : World) {ending : Ending} → LinksObjects plan program most before after ending → before.files ≡ Some files
        → NoFault before.counts after.counts → Tells after (AnswersObjects plan program most files ending)
    objects_told before after (answer.file_unread stopped reads) told quiet =
        let some = reads_told plan.keep_going files [] before after reads told quiet (none_so files most) in (files, some.same, stopped_told stopped some.why)
    objects_told before after (answer.files_untold stopped reads) told quiet = (files, reads_same reads ∙ told, no_memory_before)
    objects_told before after (answer.files_read held middle ending reads links) told quiet =
        let all = reads_told plan.keep_going files [] before middle reads told (quiet_before before.counts middle.counts after.counts (sources_later middle after links) quiet) (none_so files most) in
        sources_told program most all.unread held middle after all.sources all.warnings links all.same (quiet_behind before.counts middle.counts after.counts (reads_later reads) quiet)

    does_told : (before after : World) {mode : Mode} {ending : Ending} → Does plan program most before after mode ending → before.files ≡ Some files
        → NoFault before.counts after.counts → Tells after (AnswersMode plan program most files mode ending)
    does_told before after (answer.links ending objects) told quiet =
        let now = objects_told before after objects told quiet in (now.0, now.1, linked ending now.0 now.2)
    does_told before after (answer.tells_map same) told quiet = (files, ap (λ (w : World). w.files) same ∙ told, map_told)
    does_told before after (answer.map_untold same) told quiet = (files, ap (λ (w : World). w.files) same ∙ told, map_no_memory)

  got : (before after : World) (bytes : List ℕ) → ReadsFile plan.exe most_input bytes before after → before.files ≡ Some files → fin.get files plan.exe ≡ Some bytes
  got before after bytes reads told = told_some before.files files (λ m. fin.get m plan.exe ≡ Some bytes) told reads.told

  fits : (before after : World) (bytes : List ℕ) → ReadsFile plan.exe most_input bytes before after → file_refusal false 0 most_input (Some bytes) ≡ None
  fits before after bytes reads = rw (le-ltb most_input (length bytes) reads.few) refl

  none_goes : (error : FileError) → passes_over false error ≡ false
  none_goes errors.Missing = refl
  none_goes errors.Failed = refl
  none_goes errors.TooLong = refl
  none_goes errors.NoMemory = refl

  program_told : (before after : World) {ending : Ending} → RunsProgram plan before after ending → before.files ≡ Some files → NoFault before.counts after.counts
      → Tells after (AnswersProgram plan files ending)
  program_told before after (answer.program_unread error misses) told quiet = (
    files,
    misses.same ∙ told,
    elim (misses_told false files 0 plan.exe most_input error before after misses told quiet (none_goes error)) [
      | inl why ↦ program_unread _ why
      | inr memory ↦ subst (λ (s : Status). AnswersProgram plan files (refused_ending plan [] [] s) files) (sym memory) program_no_memory
    ],
  )
  program_told before after (answer.program_untold out) told quiet = (files, out_same out ∙ told, program_no_memory)
  program_told before after (answer.program_refused bytes refusal reads why) told quiet =
      (files, reads.same ∙ told, program_refused bytes refusal (got before after bytes reads told) (fits before after bytes reads) why)
  program_told before after (answer.program_found bytes middle program ending reads why does) told quiet =
      let now = does_told program (most_input - length bytes) middle after does (reads.same ∙ told) (quiet_behind before.counts middle.counts after.counts reads.later quiet) in
      (now.0, now.1, program_found bytes program ending now.0 (got before middle bytes reads told) (fits before middle bytes reads) why now.2)

  runs_told : (before after : World) {ending : Ending} → Runs plan before after ending → before.files ≡ Some files → NoFault before.counts after.counts
      → Tells after (AnswersPlan plan files ending)
  runs_told before after (answer.generates count ending is same made) told quiet = (files, ap (λ (w : World). w.files) same ∙ told, of_generated count ending is made)
  runs_told before after (answer.reads_exe ending is runs) told quiet = let now = program_told before after runs told quiet in (now.0, now.1, of_program ending now.0 is now.2)

ends_told : (words : List (List ℕ)) (before after : World) (ending : Ending) (files : Contents) → Ends words before after ending → before.files ≡ Some files → NoFault before.counts after.counts
    → Tells after (AnswersWords words files ending)
ends_told words before after ending files (answer.usage none same) told quiet = (files, ap (λ (w : World). w.files) same ∙ told, usage none)
ends_told words before after ending files (answer.no_plan same) told quiet = (files, ap (λ (w : World). w.files) same ∙ told, words_no_memory)
ends_told words before after ending files (answer.planned plan e is runs) told quiet =
    let now = runs_told plan files before after runs told quiet in
    (now.0, now.1, planned plan e now.0 is now.2)

pub links_told : (words : List (List ℕ)) (before after : World) (silent heard : Said) (status : Status) (files : Contents) → Links words before after silent heard status → before.files ≡ Some files
    → NoFault before.counts after.counts → (now : Contents) × (after.files ≡ Some now) × Answers words files now silent heard status
links_told words before after silent heard status files links told quiet =
    let now = ends_told words before after links.ending files links.ends told quiet in
    (now.0, now.1, record { ending = links.ending; answers = now.2; puts = links.puts })

-- ---- what can be linked

some_is_one : {A : Type 0} (x y : A) → Some x ≡ Some y → x ≡ y
some_is_one {A} x y is = ap (or_first x) is
  where
    or_first : A → Option A → A
    or_first x (Some y) = y
    or_first x None = x

-- how many objects are generated
abbrev count_in : Mode → ℕ
count_in (modes.Generate count) = count
count_in modes.Link = 0
count_in modes.Map = 0

abbrev IsDone : Status → Type 0
IsDone status = (status ≡ statuses.Done) ⊎ (status ≡ statuses.NoMemory)

objects_done : (plan : Planned) (program : MappedProgram) (most : ℕ) (files now : Contents) (ending : Ending) → AnswersObjects plan program most files ending now → AreLinkable plan program most files
    → IsDone ending.status
objects_done plan program most files now ending (unread s why) can =
    let read : unread_of plan program most files ≡ None = all_read plan.keep_going files 1 [] most program.objects can.there can.few in
    absurd (some_is_not_none s (sym why ∙ read))
objects_done plan program most files now ending (refused refusal r makes) can = inr (ap refused_status (refused_for_memory can.clean makes))
objects_done plan program most files now ending (done made r makes) can = inl refl
objects_done plan program most files now ending no_memory_before can = inr refl
objects_done plan program most files now ending (no_memory_between made r makes) can = inr refl

mode_done : (plan : Planned) (program : MappedProgram) (most : ℕ) (files now : Contents) (mode : Mode) (ending : Ending) → AnswersMode plan program most files mode ending now
    → (mode ≡ modes.Link → AreLinkable plan program most files) → IsDone ending.status
mode_done plan program most files now mode ending (linked e n objects) can = objects_done plan program most files now ending objects (can refl)
mode_done plan program most files now mode ending map_told can = inl refl
mode_done plan program most files now mode ending map_no_memory can = inr refl

module _ (plan : Planned) (files : Contents) where
  program_done : HasProgram plan files → (now : Contents) (ending : Ending) → AnswersProgram plan files ending now → IsDone ending.status
  program_done has now ending (program_unread s why) =
      let fits : file_refusal false 0 most_input (Some has.bytes) ≡ None = rw (le-ltb most_input (length has.bytes) has.few) refl in
      absurd (some_is_not_none s (sym why ∙ (rw has.held fits)))
  program_done has now ending (program_refused bytes refusal is fits why) =
      let same : has.bytes ≡ bytes = some_is_one has.bytes bytes (sym has.held ∙ is) in
      absurd (ok_is_no_err has.program refusal (sym has.reads ∙ (ap program_of same ∙ why)))
  program_done has now ending (program_found bytes program e n is fits why mode) =
      let same : has.bytes ≡ bytes = some_is_one has.bytes bytes (sym has.held ∙ is) in
      let one : has.program ≡ program = ok_is_one has.program program (sym has.reads ∙ (ap program_of same ∙ why)) in
      mode_done plan program (most_input - length bytes) files now plan.mode ending mode
      (subst (λ (p : MappedProgram). plan.mode ≡ modes.Link → AreLinkable plan p (most_input - length bytes) files) one
      (subst (λ (b : List ℕ). plan.mode ≡ modes.Link → AreLinkable plan has.program (most_input - length b) files) same has.linkable))
  program_done has now ending program_no_memory = inr refl

  generated_done : (count : ℕ) (made : Generated) (ending : Ending) → HasNoRefusal plan.odr made.program (sources_made count made) → LinksGenerated plan count made ending → IsDone ending.status
  generated_done count made ending clean (answer.made_refused refusal makes) = inr (ap refused_status (refused_for_memory clean makes))
  generated_done count made ending clean (answer.made_counted bundle makes) = inl refl
  generated_done count made ending clean answer.made_untold = inr refl

  plan_done : CanBeDone plan files → (now : Contents) (ending : Ending) → AnswersPlan plan files ending now → IsDone ending.status
  plan_done (clean_made count is clean) now ending (of_generated n e mode made) =
      let same : count ≡ n = ap count_in (sym is ∙ mode) in
      generated_done n (generated_program n) ending (subst (λ (m : ℕ). HasNoRefusal plan.odr (generated_program m).program (sources_made m (generated_program m))) same clean) made
  plan_done (clean_made count is clean) now ending (of_program e n stands answers) = absurd (true≢false (sym (ap is_generated is) ∙ stands))
  plan_done (clean_program stands has) now ending (of_generated n e mode made) = absurd (true≢false (sym (ap is_generated mode) ∙ stands))
  plan_done (clean_program stands has) now ending (of_program e n s answers) = program_done has now ending answers

module _ (words : List (List ℕ)) (files : Contents) (can : IsAnswerable words files) where
  words_done : (now : Contents) (ending : Ending) → AnswersWords words files ending now → IsDone ending.status
  words_done now ending (usage none) = absurd (some_is_not_none can.plan (sym can.given ∙ none))
  words_done now ending words_no_memory = inr refl
  words_done now ending (planned plan e n is answers) =
      let same : plan ≡ can.plan = some_is_one plan can.plan (sym is ∙ can.given) in
      plan_done can.plan files can.can now ending (subst (λ (p : Planned). AnswersPlan p files ending now) same answers)

-- what is put out is the status, where the sink doesn't fail
put_done : (ending : Ending) (silent heard : Said) (status : Status) → Puts ending silent heard status → (Rose silent.faults heard.faults → ⊥) → IsDone ending.status → IsDone status
put_done ending silent heard status (endings.nothing empty same) quiet is = is
put_done ending silent heard status (endings.put some once text same) quiet is = is
put_done ending silent heard status (endings.failed some once rose prefix) quiet is = absurd (quiet rose)

pub linkable_done : (words : List (List ℕ)) (before after : World) (silent heard : Said) (status : Status) (files : Contents) → Links words before after silent heard status → before.files ≡ Some files
    → NoFault before.counts after.counts → (Rose silent.faults heard.faults → ⊥) → IsAnswerable words files → (status ≡ statuses.Done) ⊎ (status ≡ statuses.NoMemory)
linkable_done words before after silent heard status files links told quiet heard_well can =
    let now = ends_told words before after links.ending files links.ends told quiet in
    put_done links.ending silent heard status links.puts heard_well (words_done words files can now.0 links.ending now.2)
