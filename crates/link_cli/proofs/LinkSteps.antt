-- The steps of a link, from what the outside answered.
use Rattle.std.proofs.Common.{◌≡◌, ℕ, Bool, inl, inr, ◌-◌, ◌^◌, List, [], length, Option, Result, Ok, Err, refl, sym, ap, subst, ◌∙◌}
use Rattle.std.specs.Option.{option_map}
use Rattle.std.specs.FinMap as map
use Rattle.ds_files.specs.Outside.{Contents, Counts, IsLater, IsOneCall, ReplaceFails, called}
use Rattle.ds_files.specs.declared.files.FileError.{FileError}
use Rattle.stab_map.specs.declared.object.MapObject.{MapObject}
use Rattle.link_program.specs.declared.bundle.Bundle.{Bundle}
use Rattle.link_status.specs.declared.refusal.Refusal.{Refusal}
use Rattle.link_status.specs.declared.refusal.Refusal.TheVariants as refusals
use Rattle.link_status.specs.Names.{image_name, plist_name}
use Rattle.link_status.specs.Statuses.{refused_status}
use Rattle.link_status.specs.declared.status.Status.{Status}
use Rattle.link_status.specs.declared.status.Status.TheVariants as statuses
use Rattle.link_cli.specs.declared.ending.Ending.{Ending}
use Rattle.link_program.specs.declared.files.Stopped.{Stopped}
use Rattle.link_cli.specs.declared.plan.Mode.{Mode}
use Rattle.link_cli.specs.declared.plan.Mode.TheVariants as modes
use Rattle.link_program.specs.declared.program.MappedProgram.{MappedProgram}
use Rattle.link_cli.specs.Endings.{Tells, done_message, map_ending, no_memory, refused_ending, refusal_message, unwritten_ending}
use Rattle.link_program.specs.Files.{World, world, most_input, Held, none_held, behind_read, behind_miss, ReadsFile, ReadsFiles, ReadsProgram}
use Rattle.link_cli.specs.Plan.{Planned}
use Rattle.link_program.specs.Refusals.{Answers, program_of}
use Rattle.link_program.specs.Making.{sources_in}
use Rattle.link_cli.specs.Answer.{Replaces, NotReplaced, Writes, plist_unwritten, image_unwritten, written, Makes, LinksSources, refused, untold, bundled, LinksObjects, file_unread, files_untold, files_read, Does, links, tells_map, map_untold, RunsProgram, program_unread, program_untold, program_refused, program_found}

-- this is told, or memory ran out
pub told_or : (P : Ending → Type 0) (wanted ending : Ending) → Tells wanted ending → P wanted → P no_memory → P ending
told_or P wanted ending (inl is) good bad = subst P (sym is) good
told_or P wanted ending (inr is) good bad = subst P (sym is) bad

-- ---- the bundle

-- a file was written under the name that was made
pub replaces_as : (name made bytes shown : List ℕ) (old new : Option Contents) (before now : Counts) → made ≡ name → shown ≡ bytes
    → new ≡ option_map (λ m. map.insert m made shown) old → now ≡ called before → IsLater before now → Replaces name bytes (world old before) (world new now)
replaces_as name made bytes shown old new before now is_name is_bytes is counted later = record {
  files = is ∙ ap (λ (n : List ℕ). option_map (λ m. map.insert m n shown) old) is_name ∙ ap (λ (b : List ℕ). option_map (λ m. map.insert m name b) old) is_bytes;
  counted = counted;
  later = later;
}

-- a file was not written under the name that was made
not_replaced_as : (name made : List ℕ) (error : FileError) (old new : Option Contents) (before now : Counts) → made ≡ name → ReplaceFails old new made before now error → IsOneCall before now
    → IsLater before now → NotReplaced name error (world old before) (world new now)
not_replaced_as name made error old new before now is_name fails once later =
    record { cause = subst (λ (n : List ℕ). ReplaceFails old new n before now error) is_name fails; once = once; later = later }

module _ (plan : Planned) (objects : List MapObject) (warnings : List ℕ) (made_of : Bundle) where
  pub plist_unwritten_as : (made message : List ℕ) (old new : Option Contents) (before now : Counts) (error : FileError) (ending : Ending) → made ≡ plist_name plan.out
      → message ≡ refusal_message plan objects warnings (statuses.WriteFault 0) → ending ≡ unwritten_ending 0 error message
      → ReplaceFails old new made before now error → IsOneCall before now → IsLater before now → Writes plan objects warnings made_of (world old before) (world new now) ending
  plist_unwritten_as made message old new before now error ending is_name is_message is_ending fails once later =
      subst (λ (e : Ending). Writes plan objects warnings made_of (world old before) (world new now) e) (sym (is_ending ∙ ap (unwritten_ending 0 error) is_message))
      (plist_unwritten error (not_replaced_as (plist_name plan.out) made error old new before now is_name fails once later))

  pub image_unwritten_as : (made message : List ℕ) (old mid new : Option Contents) (before middle now : Counts) (error : FileError) (ending : Ending) → made ≡ image_name plan.out plan.exe
      → message ≡ refusal_message plan objects warnings (statuses.WriteFault 1) → ending ≡ unwritten_ending 1 error message
      → Replaces (plist_name plan.out) made_of.plist (world old before) (world mid middle) → ReplaceFails mid new made middle now error → IsOneCall middle now → IsLater middle now
      → Writes plan objects warnings made_of (world old before) (world new now) ending
  image_unwritten_as made message old mid new before middle now error ending is_name is_message is_ending first fails once later =
      subst (λ (e : Ending). Writes plan objects warnings made_of (world old before) (world new now) e) (sym (is_ending ∙ ap (unwritten_ending 1 error) is_message))
      (image_unwritten (world mid middle) error first (not_replaced_as (image_name plan.out plan.exe) made error mid new middle now is_name fails once later))

  pub written_as : (made shown message : List ℕ) (old mid new : Option Contents) (before middle now : Counts) → Replaces (plist_name plan.out) made_of.plist (world old before) (world mid middle)
      → made ≡ image_name plan.out plan.exe → shown ≡ made_of.image → message ≡ done_message plan warnings made_of.counts
      → new ≡ option_map (λ m. map.insert m made shown) mid → now ≡ called middle → IsLater middle now
      → Writes plan objects warnings made_of (world old before) (world new now) (record { status = statuses.Done; message = message })
  written_as made shown message old mid new before middle now first is_name is_image is_message second counted later =
      subst (λ (m : List ℕ). Writes plan objects warnings made_of (world old before) (world new now) (record { status = statuses.Done; message = m })) (sym is_message)
      (written (world mid middle) first (replaces_as (image_name plan.out plan.exe) made made_of.image shown mid new middle now is_name is_image second counted later))

-- ---- the objects

-- files were read behind a hint, which changed nothing
module _ {keep_going : Bool} {number : ℕ} {objects : List MapObject} {held : Held} {before hinted after : World} {answer : Result Held Stopped} where
  pub read_behind : hinted ≡ before → ReadsFiles keep_going number objects held hinted after answer → ReadsFiles keep_going number objects held before after answer
  read_behind same reads = subst (λ (w : World). ReadsFiles keep_going number objects held w after answer) same reads

module _ (plan : Planned) (program : MappedProgram) where
  module _ (objects : List MapObject) (is_objects : objects ≡ program.objects) where
    refused_so : (warnings : List ℕ) (status wanted : Status) (ending : Ending) → status ≡ wanted → Tells (refused_ending plan objects warnings status) ending
        → Tells (refused_ending plan program.objects warnings wanted) ending
    refused_so warnings status wanted ending is_status told =
        subst (λ (s : Status). Tells (refused_ending plan program.objects warnings s) ending) is_status
        (subst (λ (o : List MapObject). Tells (refused_ending plan o warnings status) ending) is_objects told)

    pub sources_refused : (held : Held) (now : World) (refusal : Refusal) (status : Status) (ending : Ending) → status ≡ refused_status refusal
        → Makes plan program (sources_in held.files program.objects) (Err refusal) → Tells (refused_ending plan objects held.warnings status) ending
        → LinksSources plan program held now now ending
    sources_refused held now refusal status ending is_status makes told =
        told_or (λ (e : Ending). LinksSources plan program held now now e) (refused_ending plan program.objects held.warnings (refused_status refusal)) ending
        (refused_so held.warnings status (refused_status refusal) ending is_status told) (refused refusal refl makes) (untold refl)

    pub sources_bundled : (held : Held) (before after : World) (made : Bundle) (ending : Ending) → Makes plan program (sources_in held.files program.objects) (Ok made)
        → Writes plan objects held.warnings made before after ending → LinksSources plan program held before after ending
    sources_bundled held before after made ending makes writes =
        bundled made ending makes (subst (λ (o : List MapObject). Writes plan o held.warnings made before after ending) is_objects writes)

    pub objects_refused : (most : ℕ) (before after : World) (stopped : Stopped) (ending : Ending) → ReadsFiles plan.keep_going 1 objects (none_held most) before after (Err stopped)
        → Tells (refused_ending plan objects stopped.warnings stopped.status) ending → LinksObjects plan program most before after ending
    objects_refused most before after stopped ending reads told =
        told_or (λ (e : Ending). LinksObjects plan program most before after e) (refused_ending plan program.objects stopped.warnings stopped.status) ending
        (refused_so stopped.warnings stopped.status stopped.status ending refl told)
        (file_unread stopped (subst (λ (o : List MapObject). ReadsFiles plan.keep_going 1 o (none_held most) before after (Err stopped)) is_objects reads))
        (files_untold stopped (subst (λ (o : List MapObject). ReadsFiles plan.keep_going 1 o (none_held most) before after (Err stopped)) is_objects reads))

    pub objects_read : (most : ℕ) (before middle after : World) (held : Held) (ending : Ending) → ReadsFiles plan.keep_going 1 objects (none_held most) before middle (Ok held)
        → LinksSources plan program held middle after ending → LinksObjects plan program most before after ending
    objects_read most before middle after held ending reads sources =
        files_read held middle ending (subst (λ (o : List MapObject). ReadsFiles plan.keep_going 1 o (none_held most) before middle (Ok held)) is_objects reads) sources

-- ---- the program

module _ (plan : Planned) where
  pub program_missed : (exe warnings : List ℕ) (objects : List MapObject) (before after : World) (status : Status) (ending : Ending) → exe ≡ plan.exe → objects ≡ [] → warnings ≡ []
      → ReadsProgram exe before after (Err status) → Tells (refused_ending plan objects warnings status) ending → RunsProgram plan before after ending
  program_missed exe warnings objects before after status ending is_exe no_objects no_warnings h told =
      let none : Tells (refused_ending plan [] [] status) ending = subst (λ (w : List ℕ). Tells (refused_ending plan [] w status) ending) no_warnings
      (subst (λ (o : List MapObject). Tells (refused_ending plan o warnings status) ending) no_objects told) in
      let misses = subst (λ (n : List ℕ). ReadsProgram n before after (Err status)) is_exe h in
      told_or (λ (e : Ending). RunsProgram plan before after e) (refused_ending plan [] [] status) ending none
      (subst (λ (s : Status). RunsProgram plan before after (refused_ending plan [] [] s)) (sym misses.1) (program_unread misses.0 misses.2))
      (program_untold (behind_miss misses.0 misses.2))

  module _ (before middle : World) (exe bytes shown : List ℕ) (is_exe : exe ≡ plan.exe) (is_bytes : shown ≡ bytes) (reads : ReadsFile exe most_input bytes before middle) where
    read : ReadsFile plan.exe most_input bytes before middle
    read = subst (λ (n : List ℕ). ReadsFile n most_input bytes before middle) is_exe reads

    was_refused : (refusal : Refusal) → Answers (λ (p : MappedProgram). p) (Err refusal) (program_of shown) → RunsProgram plan before middle (refused_ending plan [] [] (refused_status refusal))
    was_refused (refusals.Faulty file fault) why = program_refused bytes (refusals.Faulty file fault) read (ap program_of (sym is_bytes) ∙ why)
    was_refused (refusals.Limit which number) why = program_refused bytes (refusals.Limit which number) read (ap program_of (sym is_bytes) ∙ why)
    was_refused refusals.NoMemory why = program_untold (behind_read bytes read)

    pub program_refused_as : (warnings : List ℕ) (objects : List MapObject) (refusal : Refusal) (status : Status) (ending : Ending) → objects ≡ [] → warnings ≡ [] → status ≡ refused_status refusal
        → Answers (λ (p : MappedProgram). p) (Err refusal) (program_of shown) → Tells (refused_ending plan objects warnings status) ending → RunsProgram plan before middle ending
    program_refused_as warnings objects refusal status ending no_objects no_warnings is_status why told =
        let none : Tells (refused_ending plan [] [] (refused_status refusal)) ending = subst (λ (s : Status). Tells (refused_ending plan [] [] s) ending) is_status
        (subst (λ (w : List ℕ). Tells (refused_ending plan [] w status) ending) no_warnings
        (subst (λ (o : List MapObject). Tells (refused_ending plan o warnings status) ending) no_objects told)) in
        told_or (λ (e : Ending). RunsProgram plan before middle e) (refused_ending plan [] [] (refused_status refusal)) ending none (was_refused refusal why)
        (program_untold (behind_read bytes read))

    module _ (program : MappedProgram) (is_program : program_of shown ≡ Ok program) (mode : Mode) (is_mode : plan.mode ≡ mode) where
      does : (most : ℕ) (after : World) (ending : Ending) → most ≡ 2 ^ 29 - length bytes → Does plan program most middle after mode ending → RunsProgram plan before after ending
      does most after ending is_most done =
          program_found bytes middle program ending read (ap program_of (sym is_bytes) ∙ is_program)
          (subst (λ (m : Mode). Does plan program (most_input - length bytes) middle after m ending) (sym is_mode)
          (subst (λ (n : ℕ). Does plan program n middle after mode ending) is_most done))

    pub program_linked : (program : MappedProgram) (most : ℕ) (after : World) (ending : Ending) → program_of shown ≡ Ok program → plan.mode ≡ modes.Link → most ≡ 2 ^ 29 - length bytes
        → LinksObjects plan program most middle after ending → RunsProgram plan before after ending
    program_linked program most after ending is_program is_mode is_most objects = does program is_program modes.Link is_mode most after ending is_most (links ending objects)

    pub program_told : (program : MappedProgram) (ending : Ending) → program_of shown ≡ Ok program → plan.mode ≡ modes.Map → Tells (map_ending program) ending → RunsProgram plan before middle ending
    program_told program ending is_program is_mode told =
        does program is_program modes.Map is_mode (most_input - length bytes) middle ending refl
        (told_or (λ (e : Ending). Does plan program (most_input - length bytes) middle middle modes.Map e) (map_ending program) ending told (tells_map refl) (map_untold refl))
