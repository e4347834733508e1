-- No count falls.
use Rattle.std.proofs.Common.{◌≡◌, ℕ, Bool, List, Result, refl, sym, subst, ◌∙◌, arith}
use Rattle.ds_files.specs.Outside.{IsLater}
use Rattle.ds_files.proofs.Later.{later_trans}
use Rattle.stab_map.specs.declared.object.MapObject.{MapObject}
use Rattle.link_program.specs.declared.bundle.Bundle.{Bundle}
use Rattle.link_cli.specs.declared.ending.Ending.{Ending}
use Rattle.link_program.specs.declared.files.Stopped.{Stopped}
use Rattle.link_cli.specs.declared.plan.Mode.{Mode}
use Rattle.link_program.specs.declared.program.MappedProgram.{MappedProgram}
use Rattle.link_program.specs.Files.{World, Held, RunsOut, behind_read, behind_miss, ReadsFiles, all_held, is_held, was_passed_over, is_read, is_passed_over, is_unread, ran_out_unasked, ran_out_behind}
use Rattle.link_cli.specs.Plan.{Planned}
use Rattle.link_cli.specs.Answer.{Writes, not_made, plist_unwritten, image_unwritten, written, LinksSources, refused, untold, bundled, LinksObjects, file_unread, files_untold, files_read, Does, links, tells_map, map_untold, RunsProgram, program_unread, program_untold, program_refused, program_found, Runs, generates, reads_exe, Ends, usage, no_plan, planned}

pub later_same : (before after : World) → after ≡ before → IsLater before.counts after.counts
later_same before after same = subst (λ (w : World). IsLater before.counts w.counts) (sym same) (omega arith, omega arith, omega arith, omega arith)

pub out_later : {name : List ℕ} {most : ℕ} {before after : World} → RunsOut name most before after → IsLater before.counts after.counts
out_later (behind_read bytes reads) = reads.later
out_later (behind_miss error misses) = misses.later

pub out_same : {name : List ℕ} {most : ℕ} {before after : World} → RunsOut name most before after → after.files ≡ before.files
out_same (behind_read bytes reads) = reads.same
out_same (behind_miss error misses) = misses.same

pub reads_later : {keep_going : Bool} {number : ℕ} {objects : List MapObject} {held : Held} {before after : World} {answer : Result Held Stopped}
    → ReadsFiles keep_going number objects held before after answer → IsLater before.counts after.counts
reads_later (all_held number held now) = later_same now now refl
reads_later (is_held number object objects held before after bytes answer is rest) = reads_later rest
reads_later (was_passed_over number object objects held before after answer none missing rest) = reads_later rest
reads_later (is_read number object objects held before middle after bytes answer new reads rest) = later_trans before.counts middle.counts after.counts reads.later (reads_later rest)
reads_later (is_passed_over number object objects held before middle after error answer new misses goes rest) =
    later_trans before.counts middle.counts after.counts misses.later (reads_later rest)
reads_later (is_unread number object objects held before after error new misses stays) = misses.later
reads_later (ran_out_unasked number objects held now warnings) = later_same now now refl
reads_later (ran_out_behind number object objects held before after warnings new out) = out_later out

-- no file is written where files are read
pub reads_same : {keep_going : Bool} {number : ℕ} {objects : List MapObject} {held : Held} {before after : World} {answer : Result Held Stopped}
    → ReadsFiles keep_going number objects held before after answer → after.files ≡ before.files
reads_same (all_held number held now) = refl
reads_same (is_held number object objects held before after bytes answer is rest) = reads_same rest
reads_same (was_passed_over number object objects held before after answer none missing rest) = reads_same rest
reads_same (is_read number object objects held before middle after bytes answer new reads rest) = reads_same rest ∙ reads.same
reads_same (is_passed_over number object objects held before middle after error answer new misses goes rest) = reads_same rest ∙ misses.same
reads_same (is_unread number object objects held before after error new misses stays) = misses.same
reads_same (ran_out_unasked number objects held now warnings) = refl
reads_same (ran_out_behind number object objects held before after warnings new out) = out_same out

module _ {plan : Planned} where
  pub writes_later : (before after : World) {objects : List MapObject} {warnings : List ℕ} {linked : Bundle} {ending : Ending} → Writes plan objects warnings linked before after ending
      → IsLater before.counts after.counts
  writes_later before after (not_made same) = later_same before after same
  writes_later before after (plist_unwritten error fails) = fails.later
  writes_later before after (image_unwritten middle error first fails) = later_trans before.counts middle.counts after.counts first.later fails.later
  writes_later before after (written middle first second) = later_trans before.counts middle.counts after.counts first.later second.later

  pub sources_later : (before after : World) {program : MappedProgram} {held : Held} {ending : Ending} → LinksSources plan program held before after ending → IsLater before.counts after.counts
  sources_later before after (refused refusal same why) = later_same before after same
  sources_later before after (untold same) = later_same before after same
  sources_later before after (bundled linked ending why writes) = writes_later before after writes

  pub objects_later : (before after : World) {program : MappedProgram} {most : ℕ} {ending : Ending} → LinksObjects plan program most before after ending → IsLater before.counts after.counts
  objects_later before after (file_unread stopped reads) = reads_later reads
  objects_later before after (files_untold stopped reads) = reads_later reads
  objects_later before after (files_read held middle ending reads sources) = later_trans before.counts middle.counts after.counts (reads_later reads) (sources_later middle after sources)

  pub does_later : (before after : World) {program : MappedProgram} {most : ℕ} {mode : Mode} {ending : Ending} → Does plan program most before after mode ending → IsLater before.counts after.counts
  does_later before after (links ending objects) = objects_later before after objects
  does_later before after (tells_map same) = later_same before after same
  does_later before after (map_untold same) = later_same before after same

  pub program_later : (before after : World) {ending : Ending} → RunsProgram plan before after ending → IsLater before.counts after.counts
  program_later before after (program_unread error misses) = misses.later
  program_later before after (program_untold out) = out_later out
  program_later before after (program_refused bytes refusal reads why) = reads.later
  program_later before after (program_found bytes middle program ending reads why does) =
      later_trans before.counts middle.counts after.counts reads.later (does_later middle after does)

  pub runs_later : (before after : World) {ending : Ending} → Runs plan before after ending → IsLater before.counts after.counts
  runs_later before after (generates count ending is same made) = later_same before after same
  runs_later before after (reads_exe ending is runs) = program_later before after runs

pub ends_later : (before after : World) {words : List (List ℕ)} {ending : Ending} → Ends words before after ending → IsLater before.counts after.counts
ends_later before after (usage none same) = later_same before after same
ends_later before after (no_plan same) = later_same before after same
ends_later before after (planned plan ending is runs) = runs_later before after runs
