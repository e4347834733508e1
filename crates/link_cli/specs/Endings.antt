-- How the command ends: its status, and the message that goes out.
use Rattle.std.specs.Prelude.{◌≡◌, ◌≢◌, ◌⊎◌, ℕ, List, [], ◌++◌, Bool, true, false, Option, if◌then◌else◌}
use Rattle.std.specs.Option.{option_map}
use Rattle.ds_files.specs.Outside.{PrefixAdded, Rose, one_more}
use Rattle.ds_files.specs.declared.files.FileError.{FileError}
use Rattle.ds_files.specs.declared.files.FileError.TheVariants as errors
use Rattle.stab_map.specs.declared.object.MapObject.{MapObject}
use Rattle.link_core.specs.declared.bundle.Counts.{Counts}
use Rattle.link_status.specs.declared.status.Status.{Status}
use Rattle.link_status.specs.declared.status.Status.TheVariants as statuses
use Rattle.link_status.specs.StatusText.{status_line}
use Rattle.link_cli.specs.declared.ending.Ending.{Ending}
use Rattle.link_program.specs.declared.program.MappedProgram.{MappedProgram}
use Rattle.link_cli.specs.Plan.{Planned}
use Rattle.link_cli.specs.Texts.{map_text, summary}

-- memory ran out, and nothing is told
abbrev pub no_memory : Ending
no_memory = record { status = statuses.NoMemory; message = [] }

abbrev pub is_no_memory : Status → Bool
is_no_memory statuses.NoMemory = true
is_no_memory _ = false

-- This is told; or memory runs out when it is to be.
abbrev pub Tells : Ending → Ending → Type 0
Tells wanted ending = (ending ≡ wanted) ⊎ (ending ≡ no_memory)

-- The message of a refusal: the warnings before it, and its line. There is none where memory ran out.
abbrev pub refusal_message : Planned → List MapObject → List ℕ → Status → List ℕ
refusal_message plan objects warnings status = if is_no_memory status then [] else warnings ++ status_line status plan.exe plan.out objects

-- a plan is refused, for a program of these objects
abbrev pub refused_ending : Planned → List MapObject → List ℕ → Status → Ending
refused_ending plan objects warnings status = record { status = status; message = refusal_message plan objects warnings status }

-- the message where a bundle was written: the warnings, and what was counted where it is asked
abbrev pub done_message : Planned → List ℕ → Counts → List ℕ
done_message plan warnings counts = warnings ++ (if plan.statistics then summary counts else [])

-- a bundle was written
abbrev pub done_ending : Planned → List ℕ → Counts → Ending
done_ending plan warnings counts = record { status = statuses.Done; message = done_message plan warnings counts }

-- a file of the bundle was not written: 0 is Info.plist, and 1 the image
abbrev pub unwritten_ending : ℕ → FileError → List ℕ → Ending
unwritten_ending file errors.NoMemory message = no_memory
unwritten_ending file _ message = record { status = statuses.WriteFault file; message = message }

-- a debug map is told
abbrev pub map_ending : MappedProgram → Ending
map_ending program = record { status = statuses.Done; message = map_text program }

-- what was counted is told
abbrev pub counts_ending : Counts → Ending
counts_ending counts = record { status = statuses.Done; message = summary counts }

-- the words are none of the command's
abbrev pub usage_ending : Ending
usage_ending = record { status = statuses.Usage; message = status_line statuses.Usage [] [] [] }

-- ---- the message goes out

-- what the sink took, where it is told, how often it failed, and how often it was called
pub record Said : Type 0 where
  pub text : Option (List ℕ)
  pub faults : ℕ
  pub calls : ℕ

abbrev pub said : Option (List ℕ) → ℕ → ℕ → Said
said text faults calls = record { text = text; faults = faults; calls = calls }

-- A message goes out by one call, unless it is empty. Where that fails, its failure is the status.
pub data Puts (ending : Ending) (before after : Said) : Status → Type 0 where
  nothing : ending.message ≡ [] → after ≡ before → Puts ending before after ending.status
  put : ending.message ≢ [] → after.calls ≡ one_more before.calls → after.text ≡ option_map (λ text. text ++ ending.message) before.text → after.faults ≡ before.faults → Puts ending before after ending.status
  failed : ending.message ≢ [] → after.calls ≡ one_more before.calls → Rose before.faults after.faults → PrefixAdded ending.message before.text after.text → Puts ending before after statuses.MessageFault
