-- A station between the code and the definitions: one more object's file is held or let go.
use Rattle.std.specs.Prelude.{◌≡◌, ◌⊎◌, ℕ, ◌+◌, Bool, false, true, List, ◌∷◌, Result, Ok, Err}
use Rattle.ds_files.specs.declared.files.FileError.{FileError}
use Rattle.stab_map.specs.declared.object.MapObject.{MapObject}
use Rattle.link_status.specs.declared.status.Status.{Status}
use Rattle.link_status.specs.declared.status.Status.TheVariants as statuses
use Rattle.link_program.specs.declared.files.HeldFiles.{HeldFiles}
use Rattle.link_program.specs.declared.files.Stopped.{Stopped}
use Rattle.link_program.specs.Files.{World, Held, ReadsFiles, passes_over, unread_status, with_missing}
use Rattle.link_program.specs.Seen.{missing_seen, held_seen}

-- what is held
abbrev pub held_of : HeldFiles → Held
held_of held = record { files = held_seen held.files; missing = missing_seen held.missing; left = held.left; warnings = held.warnings }

-- what is held, or why reading ended
abbrev pub held_answer : Result HeldFiles Stopped → Result Held Stopped
held_answer (Ok held) = Ok (held_of held)
held_answer (Err stopped) = Err stopped

-- what comes of the objects behind this one comes of it and them; or it ends here
abbrev pub Holds : Bool → ℕ → MapObject → HeldFiles → HeldFiles → World → World → Result (Unit {0}) Status → Type 0
Holds keep_going number object old new before middle (Ok ok) =
    (objects : List MapObject) (after : World) (answer : Result Held Stopped) → ReadsFiles keep_going (number + 1) objects (held_of new) middle after answer
    → ReadsFiles keep_going number (object ∷ objects) (held_of old) before after answer
Holds keep_going number object old new before middle (Err status) =
    (objects : List MapObject) → ReadsFiles keep_going number (object ∷ objects) (held_of old) before middle (Err (record { status = status; warnings = new.warnings }))

-- this is held now, or memory ran out
abbrev pub Becomes : Held → HeldFiles → Result (Unit {0}) Status → Type 0
Becomes wanted new (Ok ok) = held_of new ≡ wanted
Becomes wanted new (Err status) = status ≡ statuses.NoMemory

-- A file that wasn't read is let go, or it is why reading ends; or memory ran out.
abbrev pub PassesOver : Bool → ℕ → MapObject → FileError → HeldFiles → HeldFiles → Result (Unit {0}) Status → Type 0
PassesOver keep_going number object error old new (Ok ok) = (passes_over keep_going error ≡ true) × (held_of new ≡ with_missing (held_of old) object)
PassesOver keep_going number object error old new (Err status) =
    ((passes_over keep_going error ≡ false) × (status ≡ unread_status number error) × (new.warnings ≡ old.warnings)) ⊎ (status ≡ statuses.NoMemory)
