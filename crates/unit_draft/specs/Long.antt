-- When a unit is too long.
use Rattle.std.specs.Prelude.{ℕ, ◌^◌, ◌≤◌, Result, Ok, Err}
use Rattle.unit_draft.specs.declared.error.DraftError.{DraftError}
use Rattle.unit_draft.specs.declared.error.DraftError.TheVariants as errors

-- where a call refused for the length, so many bytes are too many
abbrev pub RefusesLong : {X : Type 0} → Result X DraftError → ℕ → Type 0
RefusesLong (Err errors.Unit) len = 2 ^ 28 ≤ len
RefusesLong (Err errors.NoMemory) len = Unit {0}
RefusesLong (Ok x) len = Unit {0}
