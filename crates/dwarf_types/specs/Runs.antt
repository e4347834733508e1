-- Runs of items of a column.
use Rattle.std.specs.Prelude.{ℕ, ◌≤◌, List, length, slice_range, nat_lt, if◌then◌else◌}
use Rattle.dwarf_types.specs.declared.runs.Run.{Run}
use Rattle.dwarf_types.specs.declared.runs.TextRun.{TextRun}
use Rattle.dwarf_types.specs.declared.runs.TextRun.TheVariants as texts

abbrev pub no_run : Run
no_run = record { from = 0; to = 0 }

-- from one place up to another; where there is nothing between, the one empty run
abbrev pub run_between : ℕ → ℕ → Run
run_between from to = if nat_lt from to then record { from = from; to = to } else no_run

-- the items of a run
abbrev pub run_of : {A : Type 0} → List A → Run → List A
run_of items r = slice_range items r.from r.to

-- it lies in its column
abbrev pub InRun : {A : Type 0} → List A → Run → Type 0
InRun items r = (r.from ≤ r.to) × (r.to ≤ length items)

-- a text, in shared texts or among a table's own bytes
abbrev pub text_of : List ℕ → List ℕ → TextRun → List ℕ
text_of shared own (texts.Own r) = run_of own r
text_of shared own (texts.Shared r) = run_of shared r

abbrev pub InTexts : List ℕ → List ℕ → TextRun → Type 0
InTexts shared own (texts.Own r) = InRun own r
InTexts shared own (texts.Shared r) = InRun shared r
