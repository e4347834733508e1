-- What a job gives for the items of a phase.
use Rattle.std.specs.Prelude.{◌≡◌, ℕ, List, length, slice_get, Some}

-- a result for each item below the count, in their order, each one that its item may give
abbrev pub GivesAll : {O : Type 0} → (ℕ → O → Type 0) → ℕ → List O → Type 0
GivesAll {O} gives count outs = (length outs ≡ count) × ((k : ℕ) (o : O) → slice_get outs k ≡ Some o → gives k o)
