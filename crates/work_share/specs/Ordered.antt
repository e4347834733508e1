-- Results that came in another order than that of their items.
use Rattle.std.specs.Prelude.{◌≡◌, ℕ, ◌<◌, List, length, slice_get, Some}
use Rattle.std.specs.declared.option.Option.{Option}
use Rattle.work_share.specs.declared.done.Done.{Done}

-- an item below the count, with a result that it may give
abbrev pub IsGiven : {O : Type 0} → (ℕ → O → Type 0) → ℕ → Done O → Type 0
IsGiven gives count d = (d.item < count) × gives d.item d.out

-- a place for each item below the count, where nothing stands but what its item may give
abbrev pub AreGiven : {O : Type 0} → (ℕ → O → Type 0) → ℕ → List (Option O) → Type 0
AreGiven {O} gives count slots = (length slots ≡ count) × ((x : ℕ) (o : O) → slice_get slots x ≡ Some (Some o) → gives x o)
