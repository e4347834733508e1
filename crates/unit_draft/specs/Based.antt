-- Bytes that depend on where the base types of the unit stand, and on nothing else.
use Rattle.std.specs.Prelude.{◌≡◌, ℕ, List, ◌++◌}
use Rattle.patches.specs.declared.hole.Own.TheVariants as own
use Rattle.patches.specs.Filling.{Filling, Holey, filled}

-- the filling puts each base type at its place
abbrev pub Bases : Filling → (ℕ → ℕ) → Type 0
Bases f place = (k : ℕ) → f.own (own.Base k) ≡ place k

abbrev pub IsBased : Holey → ((ℕ → ℕ) → List ℕ) → Type 0
IsBased now bytes = (f : Filling) (place : ℕ → ℕ) → Bases f place → filled now f ≡ bytes place

abbrev pub AppendsBased : Holey → Holey → ((ℕ → ℕ) → List ℕ) → Type 0
AppendsBased old new bytes = (f : Filling) (place : ℕ → ℕ) → Bases f place → filled new f ≡ filled old f ++ bytes place
