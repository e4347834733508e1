-- Names of which others are known that have their paths.
use Rattle.std.specs.Prelude.{◌≡◌, ℕ, ◌+◌, List, slice_get, Some}
use Rattle.odr_names.specs.Numbered.{SamePath}
use Rattle.type_names.specs.Names.{Named}

-- of names that stand one behind the other: each number but 0 is one more than that of a name with the same path
abbrev pub AreKnown : List Named → ℕ → List ℕ → Type 0
AreKnown names first words = (i x : ℕ) → slice_get words i ≡ Some (x + 1) → SamePath names x (first + i)
