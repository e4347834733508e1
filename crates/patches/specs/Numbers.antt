-- The numbers that are put into holes.
use Rattle.std.specs.Prelude.{ℕ, ◌-◌, List, slice_index_or}
use Rattle.patches.specs.declared.hole.Own.{Own}
use Rattle.patches.specs.declared.hole.Own.TheVariants as own
use Rattle.patches.specs.declared.hole.Outer.{Outer}
use Rattle.patches.specs.Filling.{Filling}

-- what a unit of some length tells; a node behind the last stands at its end
abbrev pub own_number : ℕ → List ℕ → Own → ℕ
own_number len places own.Size = len - 4
own_number len places (own.Node k) = slice_index_or places k len
own_number len places (own.Base k) = slice_index_or places k len

-- a filling, when the unit has told what it tells
abbrev pub settled : Filling → ℕ → List ℕ → Filling
settled f len places = record { own = own_number len places; outer = f.outer }

-- a filling, when what stands outside is known
abbrev pub patched : Filling → (Outer → ℕ) → Filling
patched f number = record { own = f.own; outer = number }
