-- Each unit has a first entry.
use Rattle.std.proofs.Common.{◌+◌, ◌≤◌, ℕ, List, [], ◌∷◌, arith}
use Rattle.std.specs.List.{All}
use Rattle.std.proofs.lemmas.List.Elements.{All-nil, All-cons}
use Rattle.dwarf_types.specs.declared.entry.InUnit.{InUnit}
use Rattle.dwarf_types.specs.Sound.{AreUnits}
use Rattle.object_view.specs.Ready.{HasRoot}

roots_from : (at : ℕ) (units : List InUnit) (end : ℕ) → AreUnits at units end → (at ≤ end) × All (HasRoot end) units
roots_from at [] end h = (omega (arith, h), All-nil (HasRoot end))
roots_from at (u ∷ units) end h =
    let others = roots_from (at + u.count) units end h.2 in
    (omega (arith, others.0), All-cons (HasRoot end) u units (omega (arith, h.0, h.1, others.0)) others.1)

-- units that follow one another up to an end have their first entries before it
pub have_roots : (units : List InUnit) (count : ℕ) → AreUnits 0 units count → All (HasRoot count) units
have_roots units count h = (roots_from 0 units count h).1
