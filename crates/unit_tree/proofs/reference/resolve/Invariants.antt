use Rattle.std.proofs.Common.{◌≡◌, Some, drop, map, take}
use Rattle.dwarf_types.specs.Raw.{places_of}
use Rattle.unit_tree.specs.Targets.{number_at}
use Rattle.unit_tree.proofs.References.{dangling}
use Rattle.unit_tree.proofs.reference.resolve.Given as goal

abbrev pub invariant-loop-packed : goal.invariant-loop-packed
invariant-loop-packed l =
    (dangling l.entries (drop l.packed-index l.references) ≡ dangling l.entries l.references)
    × (map Some l.numbers ≡ map (number_at (places_of l.entries)) (map (λ r. r.target) (take l.packed-index l.references)))
