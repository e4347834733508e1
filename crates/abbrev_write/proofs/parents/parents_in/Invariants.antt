use Rattle.std.proofs.Common.{◌≡◌, ◌<◌, ◌||◌, ℕ, length, drop, slice_index_or, false}
use Rattle.dwarf_types.specs.Abbreviations.{has_children}
use Rattle.abbrev_write.proofs.parents.parents_in.Given as goal

abbrev pub invariant-loop-k : goal.invariant-loop-k
invariant-loop-k g l =
    let nodes = (g.S.UnitSource.unit l.unit).nodes in
    (length l.marks ≡ l.count)
    × ((k : ℕ) → k < l.count → (slice_index_or l.marks k false || has_children (drop l.k nodes) k) ≡ has_children nodes k)
