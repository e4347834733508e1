use Rattle.std.proofs.Common.{◌≡◌, ◌≤◌, ◌-◌, ℕ, false, List, length}
use Rattle.object_reads.specs.Sources.{listed}
use Rattle.object_reads.specs.Reading.{HoldsFrom}
use Rattle.link_core.specs.Unmerged.{SoFar}
use Rattle.link_core.proofs.unmerged.link_unmerged.Given as goal

-- the objects so far are linked and their units drafted, and the files of the others are held
abbrev pub invariant-loop-first : goal.invariant-loop-first
invariant-loop-first g l =
    (l.sources.first ≤ l.first) × (l.first ≤ l.sources.end)
    × ((all : List (List ℕ)) → HoldsFrom l.sources.first l.sources.numbers.now all l.fn.files → HoldsFrom l.first l.sources.numbers.now all l.files × SoFar l.target l.sources.first (listed l.sources all) l.first l.linked)
    × (l.linked.many ≡ false → length l.linked.drafts.outs.items ≡ length l.linked.shape.units)

abbrev pub decreases-loop-first : goal.decreases-loop-first
decreases-loop-first g l = l.sources.end - l.first
