use Rattle.std.proofs.Common.{◌<◌, false, length, slice_index_or, arith}
use Rattle.dwarf_types.specs.Abbreviations.{has_children}
use Rattle.abbrev_write.proofs.Children.{marks_on}
use Rattle.abbrev_write.proofs.parents.parents_in.Goals as goal

pub loop-k-preserved : goal.loop-k-preserved
loop-k-preserved g c =
    let nodes = (g.S.UnitSource.unit c.args.unit.now).nodes in
    let lt : c.loop-k.k < length nodes = omega (arith, c.loop-k-test.true, c.len-count.ensures) in (
      c.mark.ensures.len,
      λ k within. marks_on nodes c.loop-k.k k c.parent.result (slice_index_or c.loop-k.marks k false) _ (has_children nodes k) lt c.parent.ensures (c.mark.ensures.marked k within) (c.loop-k.invariant.1 k within),
    )
