use Rattle.std.proofs.Common.{◌<◌, ◌^◌, ◌++◌, [], ◌∷◌, length, map, sym, ap, ◌∙◌, arith}
use Rattle.std.specs.List.{range_with_len}
use Rattle.std.proofs.lemmas.List.FromFn.{map-range_with_len_more}
use Rattle.dwarf_types.specs.Entries.{depth_of}
use Rattle.unit_draft.proofs.NodeDepths.{depths_small, next_depth, parent_told}
use Rattle.unit_draft.proofs.depths.depths_in.Goals as goal

pub loop-k-preserved : goal.loop-k-preserved
loop-k-preserved g c =
    let nodes = (g.S.UnitSource.unit c.args.unit.now).nodes in
    let k = c.loop-k.k in
    let lt : k < length nodes = omega (arith, c.loop-k-test.true, c.len-k-end.ensures) in
    let parent = parent_told nodes k c.parent.result lt c.parent.ensures in
    let depth = next_depth nodes c.as_slice.result.now k c.depth_in-depth.result c.parent.result (c.as_slice.ensures ∙ c.loop-k.invariant) parent c.depth_in-depth.ensures in
    c.in_ok-push.ensures.ok ∙ ap (λ ds. ds ++ c.depth_in-depth.result ∷ []) c.loop-k.invariant ∙ ap (λ d. map (depth_of nodes) (range_with_len 0 k) ++ d ∷ []) depth ∙ sym (map-range_with_len_more (depth_of nodes) 0 k k (omega arith))

pub depth_in-depth-requires : goal.depth_in-depth-requires
depth_in-depth-requires g c =
    let nodes = (g.S.UnitSource.unit c.args.unit.now).nodes in
    record { small = depths_small nodes c.as_slice.result.now c.loop-k.k (2 ^ 28) (c.as_slice.ensures ∙ c.loop-k.invariant) (omega (arith, c.loop-k-test.true, c.len-k-end.ensures, c.requires.few)) }
