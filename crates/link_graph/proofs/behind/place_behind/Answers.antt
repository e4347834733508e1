use Rattle.std.proofs.Common.{◌+◌, ◌^◌, ◌<◌, None, Option, refl, subst, sym, arith, slice_index_or}
use Rattle.std.specs.Option.{IfSome}
use Rattle.dwarf_types.specs.declared.graph.Target.{Target}
use Rattle.link_graph.proofs.Placed.{moved_more, next_image}
use Rattle.link_graph.proofs.behind.place_behind.Goals as goal

pub target_behind-requires : goal.target_behind-requires
target_behind-requires c =
    let here = next_image c.args.before c.args.images.now c.loop-i.images c.loop-i.i (slice_index_or c.loop-i.images c.loop-i.i None) None c.loop-i.invariant refl in
    subst (λ (image : Option Target). IfSome image (λ target. c.args.before + target.unit < 2 ^ 32)) (sym here) (c.requires c.loop-i.i None (omega (arith, c.loop-i.invariant.len)))

pub loop-i-preserved : goal.loop-i-preserved
loop-i-preserved c =
    moved_more c.args.before c.args.images.now c.loop-i.images c.loop-i.i (slice_index_or c.loop-i.images c.loop-i.i None) c.target_behind.result None c.loop-i.invariant (omega (arith, c.loop-i.invariant.len)) refl c.target_behind.ensures
