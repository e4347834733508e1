use Rattle.std.proofs.Common.{length}
use Rattle.expr_walk.specs.Reading.{plain_at, expression_of}
use Rattle.expr_walk.proofs.Cuts.{plain_items, plain_cuts, expression_faults, placed_below}
use Rattle.expr_walk.proofs.expression.read_inner.Goals as goal

pub placed_from-requires : goal.placed_from-requires
placed_from-requires c =
    placed_below c.in-Err.error c.args.first (length c.args.bytes.now) (expression_of (plain_at c.args.version) c.args.part c.args.bytes.now) c.in-Err.ensures.inner
    (λ f e. expression_faults (plain_at c.args.version) plain_items (plain_cuts c.args.version) c.args.part c.args.bytes.now f e) c.requires.place
