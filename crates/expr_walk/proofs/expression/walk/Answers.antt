use Rattle.std.proofs.Common.{length}
use Rattle.expr_walk.specs.Reading.{op_at, expression_of}
use Rattle.expr_walk.proofs.Cuts.{op_items, op_cuts, expression_whole, expression_faults, placed_below}
use Rattle.expr_walk.proofs.expression.walk.Goals as goal

pub placed_from-requires : goal.placed_from-requires
placed_from-requires c =
    placed_below c.in-Err.error c.args.first (length c.args.bytes.now) (expression_of (op_at c.args.version c.args.part) c.args.part c.args.bytes.now) c.in-Err.ensures.ops
    (λ f e. expression_faults (op_at c.args.version c.args.part) op_items (op_cuts c.args.version c.args.part) c.args.part c.args.bytes.now f e) c.requires

pub returns-in-Ok-clause-whole : goal.returns-in-Ok-clause-whole
returns-in-Ok-clause-whole c = (expression_whole (op_at c.args.version c.args.part) op_items (op_cuts c.args.version c.args.part) c.args.part c.args.bytes.now c.read_ops.new.ops.ops c.in-Ok.ensures.ops).0

pub returns-in-Ok-clause-short : goal.returns-in-Ok-clause-short
returns-in-Ok-clause-short c = (expression_whole (op_at c.args.version c.args.part) op_items (op_cuts c.args.version c.args.part) c.args.part c.args.bytes.now c.read_ops.new.ops.ops c.in-Ok.ensures.ops).1
