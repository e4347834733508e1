use Rattle.dwarf_types.specs.Seen.{op_seen}
use Rattle.clone_values.proofs.Moved.{op_moved}
use Rattle.clone_values.proofs.expression.add_op.Goals as goal

pub plain_parts-requires-clause-moved : goal.plain_parts-requires-clause-moved
plain_parts-requires-clause-moved c = (op_moved (op_seen c.args.op.now) c.requires.moved).1
