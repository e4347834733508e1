use Rattle.ds_base.proofs.Onward.{number_onward}
use Rattle.line_read.proofs.Inside.{inside_kept}
use Rattle.line_read.proofs.operation.read_op.Goals as goal

pub read_extended-requires-clause-inside : goal.read_extended-requires-clause-inside
read_extended-requires-clause-inside c = inside_kept _ _ _ (number_onward 1 c.args.cursor.now _ c.in_ok-code.ensures) c.requires.inside
