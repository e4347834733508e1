use Rattle.ds_base.proofs.Onward.{number_onward, small_kept}
use Rattle.line_read.proofs.operation.read_body.Goals as goal

pub read_filled-requires-clause-small : goal.read_filled-requires-clause-small
read_filled-requires-clause-small c = small_kept _ _ (number_onward 1 c.args.body _ c.in_ok-code.ensures) c.requires.small
