use Rattle.ds_base.proofs.Onward.{uleb_onward}
use Rattle.line_read.proofs.Inside.{inside_kept}
use Rattle.line_read.proofs.operation.read_extended.Goals as goal

pub read_part-requires-clause-inside : goal.read_part-requires-clause-inside
read_part-requires-clause-inside c = inside_kept _ _ _ (uleb_onward c.args.cursor.now _ c.in_ok-len.ensures) c.requires.inside
