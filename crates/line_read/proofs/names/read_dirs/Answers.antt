use Rattle.std.proofs.Common.{arith}
use Rattle.std.specs.Option.{option_copied}
use Rattle.line_read.specs.Names.{dir_at}
use Rattle.line_read.proofs.NameLoop.{listed_more, some_read}
use Rattle.line_read.proofs.names.read_dirs.Goals as goal

pub loop-preserved : goal.loop-preserved
loop-preserved c =
    rw c.in_ok-push.ensures.ok (listed_more (dir_at c.args.header) c.left-left.result c.loop.counter c.loop.dirs c.loop.cursor _ _ _ (omega arith) (some_read option_copied _ _ _ _ c.in-Some.is c.in_ok-dir.ensures) c.loop.invariant)
