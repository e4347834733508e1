use Rattle.std.proofs.Common.{arith}
use Rattle.std.specs.Option.{option_map}
use Rattle.dwarf_types.specs.SeenLines.{file_seen}
use Rattle.line_read.specs.Names.{file_at}
use Rattle.line_read.proofs.NameLoop.{listed_more, some_read}
use Rattle.line_read.proofs.names.read_files.Goals as goal

pub loop-preserved : goal.loop-preserved
loop-preserved c =
    rw c.in_ok-push.ensures.ok (listed_more (file_at c.args.header) c.left-left.result c.loop.counter c.loop.files c.loop.cursor _ _ _ (omega arith) (some_read (option_map file_seen) _ _ _ _ c.in-Some.is c.in_ok-file.ensures) c.loop.invariant)
