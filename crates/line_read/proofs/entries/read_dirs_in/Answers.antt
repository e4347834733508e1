use Rattle.std.proofs.Common.{arith}
use Rattle.std.proofs.lemmas.Result.{err_from_is_err_and}
use Rattle.ds_base.proofs.Items.{items_fail, items_more}
use Rattle.dwarf_types.specs.SectionBytes.{bytes_in}
use Rattle.line_read.specs.Entries.{dir_entry_at}
use Rattle.line_read.proofs.entries.read_dirs_in.Goals as goal

pub loop-preserved : goal.loop-preserved
loop-preserved c =
    rw c.in_ok-push_at.ensures.ok (items_more (dir_entry_at c.args.header (bytes_in c.args.sections.now) c.args.format.now) c.args.count c.loop.counter c.loop.dirs c.loop.cursor _ _ _ (omega arith) c.in_ok-dir.ensures c.loop.invariant)

pub returns-in_err-dir : goal.returns-in_err-dir
returns-in_err-dir c =
    let p = err_from_is_err_and c.from_residual-in_err-dir.result c.from_residual-in_err-dir.ensures.1 in
    rw (p.1, p.2) (items_fail (dir_entry_at c.args.header (bytes_in c.args.sections.now) c.args.format.now) c.args.count c.loop.counter c.loop.dirs c.loop.cursor _ _ (omega arith) c.in_err-dir.ensures c.loop.invariant)
