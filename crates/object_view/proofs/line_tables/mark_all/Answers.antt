use Rattle.std.proofs.Common.{◌∙◌, arith}
use Rattle.object_view.specs.Attributes.{entry_marked}
use Rattle.object_view.proofs.Marking.{so_far_all, so_far_length, so_far_more}
use Rattle.object_view.proofs.line_tables.mark_all.Goals as goal

pub mark_entry-requires : goal.mark_entry-requires
mark_entry-requires c = rw (c.loop-i.invariant, so_far_length) (omega arith)

pub loop-i-preserved : goal.loop-i-preserved
loop-i-preserved c = so_far_more entry_marked c.args.entries.now c.loop-i.entries c.mark_entry.new.entries c.loop-i.i (omega arith) c.loop-i.invariant c.in_ok-mark_entry.ensures

pub returns : goal.returns
returns c = c.loop-i.invariant ∙ so_far_all entry_marked c.loop-i.i c.args.entries.now (omega arith)
