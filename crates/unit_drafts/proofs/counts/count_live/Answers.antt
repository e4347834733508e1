use Rattle.std.proofs.Common.{length, sym, ap, ◌∙◌, arith}
use Rattle.dwarf_types.specs.declared.analysis.Analysis.{Analysis}
use Rattle.link_graph.proofs.Shapes.{marks_whole}
use Rattle.unit_drafts.proofs.Counting.{live_so_far}
use Rattle.unit_drafts.proofs.counts.count_live.Goals as goal

pub count_marks-requires : goal.count_marks-requires
count_marks-requires c =
    c.len.ensures ∙ ap (λ (a : Analysis). length a.entries) (sym c.index-seen-i.is)
    ∙ sym (marks_whole c.args.seen.now c.args.marks.now c.loop-i.i c.index-seen-i.result c.index-marks-i.result c.requires.marked (omega (arith, c.loop-i-test.true, c.requires.marked.each)) c.index-seen-i.is c.index-marks-i.is)

pub overflow_add-n : goal.overflow_add-n
overflow_add-n c =
    let bound = live_so_far c.args.seen.now c.args.marks.now c.loop-i.i c.index-marks-i.result c.requires.sound c.requires.few c.requires.marked c.loop-i-test.true c.index-marks-i.is in
    omega (arith, bound, c.loop-i.invariant, c.count_marks.ensures)
