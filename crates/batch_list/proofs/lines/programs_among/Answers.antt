use Rattle.std.proofs.Common.{map, rules}
use Rattle.std.proofs.lemmas.Result.{err_from_is_err_and}
use Rattle.batch_list.specs.Listed.{line_seen}
use Rattle.batch_list.proofs.Lists.{not_added, one_more, text_at}
use Rattle.batch_list.proofs.lines.programs_among.Goals as goal

pub returns-in_err-add_line : goal.returns-in_err-add_line
returns-in_err-add_line c =
    let p = err_from_is_err_and c.from_residual.result c.from_residual.ensures.1 in
    not_added c.args.lines.now c.loop-i.i _ (map line_seen c.loop-i.programs) (map line_seen c.add_line.new.programs) c.in_err-add_line.field-0.0 c.from_residual.result c.loop-i-test.true
    (text_at c.args.lines.now c.loop-i.i _ c.loop-i-test.true) c.loop-i.invariant c.in_err-add_line.ensures (search rules)

pub loop-i-preserved : goal.loop-i-preserved
loop-i-preserved c =
    one_more c.args.lines.now c.loop-i.i _ (map line_seen c.loop-i.programs) (map line_seen c.add_line.new.programs) c.loop-i-test.true (text_at c.args.lines.now c.loop-i.i _ c.loop-i-test.true) c.loop-i.invariant c.in_ok-add_line.ensures
