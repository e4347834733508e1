use Rattle.object_view.proofs.line_tables.lines_at.Goals as goal

pub move_lines-requires-clause-rising : goal.move_lines-requires-clause-rising
move_lines-requires-clause-rising c = rw c.in_ok-lines-2.ensures.sequences c.in_ok-lines.ensures.rising
