use Rattle.line_read.proofs.Inside.{inside_kept}
use Rattle.line_read.proofs.OperationPlaces.{version_onward, sizes_onward, program_onward}
use Rattle.line_read.proofs.table.read_lines.Goals as goal

pub read_sequences-requires-clause-inside : goal.read_sequences-requires-clause-inside
read_sequences-requires-clause-inside c =
    inside_kept _ _ _ (program_onward _ c.check_sizes.new.cursor _ c.in_ok-program.ensures)
    (inside_kept _ _ _ (sizes_onward _ _ c.read_version.new.cursor _ c.in_ok-check_sizes.ensures)
    (inside_kept _ _ _ (version_onward _ c.in_ok-cursor.cursor _ c.in_ok-table_version.ensures) c.in_ok-cursor.ensures.inside))
