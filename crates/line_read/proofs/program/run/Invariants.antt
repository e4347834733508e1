use Rattle.std.proofs.Common.{◌-◌}
use Rattle.line_read.specs.Bounds.{IsInside}
use Rattle.line_read.specs.Operation.{op_at}
use Rattle.line_read.specs.Pass.{empty_matrix, run_at}
use Rattle.line_read.proofs.ProgramLoop.{Runs}
use Rattle.line_read.proofs.program.run.Given as goal

abbrev pub invariant-loop-cursor : goal.invariant-loop-cursor
invariant-loop-cursor l =
    record {
      inside : IsInside l.bytes l.cursor;
      so_far : Runs (op_at l.header l.image l.relocs) l.header l.matrix l.cursor (run_at (op_at l.header l.image l.relocs) l.header (l.fn.program.end - l.fn.program.place) (empty_matrix l.header l.fn.files) l.fn.program);
    }

abbrev pub decreases-loop-cursor : goal.decreases-loop-cursor
decreases-loop-cursor l = l.cursor.end - l.cursor.place
