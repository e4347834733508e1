use Rattle.std.proofs.Common.{◌-◌}
use Rattle.std.proofs.lemmas.Result.{err_from_is_err_and}
use Rattle.line_read.specs.Operation.{op_at}
use Rattle.line_read.proofs.Programs.{program_is, run_refused, run_finished}
use Rattle.line_read.proofs.RisingRows.{program_rises}
use Rattle.line_read.proofs.program.read_sequences.Goals as goal

pub returns-in_err-matrix : goal.returns-in_err-matrix
returns-in_err-matrix c =
    let p = err_from_is_err_and c.from_residual.result c.from_residual.ensures.1 in
    let law = program_is (op_at c.args.header.now c.args.image.now c.args.relocs.now) c.args.header.now c.args.dirs c.args.files (c.args.program.end - c.args.program.place) c.args.program in
    record { exact = rw (p.1, p.2) (run_refused c.args.dirs _ _ _ law c.in_err-matrix.ensures); rising = rw p.1 tt }

pub returns : goal.returns
returns c =
    let law = program_is (op_at c.args.header.now c.args.image.now c.args.relocs.now) c.args.header.now c.args.dirs c.args.files (c.args.program.end - c.args.program.place) c.args.program in
    let is = run_finished c.args.dirs _ c.in_ok-matrix.matrix _ _ law c.in_ok-matrix.ensures c.in_ok-finish.ensures in
    record { exact = is; rising = program_rises _ _ _ _ _ is }
