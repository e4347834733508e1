use Rattle.std.proofs.Common.{◌≡◌, ◌-◌}
use Rattle.line_read.specs.Operation.{ulebs_at}
use Rattle.line_read.proofs.operation.skip_ulebs.Given as goal

abbrev pub invariant-loop : goal.invariant-loop
invariant-loop l = ulebs_at (l.count - l.counter) l.cursor ≡ ulebs_at l.fn.count l.fn.cursor
