use Rattle.std.proofs.Common.{◌≡◌, ◌-◌, reverse}
use Rattle.accel_tables.specs.EnteredNames.{called, called_among}
use Rattle.accel_tables.proofs.calling.called.Given as goal

abbrev pub invariant-loop : goal.invariant-loop
invariant-loop l = called_among (17 - l.counter) l.graph l.at (reverse l.waiting) ≡ called l.graph l.at l.fn.target
