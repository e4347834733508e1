use Rattle.std.proofs.Common.{◌≡◌, ◌-◌}
use Rattle.accel_tables.specs.Found.{entries_from}
use Rattle.accel_tables.proofs.finding.read_entries.Given as goal

-- the entries that are left, behind those so far, are all
abbrev pub invariant-loop : goal.invariant-loop
invariant-loop l = entries_from l.table l.wanted (l.count - l.counter) l.entries l.at ≡ entries_from l.table l.wanted l.count l.fn.entries l.place
