use Rattle.std.proofs.Common.{◌≡◌, ◌-◌, length}
use Rattle.accel_tables.specs.Found.{list_from}
use Rattle.accel_tables.proofs.finding.read_list.Given as goal

-- the items that are left, behind the entries so far, are those of the list
abbrev pub invariant-loop : goal.invariant-loop
invariant-loop l =
    list_from l.search.table.now l.search.strings.now l.search.name.now (length l.search.table.now - l.counter) l.entries l.at
    ≡ list_from l.search.table.now l.search.strings.now l.search.name.now (length l.search.table.now) l.fn.entries l.place
