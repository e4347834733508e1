use Rattle.std.proofs.Common.{◌≡◌, ◌+◌, drop}
use Rattle.accel_tables.specs.Found.{lists_from}
use Rattle.accel_tables.proofs.finding.read_lists.Given as goal

-- the lists of the hashes that are left, behind the entries so far, are those of all
abbrev pub invariant-loop-hash : goal.invariant-loop-hash
invariant-loop-hash l = record {
  place : l.i ≡ l.first + l.hash-index;
  all : lists_from l.search.table.now l.search.strings.now l.search.name.now l.counts (drop l.hash-index l.hashes) l.entries l.i
      ≡ lists_from l.search.table.now l.search.strings.now l.search.name.now l.counts l.hashes l.fn.entries l.first;
}
