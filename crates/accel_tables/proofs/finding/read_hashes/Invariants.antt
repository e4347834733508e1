use Rattle.std.proofs.Common.{◌≡◌, ◌+◌, ◌-◌, ◌≤◌, [], length}
use Rattle.accel_tables.specs.Found.{hashes_from}
use Rattle.accel_tables.proofs.finding.read_hashes.Given as goal

-- the hashes that are left, behind those so far, are those of the bucket
abbrev pub invariant-loop-i : goal.invariant-loop-i
invariant-loop-i l = record {
  all : hashes_from l.table l.counts l.bucket (l.counts.hashes - l.i) l.hashes l.i ≡ hashes_from l.table l.counts l.bucket (l.counts.hashes - l.first) [] l.first;
  count : length l.hashes + l.first ≡ l.i;
  few : length l.hashes ≤ l.counts.hashes - l.first;
}
