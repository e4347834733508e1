use Rattle.std.proofs.Common.{◌≡◌, ◌≤◌, length}
use Rattle.accel_tables.proofs.Firsts.{row_from}
use Rattle.accel_tables.proofs.table.firsts_of.Given as goal

-- the hashes from here on are told
abbrev pub invariant-loop-i : goal.invariant-loop-i
invariant-loop-i l = record {
  within : l.i ≤ length l.hashes;
  long : length l.firsts.items ≡ l.buckets;
  told : l.firsts.items ≡ row_from l.buckets l.i l.hashes;
}

abbrev pub decreases-loop-i : goal.decreases-loop-i
decreases-loop-i l = l.i
