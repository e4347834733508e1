use Rattle.std.proofs.Common.{◌≡◌, ◌+◌, ◌==◌, drop}
use Rattle.std.specs.List.{prefix_len}
use Rattle.accel_tables.proofs.table.same_hashes.Given as goal

-- all so far have it
abbrev pub invariant-loop-i : goal.invariant-loop-i
invariant-loop-i l = l.i + prefix_len (λ r. l.hash == r.hash) (drop l.i l.rows) ≡ prefix_len (λ r. l.hash == r.hash) l.rows
