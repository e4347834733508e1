use Rattle.std.proofs.Common.{◌≡◌, ◌+◌, ◌≤◌, length, filter, not, drop}
use Rattle.macho_read.specs.Standings.{is_stab}
use Rattle.dsym_write.proofs.places.count_kept.Given as goal

abbrev pub invariant-loop-i : goal.invariant-loop-i
invariant-loop-i l = record {
  counted : l.count + length (filter (λ s. not (is_stab s)) (drop l.i l.symbols)) ≡ length (filter (λ s. not (is_stab s)) l.symbols);
  few : l.count ≤ l.i;
}
