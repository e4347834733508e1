use Rattle.std.proofs.Common.{◌≡◌, ◌≤◌, ◌+◌, ◌-◌, ◌++◌, drop, length, map, All}
use Rattle.std.specs.Vec.{vec_capacity, vec_len}
use Rattle.patches.specs.Filling.{outer_behind}
use Rattle.patches.proofs.buffer.push_outer.Given as goal

abbrev pub invariant-loop-patch : goal.invariant-loop-patch
invariant-loop-patch l =
    record {
      room : vec_len l.out + (length l.patches - l.patch-index) ≤ vec_capacity l.out;
      pushed : l.out.items ++ map (outer_behind l.base) (drop l.patch-index l.patches) ≡ l.fn.out.items ++ map (outer_behind l.base) l.patches;
      inside : All (λ p. p.at + 4 ≤ l.end) l.fn.out.items → All (λ p. p.at + 4 ≤ l.end) l.out.items;
    }
