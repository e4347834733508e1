use Rattle.std.proofs.Common.{ℕ, ◌<◌, ◌↔◌}
use Rattle.std.specs.List.{Contains}
use Rattle.dwarf_types.specs.Live.{IsRoot}
use Rattle.liveness.proofs.roots.roots_of.Given as goal

-- the roots among the entries so far
abbrev pub invariant-loop-i : goal.invariant-loop-i
invariant-loop-i l = (k : ℕ) → Contains l.roots.items k ↔ ((k < l.i) × IsRoot l.entries k)
