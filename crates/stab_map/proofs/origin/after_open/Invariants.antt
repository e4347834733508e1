use Rattle.std.proofs.Common.{◌≡◌, ◌+◌, ◌≤◌, not, length, take}
use Rattle.std.specs.List.{suffix_len}
use Rattle.stab_map.specs.Origin.{is_open}
use Rattle.stab_map.proofs.origin.after_open.Given as goal

-- what was passed at the end has no `(`
abbrev pub invariant-loop-len : goal.invariant-loop-len
invariant-loop-len l = (l.len ≤ length l.path) × (l.len + suffix_len (λ b. not (is_open b)) l.path ≡ length l.path + suffix_len (λ b. not (is_open b)) (take l.len l.path))

abbrev pub decreases-loop-len : goal.decreases-loop-len
decreases-loop-len l = l.len
