use Rattle.std.proofs.Common.{◌≡◌, ◌+◌, ◌≤◌, ◌==◌, length, take}
use Rattle.std.specs.List.{suffix_len}
use Rattle.ar_read.proofs.padding.unpadded.Given as goal

-- what was passed at the end is padding
abbrev pub invariant-loop-len : goal.invariant-loop-len
invariant-loop-len l = (l.len ≤ length l.bytes) × (l.len + suffix_len (λ b. b == l.pad) l.bytes ≡ length l.bytes + suffix_len (λ b. b == l.pad) (take l.len l.bytes))

abbrev pub decreases-loop-len : goal.decreases-loop-len
decreases-loop-len l = l.len
