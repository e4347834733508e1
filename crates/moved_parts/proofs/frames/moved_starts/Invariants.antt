use Rattle.std.proofs.Common.{◌≡◌, map, take}
use Rattle.addr_map.specs.Moved.{moved}
use Rattle.moved_parts.proofs.frames.moved_starts.Given as goal

abbrev pub invariant-loop-k : goal.invariant-loop-k
invariant-loop-k l = l.starts.items ≡ map (λ f. moved l.map f.at) (take l.k l.frames)
