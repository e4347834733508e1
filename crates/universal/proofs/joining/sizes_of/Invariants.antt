use Rattle.std.proofs.Common.{◌≡◌, map, take}
use Rattle.universal.specs.Joined.{appended}
use Rattle.universal.proofs.joining.sizes_of.Given as goal

abbrev pub invariant-loop-part : goal.invariant-loop-part
invariant-loop-part l = l.sizes ≡ map appended (take l.part-index l.parts)
