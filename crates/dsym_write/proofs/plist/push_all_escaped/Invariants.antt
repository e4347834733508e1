use Rattle.std.proofs.Common.{◌≡◌, ◌++◌, take}
use Rattle.std.specs.List.{flat_map}
use Rattle.dsym_write.specs.Plist.{escaped}
use Rattle.dsym_write.proofs.plist.push_all_escaped.Given as goal

abbrev pub invariant-loop-b : goal.invariant-loop-b
invariant-loop-b l = l.text ≡ l.fn.text ++ flat_map escaped (take l.b-index l.bytes)
