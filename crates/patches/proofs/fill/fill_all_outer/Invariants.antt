use Rattle.std.proofs.Common.{◌≡◌, drop}
use Rattle.patches.specs.Filling.{fill_outer}
use Rattle.patches.proofs.fill.fill_all_outer.Given as goal

abbrev pub invariant-loop-patch : goal.invariant-loop-patch
invariant-loop-patch g l = fill_outer (g.N.OuterNumbers.number l.outside) (drop l.patch-index l.patches) l.room ≡ fill_outer (g.N.OuterNumbers.number l.outside) l.patches l.fn.room
