use Rattle.std.proofs.Common.{◌≡◌, drop}
use Rattle.patches.specs.Filling.{fill_own}
use Rattle.patches.specs.Numbers.{own_number}
use Rattle.patches.proofs.fill.fill_all_own.Given as goal

abbrev pub invariant-loop-patch : goal.invariant-loop-patch
invariant-loop-patch l = fill_own (own_number l.len l.places) (drop l.patch-index l.patches) l.room ≡ fill_own (own_number l.len l.places) l.patches l.fn.room
