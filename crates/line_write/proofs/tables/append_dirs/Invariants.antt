use Rattle.std.proofs.Common.{◌≡◌, ◌++◌, drop}
use Rattle.std.specs.List.{flat_map}
use Rattle.ds_base.specs.Texts.{ended}
use Rattle.patches.specs.Filling.{Filling, filled}
use Rattle.line_write.proofs.tables.append_dirs.Given as goal

abbrev pub invariant-loop-i : goal.invariant-loop-i
invariant-loop-i l = (f : Filling) → filled l.out f ++ flat_map ended (drop l.i l.dirs) ≡ filled l.fn.out f ++ flat_map ended l.dirs
