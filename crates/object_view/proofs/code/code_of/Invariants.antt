use Rattle.std.proofs.Common.{◌≡◌, ◌++◌, drop}
use Rattle.std.specs.List.{enumerate_from, flat_map}
use Rattle.object_view.specs.Code as Code
use Rattle.object_view.proofs.code.code_of.Given as goal

abbrev pub invariant-loop-i : goal.invariant-loop-i
invariant-loop-i l = l.code ++ flat_map (Code.code_ranges l.map) (enumerate_from l.i (drop l.i l.entries)) ≡ Code.code_of l.map l.entries
