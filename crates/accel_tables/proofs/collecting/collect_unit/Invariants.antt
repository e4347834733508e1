use Rattle.std.proofs.Common.{◌≡◌, ◌++◌, drop}
use Rattle.std.specs.List.{enumerate_from, flat_map}
use Rattle.accel_tables.specs.EnteredNames.{names_of_node}
use Rattle.accel_tables.proofs.collecting.collect_unit.Given as goal

abbrev pub invariant-loop-k : goal.invariant-loop-k
invariant-loop-k l = l.pairs ++ flat_map (names_of_node l.graph l.which l.unit l.nodes) (enumerate_from l.k (drop l.k l.nodes)) ≡ l.fn.pairs ++ flat_map (names_of_node l.graph l.which l.unit l.nodes) (enumerate_from 0 l.nodes)
