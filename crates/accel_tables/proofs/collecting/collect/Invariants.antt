use Rattle.std.proofs.Common.{◌≡◌, ◌++◌, drop}
use Rattle.std.specs.List.{enumerate_from, flat_map}
use Rattle.accel_tables.specs.EnteredNames.{collected, names_of_node}
use Rattle.accel_tables.proofs.collecting.collect.Given as goal

abbrev pub invariant-loop-u : goal.invariant-loop-u
invariant-loop-u l = l.pairs ++ flat_map (λ unit. flat_map (names_of_node l.graph l.which unit.0 unit.1.nodes) (enumerate_from 0 unit.1.nodes)) (enumerate_from l.u (drop l.u l.graph.units)) ≡ collected l.graph l.which
