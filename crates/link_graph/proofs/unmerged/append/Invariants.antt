use Rattle.std.proofs.Common.{◌≡◌, ◌++◌}
use Rattle.link_graph.proofs.unmerged.append.Given as goal

-- the units so far
abbrev pub invariant-loop-unit : goal.invariant-loop-unit
invariant-loop-unit l = l.units ++ l.unit-iterator.rest.items ≡ l.fn.units ++ l.fn.more.items
