use Rattle.std.proofs.Common.{◌≡◌, ◌++◌, map, take}
use Rattle.link_graph.specs.Passes.{target_in}
use Rattle.link_graph.proofs.unit.add_images.Given as goal

abbrev pub invariant-loop-node : goal.invariant-loop-node
invariant-loop-node l = l.images ≡ l.initial.images ++ map (target_in l.number) (take l.node-index l.plain)
