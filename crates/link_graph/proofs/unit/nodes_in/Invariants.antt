use Rattle.std.proofs.Common.{◌≡◌, ◌++◌}
use Rattle.dwarf_types.specs.LinkedUnits.{Object}
use Rattle.link_graph.specs.Passes.{marked, nodes_in, plain_in_unit, stretch}
use Rattle.link_graph.proofs.unit.nodes_in.Given as goal

-- the entries so far
abbrev pub invariant-loop-n : goal.invariant-loop-n
invariant-loop-n l =
    let o : Object = marked l.seen l.live in
    record {
      nodes : l.nodes ≡ nodes_in l.object o l.u (stretch o l.unit.first l.n);
      plain : l.plain ≡ l.initial.plain ++ plain_in_unit o l.u (stretch o l.unit.first l.n);
    }
