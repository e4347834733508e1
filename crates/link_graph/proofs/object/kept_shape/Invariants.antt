use Rattle.std.proofs.Common.{◌≡◌, map}
use Rattle.dwarf_types.specs.LinkedUnits.{Object}
use Rattle.link_graph.specs.Passes.{marked, node_in, units_below}
use Rattle.link_graph.proofs.Objects.{HasImages}
use Rattle.link_graph.proofs.object.kept_shape.Given as goal

-- the units so far
abbrev pub invariant-loop-u : goal.invariant-loop-u
invariant-loop-u l =
    let o : Object = marked l.seen l.kept in
    record {
      units : l.own.units.items ≡ units_below l.object o l.u;
      images : HasImages 0 l.object o l.u l.own.images;
      same : l.own.plain ≡ map node_in l.own.images;
    }
