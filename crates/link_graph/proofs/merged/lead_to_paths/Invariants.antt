use Rattle.std.proofs.Common.{◌≡◌, length}
use Rattle.link_graph.specs.Passes.{names_between, path_target, put_each}
use Rattle.link_graph.proofs.merged.lead_to_paths.Given as goal

-- the nodes of the names that are left make those of all
abbrev pub invariant-loop-x : goal.invariant-loop-x
invariant-loop-x l =
    record {
      len : length l.images ≡ length l.fn.images;
      left : put_each (path_target l.names) (names_between l.names l.x l.end) l.images ≡ put_each (path_target l.names) (names_between l.names l.from l.end) l.fn.images;
    }
