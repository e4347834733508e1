use Rattle.std.proofs.Common.{◌≡◌, true, length}
use Rattle.link_graph.specs.Passes.{merged_by, names_between, put_each}
use Rattle.link_graph.proofs.merged.merged_row.Given as goal

-- the marks of the names that are left make those of all
abbrev pub invariant-loop-x : goal.invariant-loop-x
invariant-loop-x l =
    record {
      len : length l.row ≡ l.entries;
      left : put_each (λ _. true) (names_between l.names l.x l.end) l.row ≡ merged_by l.entries (names_between l.names l.from l.end);
    }
