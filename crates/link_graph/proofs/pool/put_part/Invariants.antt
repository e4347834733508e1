use Rattle.std.proofs.Common.{◌≡◌, ◌+◌, ◌<◌, ℕ, length, slice_index_or}
use Rattle.dwarf_types.specs.declared.shape.Origin.{Origin}
use Rattle.link_graph.specs.Joining.{origin_at}
use Rattle.link_graph.proofs.pool.put_part.Given as goal

-- the nodes so far
abbrev pub invariant-loop-k : goal.invariant-loop-k
invariant-loop-k l =
    record {
      len : length l.part ≡ length l.fn.part;
      put : (j : ℕ) (d : Origin) → j < l.k → slice_index_or l.part j d ≡ origin_at l.names l.merged.order.items (l.start + j);
    }
