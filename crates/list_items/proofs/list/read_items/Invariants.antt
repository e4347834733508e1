use Rattle.std.proofs.Common.{◌≡◌, ◌-◌}
use Rattle.ds_base.specs.Spot.{IsSmall}
use Rattle.list_items.specs.Context.{context_in}
use Rattle.list_items.proofs.Turns.{list_at, before}
use Rattle.list_items.proofs.list.read_items.Given as goal

abbrev pub invariant-loop : goal.invariant-loop
invariant-loop g l =
    IsSmall l.cursor
    × (before l.items (list_at (context_in l.context) (g.B.Behind.behind l.behind) (l.left - l.counter) l.base l.cursor) ≡ list_at (context_in l.context) (g.B.Behind.behind l.behind) (l.fn.cursor.end - l.fn.cursor.place) l.fn.base l.fn.cursor)
