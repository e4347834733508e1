use Rattle.expr_resolve.specs.Context.{context_in}
use Rattle.object_view.proofs.Items.{Given}
use Rattle.object_view.proofs.locations.locations_of.Given as goal

abbrev pub invariant-loop-item : goal.invariant-loop-item
invariant-loop-item l = Given (context_in l.context) l.items l.locations l.item-index
