use Rattle.object_view.proofs.EachOf.{Changed}
use Rattle.object_view.proofs.InPlace.{entry_turn, turned}
use Rattle.object_view.proofs.steps.change_each.Given as goal

abbrev pub invariant-loop-i : goal.invariant-loop-i
invariant-loop-i g l = Changed (turned (entry_turn (g.S.Step.meant l.step))) l.fn.entries l.entries l.i
