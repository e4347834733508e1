use Rattle.std.specs.Slice.Iter.{iter_rest}
use Rattle.object_view.specs.Infos.{info_value}
use Rattle.object_view.proofs.EachOf.{Changed}
use Rattle.object_view.proofs.InPlace.{raw_turn, turned}
use Rattle.object_view.proofs.Leading.{Left, entry_targets}
use Rattle.object_view.proofs.info.understand_each.Given as goal

abbrev pub invariant-loop-i : goal.invariant-loop-i
invariant-loop-i g l = Changed (turned (raw_turn (info_value l.expressions g.places))) l.fn.entries l.entries l.i × Left entry_targets g.places l.fn.entries l.i l.numbers (iter_rest l.left)

abbrev pub ghost-understand_entry : goal.ghost-understand_entry
ghost-understand_entry g a = g.places
