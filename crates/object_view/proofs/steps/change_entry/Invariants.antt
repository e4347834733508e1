use Rattle.std.proofs.Common.{◌≡◌, slice_get, Some}
use Rattle.dwarf_types.specs.declared.entry.Entry.{Entry}
use Rattle.object_view.proofs.InPlace.{Part, entry_turn}
use Rattle.object_view.proofs.steps.change_entry.Given as goal

abbrev pub invariant-loop-j : goal.invariant-loop-j
invariant-loop-j g l = (e : Entry) → slice_get l.fn.entries l.i ≡ Some e → Part (entry_turn (g.S.Step.meant l.step)) l.fn.entries l.entries l.i l.j e
