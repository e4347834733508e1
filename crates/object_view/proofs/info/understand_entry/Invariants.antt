use Rattle.std.proofs.Common.{◌≡◌, slice_get, Some}
use Rattle.std.specs.Slice.Iter.{iter_rest}
use Rattle.dwarf_types.specs.declared.entry.RawEntry.{RawEntry}
use Rattle.object_view.specs.Infos.{info_value}
use Rattle.object_view.proofs.InPlace.{Part, raw_turn}
use Rattle.object_view.proofs.Leading.{Left, attr_targets}
use Rattle.object_view.proofs.info.understand_entry.Given as goal

abbrev pub invariant-loop-j : goal.invariant-loop-j
invariant-loop-j g l = (e : RawEntry) → slice_get l.fn.entries l.i ≡ Some e
    → Part (raw_turn (info_value l.expressions g.places)) l.fn.entries l.entries l.i l.j e × Left attr_targets g.places e.attrs l.j (iter_rest l.fn.numbers) (iter_rest l.numbers)

abbrev pub ghost-understand_attr : goal.ghost-understand_attr
ghost-understand_attr g a = g.places
