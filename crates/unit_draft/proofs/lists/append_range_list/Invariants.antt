use Rattle.std.proofs.Common.{◌≡◌, ◌++◌, drop}
use Rattle.std.specs.List.{flat_map}
use Rattle.dwarf_types.specs.Lists.{range_bytes}
use Rattle.unit_draft.proofs.lists.append_range_list.Given as goal

abbrev pub invariant-loop-span : goal.invariant-loop-span
invariant-loop-span l = l.out ++ flat_map (range_bytes l.version) (drop l.span-index l.spans) ≡ l.fn.out ++ flat_map (range_bytes l.version) l.spans
