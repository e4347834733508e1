use Rattle.std.proofs.Common.{◌≡◌, ◌++◌, drop}
use Rattle.std.specs.List.{flat_map}
use Rattle.dwarf_types.specs.Aranges.{arange_bytes}
use Rattle.layout.proofs.address_sets.append_spans.Given as goal

abbrev pub invariant-loop-span : goal.invariant-loop-span
invariant-loop-span l = l.out ++ flat_map arange_bytes (drop l.span-index l.spans) ≡ l.fn.out ++ flat_map arange_bytes l.spans
