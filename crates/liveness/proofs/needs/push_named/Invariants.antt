use Rattle.std.proofs.Common.{◌≡◌, ◌==◌, ◌++◌, take, None, if◌then◌else◌}
use Rattle.std.specs.List.{flat_map}
use Rattle.std.specs.Option.{option_to_list}
use Rattle.ds_base.specs.DwarfNumbers.{DW_AT_sibling}
use Rattle.dwarf_types.specs.declared.entry.Attr.{Attr}
use Rattle.dwarf_types.specs.Live.{op_bases, operations_of, target_in}
use Rattle.liveness.proofs.needs.push_named.Given as goal

abbrev pub invariant-loop-j : goal.invariant-loop-j
invariant-loop-j l =
    l.out.items ≡ l.fn.out.items ++ flat_map (λ (a : Attr). option_to_list (if a.name == DW_AT_sibling then None else target_in a.value) ++ flat_map op_bases (operations_of a.value)) (take l.j l.entry.attrs)
