use Rattle.std.proofs.Common.{◌≡◌, drop}
use Rattle.std.specs.List.{list_any}
use Rattle.dwarf_types.specs.declared.entry.Attr.{Attr}
use Rattle.type_names.specs.Entries.{is_field}
use Rattle.type_names.proofs.entries.has_field.Given as goal

abbrev pub invariant-loop-j : goal.invariant-loop-j
invariant-loop-j l = list_any (λ (a : Attr). is_field a.value) (drop l.j l.entry.attrs) ≡ list_any (λ (a : Attr). is_field a.value) l.entry.attrs
