use Rattle.std.proofs.Common.{◌≡◌, drop}
use Rattle.std.specs.List.{list_all}
use Rattle.dwarf_types.specs.declared.entry.Attr.{Attr}
use Rattle.type_names.specs.Heads.{is_derived_attribute}
use Rattle.type_names.proofs.heads.has_derived_attributes.Given as goal

abbrev pub invariant-loop-j : goal.invariant-loop-j
invariant-loop-j l = list_all (λ (a : Attr). is_derived_attribute a.name) (drop l.j l.entry.attrs) ≡ list_all (λ (a : Attr). is_derived_attribute a.name) l.entry.attrs
