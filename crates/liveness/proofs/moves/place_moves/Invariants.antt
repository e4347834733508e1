use Rattle.std.proofs.Common.{◌≡◌, drop, is_some}
use Rattle.std.specs.List.{list_any}
use Rattle.dwarf_types.specs.declared.entry.Attr.{Attr}
use Rattle.dwarf_types.specs.Moves.{address_moved}
use Rattle.liveness.proofs.moves.place_moves.Given as goal

abbrev pub invariant-loop-j : goal.invariant-loop-j
invariant-loop-j l = list_any (λ (a : Attr). is_some (address_moved l.entry.tag a)) (drop l.j l.entry.attrs) ≡ list_any (λ (a : Attr). is_some (address_moved l.entry.tag a)) l.entry.attrs
