use Rattle.std.proofs.Common.{◌≡◌, drop}
use Rattle.std.specs.List.{position_from}
use Rattle.macho_read.specs.Kind.{dwarf_at, is_dwarf_part, with_sections}
use Rattle.macho_read.proofs.kind.check_not_linked.Given as goal

-- what is found from here on is what is found in all
abbrev pub invariant-loop-k : goal.invariant-loop-k
invariant-loop-k l = position_from is_dwarf_part l.k (with_sections (drop l.k l.segments) l.rest) ≡ dwarf_at l.segments l.sections
