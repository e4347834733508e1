use Rattle.std.proofs.Common.{◌≡◌, ◌++◌, drop}
use Rattle.std.specs.List.{flat_map}
use Rattle.macho_read.specs.Spelling.{section_bytes}
use Rattle.macho_write.specs.Records.{placed_sections}
use Rattle.macho_write.proofs.segments.append_sections.Given as goal

abbrev pub invariant-loop-section : goal.invariant-loop-section
invariant-loop-section l = l.out ++ flat_map section_bytes (placed_sections l.placed (drop l.section-index l.sections)) ≡ l.fn.out ++ flat_map section_bytes (placed_sections l.placed l.sections)
