use Rattle.std.proofs.Common.{◌≡◌, ◌+◌, ◌*◌, ◌++◌, map, drop}
use Rattle.std.specs.List.{range_with_len}
use Rattle.macho_read.specs.Records.{section_of}
use Rattle.macho_read.proofs.commands.take_sections.Given as goal

-- the sections up to here stand behind those that were there
abbrev pub invariant-loop-i : goal.invariant-loop-i
invariant-loop-i l = l.sections ≡ l.fn.sections ++ map (λ i. section_of (drop (72 + 80 * i) l.command)) (range_with_len 0 l.i)
