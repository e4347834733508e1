use Rattle.std.proofs.Common.{◌+◌, ◌*◌, drop, refl, append_assoc, arith}
use Rattle.std.proofs.lemmas.List.FromFn.{map-range_with_len_more}
use Rattle.macho_read.specs.Records.{section_of}
use Rattle.macho_read.proofs.commands.take_sections.Goals as goal

pub loop-i-preserved : goal.loop-i-preserved
loop-i-preserved c =
    rw (c.in_ok-push.ensures.ok, c.in_ok-read_section.ensures, c.bytes_from.ensures.is, c.loop-i.invariant, map-range_with_len_more (λ i. section_of (drop (72 + 80 * i) c.args.command.now)) 0 c.loop-i.i c.loop-i.i (omega arith), append_assoc) refl
