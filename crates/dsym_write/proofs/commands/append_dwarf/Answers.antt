use Rattle.std.proofs.Common.{ℕ, List, ◌++◌, ap, ◌∙◌}
use Rattle.ds_base.specs.MachONumbers.{LC_SEGMENT_64, SEG_DWARF}
use Rattle.macho_read.specs.Spelling.{command_bytes, padded, segment_fields, spelled}
use Rattle.macho_write.specs.declared.records.SegmentNumbers.{SegmentNumbers}
use Rattle.macho_write.specs.Records.{segment_with}
use Rattle.macho_write.proofs.OwnCommands.{body_is}
use Rattle.dsym_write.specs.Pieces.{dwarf_numbers, records_from, sized}
use Rattle.dsym_write.proofs.commands.append_dwarf.Goals as goal

abbrev front_of : SegmentNumbers → List ℕ
front_of n = padded SEG_DWARF ++ spelled (segment_fields n.fileoff n.filesize (segment_with SEG_DWARF n))

pub returns : goal.returns
returns c =
    let p = c.args.places in
    let begun = c.in_ok-append_segment.ensures ∙ ap (λ (n : SegmentNumbers). c.new-body.result ++ front_of n) c.dwarf_numbers.ensures in
    let body = body_is (front_of (dwarf_numbers p)) (records_from p.vmaddr p.offset (sized c.args.layout.now)) _ _ _ c.new-body.ensures begun c.in_ok-append_parts.ensures in
    c.in_ok-append_command.ensures ∙ ap (λ (bytes : List ℕ). c.args.out.now ++ command_bytes (record { cmd = LC_SEGMENT_64; body = bytes })) (c.as_slice.ensures ∙ body)
