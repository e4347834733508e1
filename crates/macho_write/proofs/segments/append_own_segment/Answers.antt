use Rattle.std.proofs.Common.{ℕ, List, ◌++◌, ap, ◌∙◌}
use Rattle.std.specs.List.{flat_map}
use Rattle.ds_base.specs.MachONumbers.{LC_SEGMENT_64}
use Rattle.macho_read.specs.Spelling.{command_bytes, padded, section_bytes, segment_fields, spelled}
use Rattle.macho_write.specs.Records.{placed_sections}
use Rattle.macho_write.proofs.OwnCommands.{whole_body}
use Rattle.macho_write.proofs.segments.append_own_segment.Goals as goal

pub returns : goal.returns
returns c =
    let s = c.args.segment.now in
    let front = rw (c.as_slice.ensures, c.from.ensures) at c.in_ok-append_segment.ensures in
    let body = whole_body (padded s.name ++ spelled (segment_fields 0 0 s)) (flat_map section_bytes (placed_sections c.args.placed c.args.own.now)) _ _ _ c.new-body.ensures front c.in_ok-append_sections.ensures in
    c.in_ok-append_command.ensures ∙ ap (λ (bytes : List ℕ). c.args.out.now ++ command_bytes (record { cmd = LC_SEGMENT_64; body = bytes })) (c.as_slice-2.ensures ∙ body)
