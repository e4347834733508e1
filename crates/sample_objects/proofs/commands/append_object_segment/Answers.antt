use Rattle.std.proofs.Common.{ℕ, List, [], ◌++◌, append_assoc, ap, ◌∙◌}
use Rattle.std.specs.List.{flat_map}
use Rattle.ds_base.specs.MachONumbers.{LC_SEGMENT_64}
use Rattle.macho_read.specs.Spelling.{command_bytes, padded, section_bytes, segment_fields, spelled}
use Rattle.macho_write.proofs.OwnCommands.{whole_body}
use Rattle.sample_objects.specs.ObjectFile.{debug_sections, segment_of, text_section}
use Rattle.sample_objects.proofs.commands.append_object_segment.Goals as goal

pub returns : goal.returns
returns c =
    let p = c.args.places in
    let front = padded [] ++ spelled (segment_fields p.offset p.contents (segment_of p)) in
    let text = section_bytes text_section in
    let records = flat_map section_bytes (debug_sections p p.offset c.args.sized.now) in
    let begun = rw c.from.ensures at c.in_ok-append_segment.ensures in
    let sections = c.in_ok-append_debug_sections.ensures ∙ ap (λ (l : List ℕ). l ++ records) c.in_ok-append_code_section.ensures ∙ append_assoc _ text records in
    let body = whole_body front (text ++ records) _ _ _ c.new-body.ensures begun sections in
    c.in_ok-append_command.ensures ∙ ap (λ (bytes : List ℕ). c.args.out.now ++ command_bytes (record { cmd = LC_SEGMENT_64; body = bytes })) (c.as_slice.ensures ∙ body)
