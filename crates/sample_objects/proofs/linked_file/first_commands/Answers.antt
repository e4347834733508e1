use Rattle.std.proofs.Common.{sym, true}
use Rattle.macho_write.specs.Records.{segment_commands, uuid_command}
use Rattle.macho_write.proofs.OwnCommands.{commands_append}
use Rattle.sample_objects.proofs.linked_file.first_commands.Goals as goal

pub returns : goal.returns
returns c =
    let image = c.args.image.now in
    rw (c.in_ok-append_segments.ensures, c.in_ok-append_uuid.ensures, c.new-out.ensures, c.as_slice-2.ensures, c.as_slice.ensures)
    (sym (commands_append (uuid_command image.uuid) (segment_commands true image.segments image.sections)))
