use Rattle.sample_objects.proofs.ProgramCommands.{count_is}
use Rattle.sample_objects.proofs.linked_file.count_commands.Goals as goal

pub returns : goal.returns
returns c = count_is c.args.image.now _ _ c.count_uuid.ensures.count c.len.ensures
