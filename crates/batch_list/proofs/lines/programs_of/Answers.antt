use Rattle.std.proofs.Common.{◌∙◌, ap, map}
use Rattle.batch_list.proofs.Lists.{few_lines}
use Rattle.batch_list.proofs.lines.programs_of.Goals as goal

pub programs_among-requires : goal.programs_among-requires
programs_among-requires c = record { few = rw c.as_slice.ensures.value (few_lines c.in_ok-lines.lines.items c.args.list.now c.in_ok-lines.ensures c.requires.short) }
