use Rattle.std.proofs.Common.{ap, true}
use Rattle.clap.specs.Words.{App}
use Rattle.batch_list.proofs.plan.plain_command.Goals as goal

abbrev plain : App → App
plain a = record a { top = record a.top { no_binary_name = true; disable_help_flag = true; disable_version_flag = true } }

pub returns : goal.returns
returns c = rw (c.disable_version_flag.ensures, c.disable_help_flag.ensures, c.no_binary_name.ensures) (ap plain c.new.ensures.app)
