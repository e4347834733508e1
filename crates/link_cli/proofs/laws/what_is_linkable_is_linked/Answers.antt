use Rattle.link_cli.proofs.Told.{linkable_done}
use Rattle.link_cli.proofs.laws.what_is_linkable_is_linked.Goals as goal

pub returns : goal.returns
returns c = linkable_done
