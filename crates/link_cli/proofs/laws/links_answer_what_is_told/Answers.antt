use Rattle.link_cli.proofs.Told.{links_told}
use Rattle.link_cli.proofs.laws.links_answer_what_is_told.Goals as goal

pub returns : goal.returns
returns c = links_told
