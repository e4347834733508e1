use Rattle.link_cli.proofs.Later.{ends_later}
use Rattle.link_cli.proofs.link.link_main.Goals as goal

pub returns-clause-later : goal.returns-clause-later
returns-clause-later g c = ends_later _ _ c.run-ending.ensures
