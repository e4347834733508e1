use Rattle.std.proofs.Common.{ap, refl}
use Rattle.link_cli.specs.Answer.{generates, reads_exe}
use Rattle.link_cli.specs.Plan.{is_generated}
use Rattle.link_cli.proofs.link.run_plan.Goals as goal

pub returns-in-Link : goal.returns-in-Link
returns-in-Link g c = reads_exe _ (ap is_generated c.in-Link.is) c.run_program.ensures

pub returns-in-Map : goal.returns-in-Map
returns-in-Map g c = reads_exe _ (ap is_generated c.in-Map.is) c.run_program-in-Map.ensures

pub returns-in-Generate : goal.returns-in-Generate
returns-in-Generate g c = generates c.in-Generate.count _ c.in-Generate.is refl c.link_generated.ensures
