use Rattle.link_core.proofs.WithinLimits.{within_limits}
use Rattle.link_core.proofs.image.write_image.Goals as goal

pub returns-in-Ok : goal.returns-in-Ok
returns-in-Ok g c = λ graph measured.
    let made = c.in-Ok.ensures graph measured in
    (within_limits c.args.program.now.image.now graph measured.2 made.1, made.0)
