use Rattle.std.proofs.Common.{◌∙◌}
use Rattle.liveness.proofs.Fields.{location_moves_at}
use Rattle.liveness.proofs.moves.location_moves.Goals as goal

pub returns-in-Some : goal.returns-in-Some
returns-in-Some c =
    c.have_moved.ensures ∙ location_moves_at c.args.entry.now c.in-Some.ops c.in-Some.ensures
