use Rattle.std.proofs.Common.{◌∙◌}
use Rattle.liveness.proofs.Fields.{has_location_at}
use Rattle.liveness.proofs.moves.has_location.Goals as goal

pub returns-in-Some : goal.returns-in-Some
returns-in-Some c =
    c.have_fields.ensures ∙ has_location_at c.args.entry.now c.in-Some.ops c.in-Some.ensures
