use Rattle.std.proofs.Common.{sym, ◌∙◌}
use Rattle.liveness.proofs.Marks.{grown_one}
use Rattle.liveness.proofs.mark.mark.Goals as goal

pub returns-in_ok-push : goal.returns-in_ok-push
returns-in_ok-push c =
    rw (c.set.ensures, c.in_ok-push.ensures.items) (grown_one c.args.row.now c.args.work.now.items c.args.k c.requires (sym c.get.ensures ∙ c.if-not-get.true))
