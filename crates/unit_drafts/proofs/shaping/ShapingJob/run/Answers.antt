use Rattle.std.proofs.Common.{◌≡◌, ◌+◌, ◌-◌, ℕ, subst, arith}
use Rattle.unit_drafts.specs.Shaping.{GivesMade}
use Rattle.unit_drafts.proofs.shaping.ShapingJob.run.Goals as goal

pub returns : goal.returns
returns c =
    let job = c.args.self.now in
    let item : c.args.item - 1 + 1 ≡ c.args.item = omega arith in
    subst (λ (n : ℕ). GivesMade job.seen.now job.live.now job.names.now job.winners.now n c.object.result) item c.object.ensures
