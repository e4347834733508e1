use Rattle.std.proofs.Common.{◌≡◌, ◌+◌, ◌-◌, ℕ, subst, sym, arith}
use Rattle.link_graph.specs.Merged.{kept_objects}
use Rattle.link_graph.specs.OwnShapes.{IsOwnShapeAt}
use Rattle.unit_drafts.proofs.shaping.Shaping.object.Goals as goal

pub returns : goal.returns
returns c =
    let job = c.args.self.now in
    let back : c.args.object + 1 - 1 ≡ c.args.object = omega arith in
    (omega arith, λ odr named. subst (λ (n : ℕ). IsOwnShapeAt (kept_objects odr job.seen.now job.live.now) n c.in_ok-own.own) (sym back) (c.in_ok-own.ensures odr named))
