use Rattle.std.proofs.Common.{length, refl, ap, ◌∙◌, arith}
use Rattle.link_core.proofs.Unmerging.{drafting_of, whole_drafted}
use Rattle.link_core.proofs.unmerged.Unmerged.draft_others.Goals as goal

pub draft_others-requires-clause-drafting : goal.draft_others-requires-clause-drafting
draft_others-requires-clause-drafting g c κs lives =
    let seen = c.requires.drawn.0 in
    let drafting = drafting_of seen c.requires.drawn.1 c.args.self.now c.requires.drawn.2 c.if-self.false in
    (seen, drafting.0, drafting.1)

pub let_go-requires : goal.let_go-requires
let_go-requires g c =
    let seen = c.requires.drawn.0 in
    let drafting = drafting_of seen c.requires.drawn.1 c.args.self.now c.requires.drawn.2 c.if-self.false in
    let done = (c.in_ok-draft_others.ensures seen drafting.0 drafting.1).0 in
    omega (arith, done.gone, done.long)

pub returns : goal.returns
returns g c =
    λ seen marks are.
    let drafting = drafting_of seen marks c.args.self.now are c.if-self.false in
    let done = c.in_ok-draft_others.ensures seen drafting.0 drafting.1 in
    whole_drafted seen marks c.args.self.now are _ c.if-self.false refl refl refl refl refl (c.let_go.ensures.drafting seen c.args.self.now.shape done.0 done.1) (ap (λ outs. length outs.items) c.let_go.ensures.outs ∙ done.1)
