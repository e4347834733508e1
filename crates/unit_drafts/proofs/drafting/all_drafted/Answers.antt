use Rattle.std.proofs.Common.{◌≡◌, ◌∷◌, [], Result, Ok, Err, length, ap, sym, subst, ◌∙◌, arith, rules, length-append}
use Rattle.std.proofs.lemmas.Result.{err_from_is_err_and}
use Rattle.work_share.specs.Results.{GivesAll}
use Rattle.layout.proofs.DraftRuns.{all_drafted, none_drafted}
use Rattle.unit_draft.specs.declared.unit.Draft.{Draft}
use Rattle.link_status.specs.declared.refusal.Refusal.{Refusal}
use Rattle.unit_drafts.specs.Drafting.{DraftsUnit}
use Rattle.unit_drafts.proofs.Graphs.{draft_long, draft_more}
use Rattle.work_share.proofs.Turns.{all_taken, given_here, goes_on}
use Rattle.unit_drafts.proofs.drafting.all_drafted.Goals as goal

pub loop-out-init : goal.loop-out-init
loop-out-init c = (search rules, λ graph given. none_drafted graph c.in_ok-drafts.drafts c.in_ok-drafts.ensures)

pub returns-in_err-draft : goal.returns-in_err-draft
returns-in_err-draft c =
    let left = c.loop-out.out-iterator.rest.items in
    let all = c.into_iter-out-iterator.result.rest.items in
    let rest = c.next.new.self.rest.items in
    let yielded = c.loop-out.yielded in
    let out : Result Draft Refusal = Err c.in_err-draft.field-0.0 in
    let next : left ≡ out ∷ rest = c.in-Some.ensures.steps.0 ∙ ap (λ o. o ∷ rest) c.in_err-draft.was in
    let same : all ≡ c.args.outs.items = c.into_iter-out-iterator.ensures.into_iter_gives.0 in
    let p = err_from_is_err_and c.from_residual-in_err-draft.result c.from_residual-in_err-draft.ensures.1 in
    λ graph few given.
    let given' : GivesAll (DraftsUnit graph) (length graph.units) all = subst (GivesAll (DraftsUnit graph) (length graph.units)) (sym same) given in
    let here = given_here (DraftsUnit graph) (length graph.units) all yielded left rest out c.loop-out.invariant.0 next given' in
    rw (p.1, p.2) (draft_long graph (length yielded) c.loop-out.drafts (c.loop-out.invariant.1 graph given') c.in_err-draft.field-0.0 few here)

pub loop-out-preserved : goal.loop-out-preserved
loop-out-preserved c =
    let left = c.loop-out.out-iterator.rest.items in
    let all = c.into_iter-out-iterator.result.rest.items in
    let rest = c.next.new.self.rest.items in
    let yielded = c.loop-out.yielded in
    let out : Result Draft Refusal = Ok c.in_ok-draft.draft in
    let next : left ≡ out ∷ rest = c.in-Some.ensures.steps.0 ∙ ap (λ o. o ∷ rest) c.in_ok-draft.was in (
      goes_on c.into_iter-out-iterator.result.rest.items c.loop-out.yielded c.loop-out.out-iterator.rest.items c.next.new.self.rest.items c.in-Some.out c.loop-out.invariant.0 c.in-Some.ensures.steps.0,
      λ graph given.
          let here = given_here (DraftsUnit graph) (length graph.units) all yielded left rest out c.loop-out.invariant.0 next given in
          rw (length-append yielded (c.in-Some.out ∷ [])) (draft_more graph (length yielded) c.loop-out.drafts (c.loop-out.invariant.1 graph given) c.push.new.self c.in_ok-draft.draft here c.in_ok-push.ensures.ok),
    )

pub returns : goal.returns
returns c =
    let all = c.into_iter-out-iterator.result.rest.items in
    let same : all ≡ c.args.outs.items = c.into_iter-out-iterator.ensures.into_iter_gives.0 in
    let none : length c.loop-out.out-iterator.rest.items ≡ 0 = search rules in
    λ graph few given.
    let given' : GivesAll (DraftsUnit graph) (length graph.units) all = subst (GivesAll (DraftsUnit graph) (length graph.units)) (sym same) given in
    let taken = all_taken (DraftsUnit graph) (length graph.units) all c.loop-out.yielded c.loop-out.out-iterator.rest.items c.loop-out.invariant.0 none given' in
    all_drafted graph (length c.loop-out.yielded) c.loop-out.drafts (omega (arith, taken)) (omega (arith, taken)) (c.loop-out.invariant.1 graph given')
