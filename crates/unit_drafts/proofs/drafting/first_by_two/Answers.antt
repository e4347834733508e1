use Rattle.std.proofs.Common.{◌≡◌, ◌+◌, ◌-◌, Result, Ok, IfOk, subst}
use Rattle.work_share.specs.Results.{GivesAll}
use Rattle.unit_drafts.specs.Drafting.{DraftsBy}
use Rattle.work_share.proofs.Turns.{given_first}
use Rattle.unit_drafts.proofs.drafting.first_by_two.Goals as goal

where_ok : {V E : Type 0} (r : Result V E) (v : V) (P : V → Type 0) → r ≡ Ok v → IfOk r P → P v
where_ok {V} {E} r v P same h = subst (λ (it : Result V E). IfOk it P) same h

pub returns : goal.returns
returns g c =
    let gives = DraftsBy c.args.batch.now.left.now c.args.batch.now.shape.now in
    let first = c.args.batch.now.first in
    let end = c.args.batch.now.end in
    let others = c.in_ok-others.field-0 in
    let given = where_ok c.join-draft.result.1.0 others (λ outs. GivesAll (λ k out. gives (first + 1 + k) out) (end - (first + 1)) outs.items) c.in_ok-others.was c.join-draft.ensures.second in
    given_first gives first end c.join-draft.result.0 others.items _ _ _ c.requires.some c.new-outs.ensures.items c.in_ok-push.ensures.items c.in_ok-put_behind.ensures c.join-draft.ensures.first given
