use Rattle.std.proofs.Common.{append_assoc, refl}
use Rattle.unit_draft.proofs.expression.append_typed.Goals as goal

pub returns : goal.returns
returns c = λ f place tells. rw (c.in_ok-extend-2.ensures.ok f, c.in_ok-append_base.ensures f place tells, c.in_ok-extend.ensures.ok f, c.in_ok-push.ensures.ok f) (simp append_assoc refl)
