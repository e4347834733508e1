use Rattle.std.proofs.Common.{◌≡◌, ◌+◌, ◌++◌, ◌∷◌, ◌∙◌, [], ℕ, append_assoc, ap, arith, length, subst, sym}
use Rattle.std.proofs.lemmas.List.{length_push}
use Rattle.work_share.proofs.Ordering.{GivesEach, each_more}
use Rattle.work_share.proofs.ordered.by_items.Goals as goal

pub loop-slot-preserved : goal.loop-slot-preserved
loop-slot-preserved g c =
    let gives : ℕ → g.row.J-Out.Denot → Type 0 = g.J.Job.gives c.args.job.now in
    let outs = c.loop-slot.outs.items in
    let out = c.result_of-out.result in
    let taken = c.loop-slot.yielded in
    let slot = c.in-Some.slot in
    let rest = c.next.new.self.rest.items in
    let many : c.len-in-loop-slot.result ≡ length outs = omega (arith, c.len-in-loop-slot.ensures, c.loop-slot.outs.ok) in (
      append_assoc taken (slot ∷ []) rest ∙ ap (λ l. taken ++ l) (sym c.in-Some.ensures.steps.0) ∙ c.loop-slot.invariant.0,
      ap length c.in_ok-push.ensures.items ∙ length_push outs out ∙ ap (λ n. n + 1) c.loop-slot.invariant.1 ∙ sym (length_push taken slot),
      subst (GivesEach gives) (sym c.in_ok-push.ensures.items)
          (each_more gives outs out c.loop-slot.invariant.2 (subst (λ n. gives n out) many c.result_of-out.ensures)),
    )
