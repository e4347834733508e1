use Rattle.std.proofs.Common.{◌≡◌, ◌∷◌, ◌++◌, None, rules, ap, sym, ◌∙◌, length}
use Rattle.work_share.proofs.Places.{place_full, ordered}
use Rattle.work_share.proofs.order.in_order.Goals as goal

pub unreachable-requires : goal.unreachable-requires
unreachable-requires g c =
    let left : c.loop-slot.slot-iterator.rest.items ≡ None ∷ c.next.new.self.rest.items = c.in-Some.ensures.steps.0 ∙ ap (λ s. s ∷ c.next.new.self.rest.items) c.in_default.is in
    place_full c.args.count c.args.done.items c.in_ok-slots.slots.items c.loop-slot.yielded c.next.new.self.rest.items c.in_ok-slots.ensures c.requires.each
    (ap (λ l. c.loop-slot.yielded ++ l) (sym left) ∙ c.loop-slot.invariant.0 ∙ c.into_iter-slot-iterator.ensures.into_iter_gives.0)

pub returns : goal.returns
returns g c =
    let none : length c.loop-slot.slot-iterator.rest.items ≡ 0 = search rules in
    rw c.from_vec.ensures
    (ordered c.args.count c.args.done.items c.in_ok-slots.slots.items c.loop-slot.yielded c.loop-slot.slot-iterator.rest.items c.loop-slot.outs.items c.in_ok-slots.ensures
    (c.loop-slot.invariant.0 ∙ c.into_iter-slot-iterator.ensures.into_iter_gives.0) none c.loop-slot.invariant.1)
