use Rattle.std.proofs.Common.{◌≡◌, ◌∷◌, ◌∙◌, ap, sym}
use Rattle.unit_drafts.proofs.ShapesMade.{not_first, not_later}
use Rattle.unit_drafts.proofs.shaping.parted.Goals as goal

pub unreachable-requires-in_default-2 : goal.unreachable-requires-in_default-2
unreachable-requires-in_default-2 c =
    let is : c.args.outs ≡ c.in-Some.first ∷ c.next.new.self.rest.items = sym c.into_vec.ensures ∙ sym c.into_iter-left.ensures.rest ∙ c.in-Some.ensures.items in
    not_first c.args.outs c.next.new.self.rest.items c.in-Some.first c.requires is c.in_ok-paths.field-0 c.in_default-2.field-0 c.in_ok-paths.was c.in_default-2.is

pub unreachable-requires-in_default-3 : goal.unreachable-requires-in_default-3
unreachable-requires-in_default-3 c =
    let is : c.args.outs ≡ c.in-Some.first ∷ c.next.new.self.rest.items = sym c.into_vec.ensures ∙ sym c.into_iter-left.ensures.rest ∙ c.in-Some.ensures.items in
    not_later c.args.outs c.next.new.self.rest.items c.in-Some.first c.requires is
    c.loop-out.yielded c.loop-out.out-iterator.rest.items c.next-in-loop-out.new.self.rest.items c.in-Some-out.out c.in_ok-one.field-0 c.in_default-3.field-0
    (c.loop-out.invariant.0 ∙ ap (λ it. it.rest.items) c.into_iter-out-iterator.ensures.into_iter_gives) c.in-Some-out.ensures.steps.0 c.in_ok-one.was c.in_default-3.is
