use Rattle.std.proofs.Common.{◌≡◌, ◌+◌, ◌∷◌, ◌∙◌, [], ℕ, length, ap, subst, sym, arith, length-append}
use Rattle.std.proofs.lemmas.Result.{IfOk-weaker}
use Rattle.link_graph.specs.Merged.{kept_objects}
use Rattle.link_graph.specs.OwnShapes.{AreOwnShapes}
use Rattle.link_graph.specs.PoolOrder.{AreRanked}
use Rattle.link_graph.proofs.Joined.{own_more}
use Rattle.link_graph.proofs.LinkedRanks.{linked_ranked}
use Rattle.link_graph.proofs.shape.build.Goals as goal

pub loop-i-preserved : goal.loop-i-preserved
loop-i-preserved g c =
    let own = c.loop-i.own.items in
    let one = c.in_ok-object_shape.field-0 in
    record {
      len = ap length c.in_ok-push.ensures.items ∙ length-append own (one ∷ []) ∙ ap (λ (n : ℕ). n + 1) c.loop-i.invariant.len;
      each = λ odr named. rw (c.in_ok-push.ensures.items) (own_more (kept_objects odr c.args.seen.now c.args.live.now) own c.loop-i.i one c.loop-i.invariant.len (c.loop-i.invariant.each odr named) (c.in_ok-object_shape.ensures odr named));
    }

pub joined_shape-requires-clause-own : goal.joined_shape-requires-clause-own
joined_shape-requires-clause-own g c κs within =
    let odr = c.requires.book.0 in
    let named = c.requires.book.1 in
    let all : c.loop-i.i ≡ length c.args.seen.now = omega arith in
    let are : AreOwnShapes odr c.args.seen.now c.args.live.now c.args.names.now c.loop-i.own.items =
    record { sound = c.requires.sound; marked = c.requires.marked; few = c.requires.few; named = named; len = c.loop-i.invariant.len ∙ all; each = c.loop-i.invariant.each odr named } in
    (odr, c.args.seen.now, c.args.live.now, are)

pub returns-clause-exact : goal.returns-clause-exact
returns-clause-exact g c = IfOk-weaker c.joined_shape.result _ _ (λ shape is odr named. (
    let all : c.loop-i.i ≡ length c.args.seen.now = omega arith in
    let are : AreOwnShapes odr c.args.seen.now c.args.live.now c.args.names.now c.loop-i.own.items =
    record { sound = c.requires.sound; marked = c.requires.marked; few = c.requires.few; named = named; len = c.loop-i.invariant.len ∙ all; each = c.loop-i.invariant.each odr named } in
    is odr c.args.seen.now c.args.live.now are)) c.joined_shape.ensures.exact

pub returns-clause-is : goal.returns-clause-is
returns-clause-is g c = IfOk-weaker c.joined_shape.result _ _ (λ shape is. (
    let odr = c.requires.book.0 in
    let named = c.requires.book.1 in
    let all : c.loop-i.i ≡ length c.args.seen.now = omega arith in
    let are : AreOwnShapes odr c.args.seen.now c.args.live.now c.args.names.now c.loop-i.own.items =
    record { sound = c.requires.sound; marked = c.requires.marked; few = c.requires.few; named = named; len = c.loop-i.invariant.len ∙ all; each = c.loop-i.invariant.each odr named } in
    is odr c.args.seen.now c.args.live.now are)) c.joined_shape.ensures.is

pub returns-clause-units : goal.returns-clause-units
returns-clause-units g c = λ e odr named. (
    let all : c.loop-i.i ≡ length c.args.seen.now = omega arith in
    let are : AreOwnShapes odr c.args.seen.now c.args.live.now c.args.names.now c.loop-i.own.items =
    record { sound = c.requires.sound; marked = c.requires.marked; few = c.requires.few; named = named; len = c.loop-i.invariant.len ∙ all; each = c.loop-i.invariant.each odr named } in
    c.joined_shape.ensures.units e odr c.args.seen.now c.args.live.now are)

pub path_nodes-requires-clause-ranked : goal.path_nodes-requires-clause-ranked
path_nodes-requires-clause-ranked g c = subst AreRanked (sym c.requires.book.1) (linked_ranked c.requires.book.0 c.args.seen.now c.args.live.now c.requires.sound c.requires.few)
