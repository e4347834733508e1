use Rattle.std.proofs.Common.{◌≡◌, ◌++◌, ◌∷◌, ◌∙◌, [], List, Option, length, map, refl, ap, arith, rules}
use Rattle.dwarf_types.specs.declared.graph.Target.{Target}
use Rattle.link_graph.specs.OwnShapes.{target_behind}
use Rattle.link_graph.specs.Passes.{marked}
use Rattle.link_graph.proofs.Gathered.{lent_all}
use Rattle.link_graph.proofs.Growing.{object_added, units_added}
use Rattle.link_graph.proofs.Placed.{own_few}
use Rattle.link_graph.proofs.unmerged.add_object.Goals as goal

pub returns-in_err-before-clause-many : goal.returns-in_err-before-clause-many
returns-in_err-before-clause-many c = λ e seen live object row behind is gives. (
    let before : c.len.result ≡ length c.args.shape.now.units = search rules in
    let own : c.len-2.result ≡ length c.args.own.units.items = search rules in
    omega (arith, c.in_err-before.ensures.full.0 refl, before, own, units_added seen live object row behind c.args.shape.now c.args.own is gives))

pub place_behind-requires : goal.place_behind-requires
place_behind-requires c =
    let own = c.requires.own in
    let units : c.len-2.result ≡ length c.args.own.units.items = search rules in
    own_few own.0 (marked own.1 own.2) c.args.own _ _ own.3 own.5 c.as_mut_slice.ensures.value (omega (arith, c.in_ok-before.ensures.number.0, c.in_ok-before.ensures.number.1, units))

pub returns-clause-added : goal.returns-clause-added
returns-clause-added c = λ seen live object row behind is gives. (
    let before = c.in_ok-before.before in
    let became = c.place_behind.new.images in
    let was = c.args.own.images in
    let place : c.len.result ≡ length c.args.shape.now.units = search rules in
    let led = lent_all became was (omega (arith, c.place_behind.auto.images, ap length c.as_mut_slice.ensures.value)) ∙ c.place_behind.ensures ∙ ap (map (target_behind before)) c.as_mut_slice.ensures.value in
    object_added seen live object row behind c.args.shape.now c.args.own is gives before c.append.new.units c.push.new.self c.push-2.new.self (c.in_ok-before.ensures.number.0 ∙ place) c.in_ok-append.ensures c.in_ok-push.ensures.ok
    (c.in_ok-push-2.ensures.ok ∙ ap (λ (images : List (Option Target)). c.args.shape.now.images ++ images ∷ []) led))
