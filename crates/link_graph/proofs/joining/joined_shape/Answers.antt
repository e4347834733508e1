use Rattle.link_graph.proofs.Joined.{all_may, joined_is, shape_is}
use Rattle.link_graph.proofs.joining.joined_shape.Goals as goal

pub place_shared-requires-clause-may : goal.place_shared-requires-clause-may
place_shared-requires-clause-may g c κs within =
    let all = c.in_ok-shape.field-0 in
    all_may c.args.names.now c.args.winners.now c.args.merged.nodes.items c.deref.result.now all.places.items c.deref-2.result.now all.shape.images c.as_mut_slice.result.now c.requires.merged.nodes c.in_ok-shape.ensures.places c.deref.ensures.value c.deref-2.ensures.value c.as_mut_slice.ensures.value

pub returns-clause-exact : goal.returns-clause-exact
returns-clause-exact g c = λ odr seen live are.
    let all = c.in_ok-shape.field-0 in
    joined_is odr seen live c.args.names.now all.shape all.places.items c.deref-2.result.now c.as_mut_slice.result.now c.place_shared.new.images (c.in_ok-shape.ensures.exact odr seen live are) c.deref-2.ensures.value c.as_mut_slice.ensures.value c.place_shared.ensures

pub returns-clause-is : goal.returns-clause-is
returns-clause-is g c = λ odr seen live are. shape_is odr seen live _ are.sound are.marked.each (returns-clause-exact g c odr seen live are)
