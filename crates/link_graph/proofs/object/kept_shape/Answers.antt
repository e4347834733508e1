use Rattle.std.proofs.Common.{◌≡◌, ◌+◌, ◌++◌, List, length, map, sym, ap, subst, ◌∙◌, arith}
use Rattle.std.specs.Option.{option_to_list}
use Rattle.dwarf_types.specs.declared.shape.ShapeUnit.{ShapeUnit}
use Rattle.dwarf_types.specs.LinkedUnits.{Object}
use Rattle.link_graph.specs.Passes.{marked, node_in, unit_at, units_below}
use Rattle.link_graph.proofs.Objects.{HasImages, below_few, images_all, images_next, unit_begun, units_all, units_few, units_next}
use Rattle.link_graph.proofs.Shapes.{plain_from_images}
use Rattle.link_graph.proofs.object.kept_shape.Goals as goal

pub add_unit-requires-clause-numbered : goal.add_unit-requires-clause-numbered
add_unit-requires-clause-numbered c =
    let o : Object = marked c.args.seen.now c.args.kept.now in
    omega (arith, ap length c.loop-u.invariant.units, below_few c.args.object o c.loop-u.u, units_few 0 (length o.seen.entries) o.seen.units c.requires.sound.units, c.requires.sound.few)

pub add_unit-requires-clause-begun : goal.add_unit-requires-clause-begun
add_unit-requires-clause-begun c = unit_begun 0 c.args.object (marked c.args.seen.now c.args.kept.now) c.loop-u.u c.loop-u.own.images c.loop-u.invariant.images

pub loop-u-preserved : goal.loop-u-preserved
loop-u-preserved c =
    let o : Object = marked c.args.seen.now c.args.kept.now in
    let object = c.args.object in
    let u = c.loop-u.u in
    let number : length c.loop-u.own.units.items ≡ 0 + length (units_below object o u) = omega (arith, ap length c.loop-u.invariant.units) in
    record {
      units = c.in_ok-add_unit.ensures.units ∙ ap (λ (us : List ShapeUnit). us ++ option_to_list (unit_at object o u)) c.loop-u.invariant.units ∙ sym (units_next object o u (omega arith));
      images = subst (HasImages 0 object o (u + 1)) (sym c.in_ok-add_unit.ensures.images) (images_next 0 (length c.loop-u.own.units.items) object o u c.loop-u.own.images c.requires.sound (omega arith) number c.loop-u.invariant.images);
      same = c.in_ok-add_unit.ensures.same;
    }

pub returns : goal.returns
returns c =
    let o : Object = marked c.args.seen.now c.args.kept.now in
    let images = images_all 0 c.args.object o c.loop-u.u c.loop-u.own.images (omega arith) c.loop-u.invariant.images in
    record {
      units = c.loop-u.invariant.units ∙ units_all c.args.object o c.loop-u.u (omega arith);
      plain = c.loop-u.invariant.same ∙ ap (map node_in) images ∙ plain_from_images 0 c.args.object o;
      images = images;
    }
