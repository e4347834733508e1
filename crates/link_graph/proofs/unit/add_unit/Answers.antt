use Rattle.std.proofs.Common.{◌≡◌, ◌++◌, ℕ, List, eqb, length, false, true, Option, sym, ap, ◌∙◌, append-nil, rules}
use Rattle.std.specs.Option.{option_to_list}
use Rattle.dwarf_types.specs.declared.entry.InUnit.{InUnit}
use Rattle.dwarf_types.specs.declared.shape.ShapeUnit.{ShapeUnit}
use Rattle.dwarf_types.specs.LinkedUnits.{Object}
use Rattle.link_graph.specs.Passes.{entries_of, marked, plain_in_unit}
use Rattle.link_graph.proofs.Nodes.{unit_none, unit_some}
use Rattle.link_graph.proofs.Rows.{images_added, images_read, plain_added}
use Rattle.link_graph.proofs.Units.{unit_read}
use Rattle.link_graph.proofs.unit.add_unit.Goals as goal

pub returns-in_ok-push-clause-units : goal.returns-in_ok-push-clause-units
returns-in_ok-push-clause-units c =
    let o : Object = marked c.args.seen.now c.args.live.now in
    let unit = c.index-as_slice-u.result in
    let is = unit_read o.seen.units c.as_slice-then-not-is_empty.result.now c.args.u unit c.as_slice-then-not-is_empty.ensures c.requires.unit c.index-as_slice-u.is in
    let some : eqb (length c.in_ok-nodes.nodes) 0 ≡ false = sym c.is_empty.ensures ∙ c.if-not-is_empty.true in
    let version = ap (λ (u : InUnit). u.version) (sym c.index-as_slice-u.is) in
    c.in_ok-push.ensures.items ∙ ap (λ (t : Option ShapeUnit). c.args.own.now.units.items ++ option_to_list t) (unit_some o c.args.object c.args.u _ unit c.in_ok-nodes.nodes c.requires.sound is c.in_ok-nodes.ensures.nodes version some)

pub returns-else-not-is_empty-clause-units : goal.returns-else-not-is_empty-clause-units
returns-else-not-is_empty-clause-units c =
    let o : Object = marked c.args.seen.now c.args.live.now in
    let none : eqb (length c.in_ok-nodes.nodes) 0 ≡ true = sym c.is_empty.ensures ∙ c.if-not-is_empty.false in
    sym (append-nil c.args.own.now.units.items) ∙ ap (λ (t : Option ShapeUnit). c.args.own.now.units.items ++ option_to_list t) (unit_none o c.args.object c.args.u c.in_ok-nodes.nodes c.requires.sound c.requires.unit c.in_ok-nodes.ensures.nodes none)

pub returns-in_ok-push-clause-images : goal.returns-in_ok-push-clause-images
returns-in_ok-push-clause-images c =
    let o : Object = marked c.args.seen.now c.args.live.now in
    let es = entries_of o c.args.u in
    let images = c.args.own.now.images in
    let plain = c.in_ok-nodes.ensures.plain ∙ ap (λ (xs : List (Option ℕ)). xs ++ plain_in_unit o c.args.u es) c.requires.same in
    images_added (length c.args.own.now.units.items) o c.args.u es images c.add_images.new.images c.nodes_in.new.plain plain
    (images_read c.len-number.result (length c.args.own.now.units.items) c.len-begun.result images c.add_images.new.images c.as_slice.result.now c.nodes_in.new.plain (search rules) c.len-begun.ensures c.as_slice.ensures c.in_ok-add_images.ensures)

pub returns-in_ok-push-clause-same : goal.returns-in_ok-push-clause-same
returns-in_ok-push-clause-same c =
    let o : Object = marked c.args.seen.now c.args.live.now in
    let es = entries_of o c.args.u in
    let images = c.args.own.now.images in
    let plain = c.in_ok-nodes.ensures.plain ∙ ap (λ (xs : List (Option ℕ)). xs ++ plain_in_unit o c.args.u es) c.requires.same in
    plain_added (length c.args.own.now.units.items) (plain_in_unit o c.args.u es) images c.add_images.new.images c.nodes_in.new.plain plain
    (images_read c.len-number.result (length c.args.own.now.units.items) c.len-begun.result images c.add_images.new.images c.as_slice.result.now c.nodes_in.new.plain (search rules) c.len-begun.ensures c.as_slice.ensures c.in_ok-add_images.ensures)

pub returns-else-not-is_empty-clause-images : goal.returns-else-not-is_empty-clause-images
returns-else-not-is_empty-clause-images c =
    let o : Object = marked c.args.seen.now c.args.live.now in
    let es = entries_of o c.args.u in
    let images = c.args.own.now.images in
    let plain = c.in_ok-nodes.ensures.plain ∙ ap (λ (xs : List (Option ℕ)). xs ++ plain_in_unit o c.args.u es) c.requires.same in
    images_added (length c.args.own.now.units.items) o c.args.u es images c.add_images.new.images c.nodes_in.new.plain plain
    (images_read c.len-number.result (length c.args.own.now.units.items) c.len-begun.result images c.add_images.new.images c.as_slice.result.now c.nodes_in.new.plain (search rules) c.len-begun.ensures c.as_slice.ensures c.in_ok-add_images.ensures)

pub returns-else-not-is_empty-clause-same : goal.returns-else-not-is_empty-clause-same
returns-else-not-is_empty-clause-same c =
    let o : Object = marked c.args.seen.now c.args.live.now in
    let es = entries_of o c.args.u in
    let images = c.args.own.now.images in
    let plain = c.in_ok-nodes.ensures.plain ∙ ap (λ (xs : List (Option ℕ)). xs ++ plain_in_unit o c.args.u es) c.requires.same in
    plain_added (length c.args.own.now.units.items) (plain_in_unit o c.args.u es) images c.add_images.new.images c.nodes_in.new.plain plain
    (images_read c.len-number.result (length c.args.own.now.units.items) c.len-begun.result images c.add_images.new.images c.as_slice.result.now c.nodes_in.new.plain (search rules) c.len-begun.ensures c.as_slice.ensures c.in_ok-add_images.ensures)
