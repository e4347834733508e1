use Rattle.std.proofs.Common.{◌≡◌, ◌+◌, ◌++◌, ◌∷◌, ◌∙◌, [], ℕ, List, length, refl, ap, sym, arith, rules, append_assoc, length-append}
use Rattle.type_names.specs.Names.{Named}
use Rattle.link_graph.specs.declared.object.ObjectShape.{ObjectShape}
use Rattle.link_graph.specs.declared.placing.Place.{Place}
use Rattle.link_graph.specs.Graph.{pool_version}
use Rattle.link_graph.specs.Joining.{MayPlace}
use Rattle.link_graph.specs.Merged.{object_units, pool_units}
use Rattle.link_graph.proofs.Joined.{pool_count_few, pools_counted, part_at, part_few, part_may, shape_whole, shaped_begin, shaped_more, units_by, units_long}
use Rattle.link_graph.proofs.Pairs.{no_pairs, pairs_more}
use Rattle.link_graph.proofs.joining.gathered.Goals as goal

pub loop-one-init : goal.loop-one-init
loop-one-init c =
    record {
      whole = search rules;
      number = refl;
      rows = ap length c.in_ok-images.ensures;
      wide = ap length c.in_ok-places.ensures.items;
      few = omega (arith, ap length c.requires.pool, pools_counted 4 c.args.names.now, pool_count_few c.args.names.now);
      may = rw c.in_ok-places.ensures.items (no_pairs (λ _ place row. MayPlace c.args.names.now place row) c.in_ok-images.images);
      shaped = λ odr seen live are. rw (c.in_ok-plain.ensures, c.in_ok-images.ensures, c.in_ok-places.ensures.items) (shaped_begin odr seen live c.args.names.now c.args.pool.items are.named c.requires.pool);
    }

pub returns-in_err-before-clause-units : goal.returns-in_err-before-clause-units
returns-in_err-before-clause-units c = λ e odr seen live are.
    let names = c.args.names.now in
    let i = c.loop-one.object in
    let one = c.in-Some.one in
    let yielded = c.loop-one.yielded in
    let rest = c.next.new.self.rest.items in
    let whole : yielded ++ one ∷ rest ≡ c.args.own.items = ap (λ (xs : List ObjectShape). yielded ++ xs) (sym c.in-Some.ensures.steps.0) ∙ c.loop-one.invariant.whole in
    let part = part_at odr seen live names c.args.own.items yielded rest i one are whole c.loop-one.invariant.number in
    let before : c.len-in-loop-one.result ≡ length c.loop-one.units.items = search rules in
    let own : c.len-in-loop-one-2.result ≡ length one.units.items = search rules in
    omega (arith, c.in_err-before.ensures.full.0 refl, before, own, units_long odr seen live names i one are.named part c.loop-one.units.items c.loop-one.plain c.loop-one.images c.loop-one.places.items (c.loop-one.invariant.shaped odr seen live are))

pub overflow_add-object : goal.overflow_add-object
overflow_add-object c =
    let names = c.args.names.now in
    let i = c.loop-one.object in
    let one = c.in-Some.one in
    let yielded = c.loop-one.yielded in
    let rest = c.next.new.self.rest.items in
    let whole : yielded ++ one ∷ rest ≡ c.args.own.items = ap (λ (xs : List ObjectShape). yielded ++ xs) (sym c.in-Some.ensures.steps.0) ∙ c.loop-one.invariant.whole in
    let odr = c.requires.own.0 in
    let seen = c.requires.own.1 in
    let live = c.requires.own.2 in
    let are = c.requires.own.3 in
    omega (arith, part_few odr seen live names c.args.own.items yielded rest i one are whole c.loop-one.invariant.number)

pub loop-one-preserved : goal.loop-one-preserved
loop-one-preserved c =
    let names = c.args.names.now in
    let i = c.loop-one.object in
    let one = c.in-Some.one in
    let yielded = c.loop-one.yielded in
    let rest = c.next.new.self.rest.items in
    let whole : yielded ++ one ∷ rest ≡ c.args.own.items = ap (λ (xs : List ObjectShape). yielded ++ xs) (sym c.in-Some.ensures.steps.0) ∙ c.loop-one.invariant.whole in
    let odr = c.requires.own.0 in
    let seen = c.requires.own.1 in
    let live = c.requires.own.2 in
    let are = c.requires.own.3 in
    let from = c.first_of-from in
    let end = c.first_of-end in
    let units = c.loop-one.units.items in
    let images = c.loop-one.images in
    let places = c.loop-one.places.items in
    let place : Place = record { before = c.in_ok-before.before; from = from.result; end = end.result } in
    let before : c.len-in-loop-one.result ≡ length units = search rules in
    let its : c.len-in-loop-one-2.result ≡ length one.units.items = search rules in
    let number : place.before ≡ length units = c.in_ok-before.ensures.number.0 ∙ before in
    let may = part_may odr seen live names i one are.named (part_at odr seen live names c.args.own.items yielded rest i one are whole c.loop-one.invariant.number) place (length units) from.ensures end.ensures number (omega (arith, c.in_ok-before.ensures.number.1, before, its)) in
    record {
      whole = append_assoc yielded (one ∷ []) rest ∙ whole;
      number = omega (arith, c.loop-one.invariant.number, length-append yielded (one ∷ []));
      rows = ap length c.in_ok-push-3.ensures.ok ∙ length-append images (one.images ∷ []) ∙ ap (λ (n : ℕ). n + 1) c.loop-one.invariant.rows;
      wide = ap length c.in_ok-push.ensures.items ∙ length-append places (place ∷ []) ∙ ap (λ (n : ℕ). n + 1) c.loop-one.invariant.wide;
      few = omega (arith, ap length c.in_ok-append.ensures.items, length-append units one.units.items, c.in_ok-before.ensures.number.1, before, its);
      may = rw (c.in_ok-push.ensures.items, c.in_ok-push-3.ensures.ok) (pairs_more (λ _ place row. MayPlace names place row) places images i place one.images c.loop-one.invariant.wide c.loop-one.invariant.rows c.loop-one.invariant.may may);
      shaped = λ odr seen live are.
          rw (c.in_ok-push.ensures.items, c.in_ok-push-2.ensures.ok, c.in_ok-push-3.ensures.ok)
          (shaped_more odr seen live names i one are.named (part_at odr seen live names c.args.own.items yielded rest i one are whole c.loop-one.invariant.number) place units c.append.new.self.items c.loop-one.plain images places
          from.ensures end.ensures number c.loop-one.invariant.rows c.loop-one.invariant.wide c.in_ok-append.ensures.items (c.loop-one.invariant.shaped odr seen live are));
    }

pub settle_version-requires : goal.settle_version-requires
settle_version-requires c =
    let odr = c.requires.own.0 in
    let seen = c.requires.own.1 in
    let live = c.requires.own.2 in
    let are = c.requires.own.3 in
    let none : length c.loop-one.one-iterator.rest.items ≡ 0 = search rules in
    let all : length seen ≡ c.loop-one.object = omega (arith, none, are.len, c.loop-one.invariant.number, ap length c.loop-one.invariant.whole, length-append c.loop-one.yielded c.loop-one.one-iterator.rest.items) in (
      object_units odr seen live,
      c.from_vec-units.ensures
          ∙ units_by odr seen live c.args.names.now c.loop-one.object c.loop-one.units.items c.loop-one.plain c.loop-one.images c.loop-one.places.items are.named are.marked.each (omega (arith, all)) (c.loop-one.invariant.shaped odr seen live are),
    )

pub returns-clause-places : goal.returns-clause-places
returns-clause-places c = record { len = c.loop-one.invariant.wide ∙ sym c.loop-one.invariant.rows; each = c.loop-one.invariant.may }

pub returns-clause-few : goal.returns-clause-few
returns-clause-few c =
    let odr = c.requires.own.0 in
    let seen = c.requires.own.1 in
    let live = c.requires.own.2 in
    let are = c.requires.own.3 in
    let names = c.args.names.now in
    let own = object_units odr seen live in
    let none : length c.loop-one.one-iterator.rest.items ≡ 0 = search rules in
    let all : length seen ≡ c.loop-one.object = omega (arith, none, are.len, c.loop-one.invariant.number, ap length c.loop-one.invariant.whole, length-append c.loop-one.yielded c.loop-one.one-iterator.rest.items) in
    let before = units_by odr seen live names c.loop-one.object c.loop-one.units.items c.loop-one.plain c.loop-one.images c.loop-one.places.items are.named are.marked.each (omega (arith, all)) (c.loop-one.invariant.shaped odr seen live are) in
    let settled = c.settle_version.ensures own (c.from_vec-units.ensures ∙ before) in
    omega (
      arith,
      c.loop-one.invariant.few,
      ap length before,
      ap length settled,
      length-append (pool_units 4 names) own,
      length-append (pool_units (pool_version own) names) own,
      pools_counted 4 names,
      pools_counted (pool_version own) names,
    )

pub returns-clause-exact : goal.returns-clause-exact
returns-clause-exact c = λ odr seen live are. (
    let none : length c.loop-one.one-iterator.rest.items ≡ 0 = search rules in
    let all : length seen ≡ c.loop-one.object = omega (arith, none, are.len, c.loop-one.invariant.number, ap length c.loop-one.invariant.whole, length-append c.loop-one.yielded c.loop-one.one-iterator.rest.items) in
    let so_far = c.loop-one.invariant.shaped odr seen live are in
    let before = c.from_vec-units.ensures
    ∙ units_by odr seen live c.args.names.now c.loop-one.object c.loop-one.units.items c.loop-one.plain c.loop-one.images c.loop-one.places.items are.named are.marked.each (omega (arith, all)) so_far in
    let settled = c.settle_version.ensures (object_units odr seen live) before ∙ ap (λ (names : List Named). pool_units (pool_version (object_units odr seen live)) names ++ object_units odr seen live) are.named in
    shape_whole odr seen live c.args.names.now c.loop-one.object c.loop-one.units.items c.settle_version.new.units c.loop-one.plain c.loop-one.images c.loop-one.places.items
    are.marked.each all c.loop-one.invariant.rows c.loop-one.invariant.wide settled so_far)
