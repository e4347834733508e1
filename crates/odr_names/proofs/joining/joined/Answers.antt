use Rattle.std.proofs.Common.{◌≡◌, ◌∙◌, List, length, sym, subst, rules}
use Rattle.odr_names.specs.Numbered.{objects_of}
use Rattle.odr_names.specs.Joining.{AreAllNames, AreJoinedTo}
use Rattle.odr_names.specs.declared.path_book.Objects.{Objects}
use Rattle.type_names.specs.Heads.{Object}
use Rattle.odr_names.proofs.JoinedRows.{all_taken, goes_on, joined_next, joined_told}
use Rattle.odr_names.proofs.MakingBooks.{length_objects}
use Rattle.odr_names.proofs.joining.joined.Goals as goal

pub loop-one-preserved : goal.loop-one-preserved
loop-one-preserved c =
    let objects : List Object = objects_of c.args.seen.now c.args.live.now in
    let all = c.into_iter-one-iterator.result.rest.items in
    let are : AreAllNames objects all = subst (AreAllNames objects) (sym c.into_iter-one-iterator.ensures.into_iter_gives.0) c.requires.own in
    let front = c.loop-one.yielded in
    let left = c.loop-one.one-iterator.rest.items in
    let rest = c.next.new.self.rest.items in (
      goes_on all front left rest c.in-Some.one c.loop-one.invariant.0 c.in-Some.ensures.steps.0,
      joined_next objects all front left rest c.in-Some.one c.loop-one.invariant.0 c.in-Some.ensures.steps.0 are c.loop-one.names.items c.push.new.self.items c.loop-one.rows.items c.deref.result.now c.extend_from_slice.new.self.items
          c.deref.ensures.value c.in_ok-push.ensures.items c.in_ok-extend_from_slice.ensures.items c.loop-one.invariant.1,
    )

pub returns-clause-told : goal.returns-clause-told
returns-clause-told c =
    let objects : List Object = objects_of c.args.seen.now c.args.live.now in
    let all = c.into_iter-one-iterator.result.rest.items in
    let same : all ≡ c.args.own.items = c.into_iter-one-iterator.ensures.into_iter_gives.0 in
    let are : AreAllNames objects all = subst (AreAllNames objects) (sym same) c.requires.own in
    let none : length c.loop-one.one-iterator.rest.items ≡ 0 = search rules in
    let whole : length c.loop-one.yielded ≡ length c.args.seen.now =
    all_taken all c.loop-one.yielded c.loop-one.one-iterator.rest.items c.loop-one.invariant.0 none ∙ are.len ∙ length_objects c.args.seen.now c.args.live.now c.requires.live in
    let os : Objects = record { seen = c.args.seen; live = c.args.live; names = c.loop-one.names } in
    let told = joined_told os c.loop-one.rows.items c.requires.live (subst (AreJoinedTo objects c.loop-one.names.items c.loop-one.rows.items) whole c.loop-one.invariant.1) in
    (told, search rules, search rules)
