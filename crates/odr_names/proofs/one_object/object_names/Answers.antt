use Rattle.std.proofs.Common.{◌∙◌, sym, ap, arith, length, subst, []}
use Rattle.odr_names.specs.Entering.{AreEntered}
use Rattle.odr_names.proofs.EnteringRows.{none_entered}
use Rattle.odr_names.proofs.MakingBooks.{object_fit}
use Rattle.type_names.specs.Heads.{Object}
use Rattle.type_names.specs.Objects.{object_of}
use Rattle.odr_names.proofs.one_object.object_names.Goals as goal

pub returns-then-count-eq0 : goal.returns-then-count-eq0
returns-then-count-eq0 c =
    let n = c.args.object in
    let o : Object = object_of c.args.seen.now c.args.live.now in
    record {
      told = c.in_ok-names.ensures;
      few = omega (arith, ap length c.new.ensures.items);
      entered = λ objects at. subst (AreEntered objects n o []) (sym c.new.ensures.items)
          (none_entered n o objects (λ k within. sym (c.in_ok-names.ensures.pooled.each k within) ∙ c.count_marked-count.ensures.none c.if-count-eq0.true k (omega (arith, c.len.ensures, within))));
    }

pub twins_of-requires-clause-parents : goal.twins_of-requires-clause-parents
twins_of-requires-clause-parents c = (object_fit c.args.seen.now c.args.live.now c.requires.sound c.requires.live).parents

pub enter_entries-requires-clause-parents : goal.enter_entries-requires-clause-parents
enter_entries-requires-clause-parents c = (object_fit c.args.seen.now c.args.live.now c.requires.sound c.requires.live).parents

pub enter_entries-requires-clause-live_parents : goal.enter_entries-requires-clause-live_parents
enter_entries-requires-clause-live_parents c = (object_fit c.args.seen.now c.args.live.now c.requires.sound c.requires.live).live_parents
