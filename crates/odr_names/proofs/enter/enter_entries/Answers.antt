use Rattle.std.proofs.Common.{arith, length}
use Rattle.type_names.specs.Heads.{Object, entries_of, is_pooled}
use Rattle.type_names.specs.Objects.{object_of}
use Rattle.odr_names.proofs.Counting.{entry_at}
use Rattle.odr_names.proofs.EnteringRows.{all_entered, begun, bounded_above, entering, number_small}
use Rattle.odr_names.proofs.enter.enter_entries.Goals as goal

pub loop-i-init : goal.loop-i-init
loop-i-init c = rw c.in_ok-numbers.ensures (begun c.args.object (object_of c.args.seen.now c.args.live.now) c.args.rows.now.items)

pub enter_entry-requires-clause-numbers : goal.enter_entry-requires-clause-numbers
enter_entry-requires-clause-numbers c = bounded_above (object_of c.args.seen.now c.args.live.now) c.loop-i.numbers (length c.loop-i.rows.items) c.loop-i.i c.loop-i.invariant.bounded

pub push-requires : goal.push-requires
push-requires c =
    let o : Object = object_of c.args.seen.now c.args.live.now in
    let e = entry_at (entries_of o) c.loop-i.i (omega arith) in
    number_small (is_pooled o c.loop-i.i) _ c.loop-i.rows.items c.enter_entry.new.rows.items c.in_ok-number.number (omega (arith, c.loop-i.invariant.few, c.requires.rows)) (c.in_ok-number.ensures e.0 e.1)

pub loop-i-preserved : goal.loop-i-preserved
loop-i-preserved c =
    let o : Object = object_of c.args.seen.now c.args.live.now in
    let e = entry_at (entries_of o) c.loop-i.i (omega arith) in
    rw c.in_ok-push.ensures (entering c.args.object o c.args.rows.now.items c.loop-i.rows.items c.enter_entry.new.rows.items c.loop-i.numbers c.loop-i.i e.0 c.in_ok-number.number c.requires.parents c.requires.live_parents c.requires.counted.0 c.requires.counted.1 (omega (arith, c.requires.few)) e.1
    (c.in_ok-number.ensures e.0 e.1) c.loop-i.invariant.len c.loop-i.invariant)

pub returns-clause-all : goal.returns-clause-all
returns-clause-all c = λ objects its sound. all_entered c.args.object (object_of c.args.seen.now c.args.live.now) c.args.rows.now.items c.loop-i.rows.items c.loop-i.numbers c.loop-i.i objects (omega arith) its sound c.loop-i.invariant

pub returns-clause-few : goal.returns-clause-few
returns-clause-few c = omega (arith, c.loop-i.invariant.few, c.requires.rows)
