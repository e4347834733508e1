use Rattle.std.proofs.Common.{◌≡◌, ◌<◌, Some, length, slice_get, arith}
use Rattle.std.specs.List.{All}
use Rattle.std.specs.Slice.Iter.{iter_rest}
use Rattle.std.proofs.lemmas.Result.{err_from_is_err_and}
use Rattle.ds_base.proofs.Refusals.{refused_from_gives, refused_gives}
use Rattle.dwarf_types.specs.declared.entry.RawEntry.{RawEntry}
use Rattle.unit_tree.specs.Targets.{targets_of}
use Rattle.object_view.specs.Infos.{FitsInfo, info_value}
use Rattle.object_view.proofs.EachOf.{changed_all, changed_none}
use Rattle.object_view.proofs.Fitting.{one_of}
use Rattle.object_view.proofs.InPlace.{raw_turn, get_some, item_more, item_refused, item_was, turned}
use Rattle.object_view.proofs.Leading.{entry_targets, led_all, left_leads, left_more, left_none}
use Rattle.object_view.proofs.info.understand_each.Goals as goal

pub loop-i-init : goal.loop-i-init
loop-i-init g c =
    let left = left_none entry_targets g.places c.args.entries.now c.args.numbers.now (led_all g.places (targets_of c.args.entries.now) c.args.numbers.now c.requires.1.1) in
    (changed_none (turned (raw_turn (info_value c.args.expressions.now g.places))) c.args.entries.now, rw c.iter-left.ensures.rest left)

pub understand_entry-requires : goal.understand_entry-requires
understand_entry-requires g c =
    let long = c.loop-i.invariant.0.long in
    let lt : c.loop-i.i < length c.loop-i.entries = omega (arith, long) in
    let was : (e : RawEntry) → slice_get c.loop-i.entries c.loop-i.i ≡ Some e → slice_get c.args.entries.now c.loop-i.i ≡ Some e =
    item_was (turned (raw_turn (info_value c.args.expressions.now g.places))) c.args.entries.now c.loop-i.entries c.loop-i.i lt c.loop-i.invariant.0 in (
      c.requires.0,
      (
        lt,
        (
          λ e is. one_of (λ (x : RawEntry). All (FitsInfo c.args.expressions.now g.places x.unit) x.attrs) c.args.entries.now c.loop-i.i e c.requires.1.0 (was e is),
          λ e is. left_leads entry_targets g.places c.args.entries.now c.loop-i.i c.args.numbers.now (iter_rest c.loop-i.left) c.loop-i.invariant.1 e (was e is),
        ),
      ),
    )

pub loop-i-preserved : goal.loop-i-preserved
loop-i-preserved g c =
    let long = c.loop-i.invariant.0.long in
    let lt : c.loop-i.i < length c.loop-i.entries = omega (arith, long) in
    let it = get_some c.loop-i.entries c.loop-i.i lt in
    let was = item_was (turned (raw_turn (info_value c.args.expressions.now g.places))) c.args.entries.now c.loop-i.entries c.loop-i.i lt c.loop-i.invariant.0 it.0 it.1 in (
      item_more (turned (raw_turn (info_value c.args.expressions.now g.places))) c.args.entries.now c.loop-i.entries c.loop-i.i lt c.loop-i.invariant.0 c.understand_entry.new.entries c.in_ok-understand_entry.ensures.exact,
      left_more entry_targets g.places c.args.entries.now c.loop-i.i c.args.numbers.now (iter_rest c.loop-i.left) c.loop-i.invariant.1 it.0 was (iter_rest c.understand_entry.new.numbers) (c.in_ok-understand_entry.ensures.taken it.0 it.1),
    )

pub returns : goal.returns
returns g c =
    let long = c.loop-i.invariant.0.long in
    changed_all (turned (raw_turn (info_value c.args.expressions.now g.places))) c.args.entries.now c.loop-i.entries c.loop-i.i (omega (arith, long)) c.loop-i.invariant.0

pub returns-in_err-understand_entry : goal.returns-in_err-understand_entry
returns-in_err-understand_entry g c =
    let p = err_from_is_err_and c.from_residual.result c.from_residual.ensures.1 in
    let long = c.loop-i.invariant.0.long in
    let lt : c.loop-i.i < length c.loop-i.entries = omega (arith, long) in
    let err = c.in_err-understand_entry.field-0.0 in
    let h = item_refused (turned (raw_turn (info_value c.args.expressions.now g.places))) c.args.entries.now c.loop-i.entries c.loop-i.i lt c.loop-i.invariant.0 err (λ x r. refused_from_gives (λ (_ : Unit {0}). c.understand_entry.new.entries) _ _ (c.in_err-understand_entry.ensures.exact x r)) in
    rw (p.1, p.2) (search (refused_gives, h))
