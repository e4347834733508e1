use Rattle.std.proofs.Common.{◌<◌, length, arith}
use Rattle.std.specs.List.{All}
use Rattle.std.proofs.lemmas.Result.{err_from_is_err_and}
use Rattle.ds_base.proofs.Refusals.{refused_from_gives, refused_gives}
use Rattle.dwarf_types.specs.declared.entry.Entry.{Entry}
use Rattle.object_view.proofs.EachOf.{changed_all, changed_none}
use Rattle.object_view.proofs.Fitting.{one_of}
use Rattle.object_view.proofs.InPlace.{entry_turn, item_more, item_refused, item_was, turned}
use Rattle.object_view.proofs.steps.change_each.Goals as goal

pub loop-i-init : goal.loop-i-init
loop-i-init g c = changed_none (turned (entry_turn (g.S.Step.meant c.args.step.now))) c.args.entries.now

pub change_entry-requires-clause-within : goal.change_entry-requires-clause-within
change_entry-requires-clause-within g c = let long = c.loop-i.invariant.long in omega (arith, long)

pub change_entry-requires-clause-fits : goal.change_entry-requires-clause-fits
change_entry-requires-clause-fits g c e is =
    let long = c.loop-i.invariant.long in
    let lt : c.loop-i.i < length c.loop-i.entries = omega (arith, long) in
    let was = item_was (turned (entry_turn (g.S.Step.meant c.args.step.now))) c.args.entries.now c.loop-i.entries c.loop-i.i lt c.loop-i.invariant e is in
    one_of (λ (x : Entry). All (g.S.Step.fits c.args.step.now x.unit) x.attrs) c.args.entries.now c.loop-i.i e c.requires.fits was

pub loop-i-preserved : goal.loop-i-preserved
loop-i-preserved g c =
    let long = c.loop-i.invariant.long in
    let lt : c.loop-i.i < length c.loop-i.entries = omega (arith, long) in
    item_more (turned (entry_turn (g.S.Step.meant c.args.step.now))) c.args.entries.now c.loop-i.entries c.loop-i.i lt c.loop-i.invariant c.change_entry.new.entries c.in_ok-change_entry.ensures

pub returns : goal.returns
returns g c =
    let long = c.loop-i.invariant.long in
    changed_all (turned (entry_turn (g.S.Step.meant c.args.step.now))) c.args.entries.now c.loop-i.entries c.loop-i.i (omega (arith, long)) c.loop-i.invariant

pub returns-in_err-change_entry : goal.returns-in_err-change_entry
returns-in_err-change_entry g c =
    let p = err_from_is_err_and c.from_residual.result c.from_residual.ensures.1 in
    let long = c.loop-i.invariant.long in
    let lt : c.loop-i.i < length c.loop-i.entries = omega (arith, long) in
    let err = c.in_err-change_entry.field-0.0 in
    let h = item_refused (turned (entry_turn (g.S.Step.meant c.args.step.now))) c.args.entries.now c.loop-i.entries c.loop-i.i lt c.loop-i.invariant err (λ x r. refused_from_gives (λ (_ : Unit {0}). c.change_entry.new.entries) _ _ (c.in_err-change_entry.ensures x r)) in
    rw (p.1, p.2) (search (refused_gives, h))
