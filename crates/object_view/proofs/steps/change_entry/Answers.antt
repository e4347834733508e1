use Rattle.std.proofs.Common.{◌≡◌, ◌<◌, ◌≤◌, false, length, arith, sym, subst, ◌∙◌}
use Rattle.std.specs.List.{list_any}
use Rattle.std.proofs.lemmas.Result.{err_from_is_err_and}
use Rattle.ds_base.proofs.Refusals.{refused_from_gives, refused_gives}
use Rattle.dwarf_types.specs.declared.entry.Attr.{Attr}
use Rattle.dwarf_types.specs.declared.entry.Entry.{Entry}
use Rattle.dwarf_types.specs.Plain.{is_offset}
use Rattle.object_view.proofs.Fitting.{one_of}
use Rattle.object_view.proofs.InPlace.{entry_turn, part_all, part_here, part_more, part_none, part_refused, part_stands, part_was, some_same}
use Rattle.object_view.proofs.Others.{entry_stays}
use Rattle.object_view.proofs.steps.change_entry.Goals as goal

pub loop-j-init : goal.loop-j-init
loop-j-init g c e read = part_none (entry_turn (g.S.Step.meant c.args.step.now)) c.args.entries.now c.args.i e read

pub returns-then-not-has_offset : goal.returns-then-not-has_offset
returns-then-not-has_offset g c e read =
    let same : c.entry-entry.result ≡ e = some_same _ _ (sym c.entry-entry.ensures.stands ∙ read) in
    let none = subst (λ (x : Entry). list_any (λ (a : Attr). is_offset a.value) x.attrs ≡ false) same (sym c.has_offset.ensures ∙ c.if-not-has_offset.true) in
    entry_stays (g.S.Step.meant c.args.step.now e.unit) (c.requires.others e.unit) c.args.entries.now c.args.i e read none

pub change_attr-requires-clause-within : goal.change_attr-requires-clause-within
change_attr-requires-clause-within g c =
    let read = c.entry-entry.ensures.stands in
    part_stands (entry_turn (g.S.Step.meant c.args.step.now)) c.args.entries.now c.loop-j.entries c.args.i c.loop-j.j c.entry-entry.result read (omega arith) (c.loop-j.invariant c.entry-entry.result read)

pub change_attr-requires-clause-fits : goal.change_attr-requires-clause-fits
change_attr-requires-clause-fits g c e a there is =
    let read = c.entry-entry.ensures.stands in
    let was = part_was (entry_turn (g.S.Step.meant c.args.step.now)) c.args.entries.now c.loop-j.entries c.args.i c.loop-j.j c.entry-entry.result read (omega arith) (c.loop-j.invariant c.entry-entry.result read) e a there is in
    let same = part_here (entry_turn (g.S.Step.meant c.args.step.now)) c.args.entries.now c.loop-j.entries c.args.i c.loop-j.j c.entry-entry.result read (omega arith) (c.loop-j.invariant c.entry-entry.result read) e there in
    subst (λ (x : Entry). g.S.Step.fits c.args.step.now x.unit a) same (one_of (g.S.Step.fits c.args.step.now c.entry-entry.result.unit) c.entry-entry.result.attrs c.loop-j.j a (c.requires.fits c.entry-entry.result read) was)

pub loop-j-preserved : goal.loop-j-preserved
loop-j-preserved g c e read =
    let same : c.entry-entry.result ≡ e = some_same _ _ (sym c.entry-entry.ensures.stands ∙ read) in
    let lt : c.loop-j.j < length e.attrs = subst (λ (x : Entry). c.loop-j.j < length x.attrs) same (omega arith) in
    part_more (entry_turn (g.S.Step.meant c.args.step.now)) c.args.entries.now c.loop-j.entries c.args.i c.loop-j.j e read lt (c.loop-j.invariant e read) c.change_attr.new.entries c.in_ok-change_attr.ensures

pub returns : goal.returns
returns g c e read =
    let same : c.entry-entry.result ≡ e = some_same _ _ (sym c.entry-entry.ensures.stands ∙ read) in
    let le : length e.attrs ≤ c.loop-j.j = subst (λ (x : Entry). length x.attrs ≤ c.loop-j.j) same (omega arith) in
    part_all (entry_turn (g.S.Step.meant c.args.step.now)) c.args.entries.now c.loop-j.entries c.args.i c.loop-j.j e le (c.loop-j.invariant e read)

pub returns-in_err-change_attr : goal.returns-in_err-change_attr
returns-in_err-change_attr g c e read =
    let p = err_from_is_err_and c.from_residual.result c.from_residual.ensures.1 in
    let same : c.entry-entry.result ≡ e = some_same _ _ (sym c.entry-entry.ensures.stands ∙ read) in
    let lt : c.loop-j.j < length e.attrs = subst (λ (x : Entry). c.loop-j.j < length x.attrs) same (omega arith) in
    let err = c.in_err-change_attr.field-0.0 in
    let h = part_refused (entry_turn (g.S.Step.meant c.args.step.now)) c.args.entries.now c.loop-j.entries c.args.i c.loop-j.j e read lt (c.loop-j.invariant e read) err (λ x a r t. refused_from_gives (λ (_ : Unit {0}). c.change_attr.new.entries) _ _ (c.in_err-change_attr.ensures x a r t)) in
    rw (p.1, p.2) (search (refused_gives, h))
