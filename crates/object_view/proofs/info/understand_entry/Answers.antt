use Rattle.std.proofs.Common.{◌≡◌, ◌<◌, ◌≤◌, Some, length, slice_get, arith, sym, subst, ◌∙◌}
use Rattle.std.specs.Slice.Iter.{iter_rest}
use Rattle.std.proofs.lemmas.Result.{err_from_is_err_and}
use Rattle.ds_base.proofs.Refusals.{refused_from_gives, refused_gives}
use Rattle.dwarf_types.specs.declared.entry.RawAttr.{RawAttr}
use Rattle.dwarf_types.specs.declared.entry.RawEntry.{RawEntry}
use Rattle.object_view.specs.Infos.{FitsInfo, info_value}
use Rattle.object_view.proofs.Fitting.{one_of}
use Rattle.object_view.proofs.InPlace.{raw_turn, get_some, part_all, part_here, part_more, part_none, part_refused, part_stands, part_was, some_same}
use Rattle.object_view.proofs.Leading.{attr_targets, left_all, left_leads, left_more, left_none}
use Rattle.object_view.proofs.info.understand_entry.Goals as goal

pub loop-j-init : goal.loop-j-init
loop-j-init g c e read = (part_none (raw_turn (info_value c.args.expressions.now g.places)) c.args.entries.now c.args.i e read, left_none attr_targets g.places e.attrs (iter_rest c.args.numbers.now) (c.requires.1.1.1 e read))

pub understand_attr-requires : goal.understand_attr-requires
understand_attr-requires g c =
    let e = c.entry.result in
    let read = c.entry.ensures.stands in
    let walk = raw_turn (info_value c.args.expressions.now g.places) in
    let so_far = c.loop-j.invariant e read in
    let was : (x : RawEntry) (a : RawAttr) → slice_get c.loop-j.entries c.args.i ≡ Some x → slice_get x.attrs c.loop-j.j ≡ Some a → slice_get e.attrs c.loop-j.j ≡ Some a =
    part_was walk c.args.entries.now c.loop-j.entries c.args.i c.loop-j.j e read (omega arith) so_far.0 in
    let fits : (x : RawEntry) (a : RawAttr) → slice_get c.loop-j.entries c.args.i ≡ Some x → slice_get x.attrs c.loop-j.j ≡ Some a → FitsInfo c.args.expressions.now g.places x.unit a = λ x a there is.
    let same = part_here walk c.args.entries.now c.loop-j.entries c.args.i c.loop-j.j e read (omega arith) so_far.0 x there in
    subst (λ (y : RawEntry). FitsInfo c.args.expressions.now g.places y.unit a) same (one_of (FitsInfo c.args.expressions.now g.places e.unit) e.attrs c.loop-j.j a (c.requires.1.1.0 e read) (was x a there is)) in (
      c.requires.0,
      (
        part_stands walk c.args.entries.now c.loop-j.entries c.args.i c.loop-j.j e read (omega arith) so_far.0,
        (fits, λ x a there is. left_leads attr_targets g.places e.attrs c.loop-j.j (iter_rest c.args.numbers.now) (iter_rest c.loop-j.numbers) so_far.1 a (was x a there is)),
      ),
    )

pub loop-j-preserved : goal.loop-j-preserved
loop-j-preserved g c e read =
    let same : c.entry.result ≡ e = some_same _ _ (sym c.entry.ensures.stands ∙ read) in
    let lt : c.loop-j.j < length e.attrs = subst (λ (x : RawEntry). c.loop-j.j < length x.attrs) same (omega arith) in
    let walk = raw_turn (info_value c.args.expressions.now g.places) in
    let so_far = c.loop-j.invariant e read in
    let there = part_stands walk c.args.entries.now c.loop-j.entries c.args.i c.loop-j.j e read lt so_far.0 in
    let it = get_some there.0.attrs c.loop-j.j there.2 in
    let was = part_was walk c.args.entries.now c.loop-j.entries c.args.i c.loop-j.j e read lt so_far.0 there.0 it.0 there.1 it.1 in (
      part_more walk c.args.entries.now c.loop-j.entries c.args.i c.loop-j.j e read lt so_far.0 c.understand_attr.new.entries c.in_ok-understand_attr.ensures.exact,
      left_more attr_targets g.places e.attrs c.loop-j.j (iter_rest c.args.numbers.now) (iter_rest c.loop-j.numbers) so_far.1 it.0 was (iter_rest c.understand_attr.new.numbers) (c.in_ok-understand_attr.ensures.taken there.0 it.0 there.1 it.1),
    )

pub returns-clause-exact : goal.returns-clause-exact
returns-clause-exact g c e read =
    let same : c.entry.result ≡ e = some_same _ _ (sym c.entry.ensures.stands ∙ read) in
    let le : length e.attrs ≤ c.loop-j.j = subst (λ (x : RawEntry). length x.attrs ≤ c.loop-j.j) same (omega arith) in
    part_all (raw_turn (info_value c.args.expressions.now g.places)) c.args.entries.now c.loop-j.entries c.args.i c.loop-j.j e le (c.loop-j.invariant e read).0

pub returns-clause-taken : goal.returns-clause-taken
returns-clause-taken g c e read =
    let same : c.entry.result ≡ e = some_same _ _ (sym c.entry.ensures.stands ∙ read) in
    let le : length e.attrs ≤ c.loop-j.j = subst (λ (x : RawEntry). length x.attrs ≤ c.loop-j.j) same (omega arith) in
    left_all attr_targets g.places e.attrs c.loop-j.j (iter_rest c.args.numbers.now) (iter_rest c.loop-j.numbers) (c.loop-j.invariant e read).1 le

pub returns-in_err-understand_attr-clause-exact : goal.returns-in_err-understand_attr-clause-exact
returns-in_err-understand_attr-clause-exact g c e read =
    let p = err_from_is_err_and c.from_residual.result c.from_residual.ensures.1 in
    let same : c.entry.result ≡ e = some_same _ _ (sym c.entry.ensures.stands ∙ read) in
    let lt : c.loop-j.j < length e.attrs = subst (λ (x : RawEntry). c.loop-j.j < length x.attrs) same (omega arith) in
    let err = c.in_err-understand_attr.field-0.0 in
    let h = part_refused (raw_turn (info_value c.args.expressions.now g.places)) c.args.entries.now c.loop-j.entries c.args.i c.loop-j.j e read lt (c.loop-j.invariant e read).0 err (λ x a r t. refused_from_gives (λ (_ : Unit {0}). c.understand_attr.new.entries) _ _ (c.in_err-understand_attr.ensures.exact x a r t)) in
    rw (p.1, p.2) (search (refused_gives, h))
