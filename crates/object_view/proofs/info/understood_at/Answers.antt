use Rattle.std.proofs.Common.{◌≡◌, ◌∙◌, ℕ, List, Some, ap, slice_get, subst, sym}
use Rattle.std.specs.Slice.Iter.{iter_rest}
use Rattle.dwarf_types.specs.declared.entry.RawEntry.{RawEntry}
use Rattle.object_view.specs.Numbers.{behind}
use Rattle.object_view.specs.Ready.{info_seen}
use Rattle.object_view.proofs.InPlace.{some_same}
use Rattle.object_view.proofs.Others.{plain_alone, plain_meant}
use Rattle.object_view.proofs.info.understood_at.Goals as goal

pub returns-then-is_plain-clause-exact : goal.returns-then-is_plain-clause-exact
returns-then-is_plain-clause-exact g c e a read this =
    let same : e ≡ c.entry-entry.result = some_same _ _ (sym read ∙ c.entry-entry.ensures.stands) in
    let here = subst (λ (x : RawEntry). slice_get x.attrs c.args.j ≡ Some a) same this in
    plain_meant (info_seen c.args.expressions.now e.unit) g.places a a.value (sym (c.is_plain.ensures a here) ∙ c.if-is_plain.true)

pub returns-then-is_plain-clause-taken : goal.returns-then-is_plain-clause-taken
returns-then-is_plain-clause-taken g c e a read this =
    let same : e ≡ c.entry-entry.result = some_same _ _ (sym read ∙ c.entry-entry.ensures.stands) in
    let here = subst (λ (x : RawEntry). slice_get x.attrs c.args.j ≡ Some a) same this in
    ap (λ (targets : List ℕ). behind targets (iter_rest c.args.numbers.now)) (sym (plain_alone a.value (sym (c.is_plain.ensures a here) ∙ c.if-is_plain.true)))
