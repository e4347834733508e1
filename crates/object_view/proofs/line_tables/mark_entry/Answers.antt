use Rattle.std.proofs.Common.{◌≡◌, ◌∙◌, Some, slice_get, subst, sym}
use Rattle.dwarf_types.specs.declared.entry.Entry.{Entry}
use Rattle.dwarf_types.specs.declared.put.NewValue.TheVariants as news
use Rattle.object_view.proofs.InPlace.{some_same}
use Rattle.object_view.proofs.Others.{offset_becomes}
use Rattle.object_view.proofs.line_tables.mark_entry.Goals as goal

pub set-requires-clause-becomes : goal.set-requires-clause-becomes
set-requires-clause-becomes c e a read this =
    let same : e ≡ c.entry.result = some_same _ _ (sym read ∙ c.entry.ensures.stands) in
    let here = subst (λ (x : Entry). slice_get x.attrs c.in-Some.j ≡ Some a) same this in
    offset_becomes a.value news.Lines (c.in-Some.ensures.offset a here)
