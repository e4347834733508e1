use Rattle.std.proofs.Common.{◌≡◌, ◌∙◌, List, ap, set, sym}
use Rattle.dwarf_types.specs.declared.entry.RawAttr.{RawAttr}
use Rattle.dwarf_types.specs.declared.entry.RawEntry.{RawEntry}
use Rattle.object_view.proofs.InPlace.{set_same}
use Rattle.object_view.proofs.info.put.Goals as goal

abbrev with_attrs : RawEntry → List RawAttr → RawEntry
with_attrs e attrs = record e { attrs = attrs }

pub returns-in-Same : goal.returns-in-Same
returns-in-Same c e a read this =
    let attrs : set e.attrs c.args.j a ≡ e.attrs = set_same e.attrs c.args.j a this in
    rw c.in-Same.is (sym (ap (λ (xs : List RawAttr). set c.args.entries.now c.args.i (with_attrs e xs)) attrs ∙ set_same c.args.entries.now c.args.i e read))
