use Rattle.std.proofs.Common.{◌≡◌, ◌<◌, ap, arith, get_or, length}
use Rattle.std.proofs.lemmas.List.{length-map}
use Rattle.dwarf_types.specs.declared.columns.Head.{Head}
use Rattle.dwarf_types.specs.Columns.{cell_count}
use Rattle.dwarf_types.proofs.Ends.{first_counted}
use Rattle.dwarf_types.proofs.entries.Entries.attrs_before.Goals as goal

pub returns : goal.returns
returns c =
    let heads = c.self.inside.heads.items in
    let lt : c.args.i < length c.self.inside.heads.items = rw (← c.self.view_is, length-map) at c.requires in
    let before = first_counted c.self.inside.sides c.self.inside.cells.items 0 heads (cell_count heads) c.args.i c.index.result.now c.self.invariant.flat.follow c.self.invariant.flat.few lt in
    let first : c.index.result.now.first ≡ (get_or heads c.args.i c.index.result.now).first = ap (λ (h : Head). h.first) c.index.ensures in
    rw (← c.self.view_is) (omega (arith, before, first))
