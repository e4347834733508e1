use Rattle.std.proofs.Common.{drop, sym, ◌==◌, ◌∙◌}
use Rattle.std.specs.List.{zip}
use Rattle.dwarf_types.specs.declared.columns.Cell.{Cell}
use Rattle.dwarf_types.specs.declared.entry.RawAttr.{RawAttr}
use Rattle.dwarf_types.specs.Columns.{raw_attr_of}
use Rattle.dwarf_types.proofs.Ends.{any_open}
use Rattle.dwarf_types.proofs.Heads.{any_map}
use Rattle.dwarf_types.proofs.builder.Builder.has.Goals as goal

pub returns : goal.returns
returns c =
    let cells = c.self.inside.cells.items in
    let ends = c.self.inside.ends.items in
    let from = c.self.inside.open_from in
    let named = any_map (raw_attr_of c.self.inside.sides) (λ (a : RawAttr). a.name == c.args.name) (drop from (zip cells ends)) in
    let beside = any_open (λ (cell : Cell). cell.name == c.args.name) from cells ends c.self.invariant.raw.beside in
    rw (← c.self.view_is, c.has_name.ensures, c.cells_from.ensures, c.deref.ensures.value) (sym (named ∙ beside))
