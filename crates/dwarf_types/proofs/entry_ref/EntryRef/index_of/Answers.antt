use Rattle.std.proofs.Common.{sym, ◌==◌, ◌∙◌}
use Rattle.dwarf_types.specs.declared.entry.Attr.{Attr}
use Rattle.dwarf_types.specs.Columns.{attr_of}
use Rattle.dwarf_types.proofs.Heads.{position_map}
use Rattle.dwarf_types.proofs.entry_ref.EntryRef.index_of.Goals as goal

pub returns : goal.returns
returns c = rw (← c.self.view_is) (c.first_named.ensures ∙ sym (position_map (attr_of c.self.inside.sides.now) (λ (a : Attr). a.name == c.args.name) c.self.inside.cells.now))
