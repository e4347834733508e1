use Rattle.std.proofs.Common.{◌≡◌, ◌+◌, drop, length}
use Rattle.ds_base.specs.Spot.{IsSmall}
use Rattle.dwarf_types.specs.SectionBytes.{bytes_in}
use Rattle.unit_tree.specs.Attribute.{attrs_at}
use Rattle.unit_tree.proofs.attribute.read_attrs.Given as goal

abbrev pub invariant-loop-field : goal.invariant-loop-field
invariant-loop-field l =
    IsSmall l.cursor
    × (l.built.entries ≡ l.fn.built.entries)
    × (attrs_at (bytes_in l.sections) l.context l.root (drop l.field-index l.fields) (l.built.attrs, l.references) l.cursor ≡ attrs_at (bytes_in l.sections) l.context l.root l.fields (l.fn.built.attrs, l.fn.references) l.fn.cursor)
    × (length l.built.attrs ≡ length l.fn.built.attrs + l.field-index)
