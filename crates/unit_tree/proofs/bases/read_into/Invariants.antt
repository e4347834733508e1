use Rattle.std.proofs.Common.{◌≡◌, List, [], drop, length, true}
use Rattle.ds_base.specs.Spot.{IsSmall}
use Rattle.dwarf_types.specs.declared.entry.RawAttr.{RawAttr}
use Rattle.dwarf_types.specs.SectionBytes.{bytes_in}
use Rattle.unit_tree.specs.declared.reference.Reference.{Reference}
use Rattle.unit_tree.specs.Attribute.{attrs_at}
use Rattle.unit_tree.proofs.RootBases.{AreAlike}
use Rattle.unit_tree.proofs.bases.read_into.Given as goal

-- what was put is what was read, but for texts
abbrev pub invariant-loop-field : goal.invariant-loop-field
invariant-loop-field l =
    record {
      small : IsSmall l.cursor;
      entries : l.built.entries ≡ [];
      count : length l.built.attrs ≡ l.field-index;
      attrs : List RawAttr;
      references : List Reference;
      alike : AreAlike l.built.attrs attrs;
      read : attrs_at (bytes_in l.sections) l.context true (drop l.field-index l.fields) (attrs, references) l.cursor ≡ attrs_at (bytes_in l.sections) l.context true l.fields ([], []) l.fn.cursor;
    }
