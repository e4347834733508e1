-- Stations between the code and the definitions: what is needed to understand attributes of `__debug_info`, and what they mean.
use Rattle.std.specs.Prelude.{ℕ, List, Result}
use Rattle.ds_base.specs.declared.fault.Fault.{Fault}
use Rattle.dwarf_types.specs.declared.entry.RawAttr.{RawAttr}
use Rattle.dwarf_types.specs.declared.value.Value.{Value}
use Rattle.dwarf_types.specs.SectionBytes.{bytes_in}
use Rattle.expr_resolve.specs.Context.{AreInOrder}
use Rattle.object_view.specs.declared.expressions.Expressions.{Expressions}
use Rattle.object_view.specs.Attributes.{value_meant}
use Rattle.object_view.specs.Seen.{opened_seen}
use Rattle.object_view.specs.Ready.{IsOpen, IsReadAttr, info_seen}

pub record IsReadyInfo (e : Expressions) : Type 0 where
  pub opened : IsOpen (opened_seen e.object.now) e.map.now
  pub types : AreInOrder e.types.now

-- an attribute as it was read, among entries at these places
abbrev pub FitsInfo : Expressions → List ℕ → ℕ → RawAttr → Type 0
FitsInfo e places unit a = IsReadAttr (bytes_in e.object.now.sections) e.units.now places unit a

-- its value, by its entry's unit
abbrev pub info_value : Expressions → List ℕ → ℕ → RawAttr → Result Value Fault
info_value e places unit a = value_meant (info_seen e unit) places a a.value
