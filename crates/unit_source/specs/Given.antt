-- What is given of an output unit, as the values of which contracts speak.
use Rattle.std.specs.Prelude.{List, map}
use Rattle.dwarf_types.specs.declared.graph.Node.{Node}
use Rattle.dwarf_types.specs.declared.graph.OutAttr.{OutAttr}
use Rattle.dwarf_types.specs.declared.graph.OutValue.{OutValue}
use Rattle.dwarf_types.specs.declared.graph.OutValue.TheVariants as values
use Rattle.unit_source.specs.declared.cow_list.CowList.{CowList}
use Rattle.unit_source.specs.declared.cow_list.CowList.TheVariants as cow
use Rattle.unit_source.specs.declared.given.OutAttrRef.{OutAttrRef}
use Rattle.unit_source.specs.declared.given.OutValueRef.{OutValueRef}
use Rattle.unit_source.specs.declared.given.OutValueRef.TheVariants as refs
use Rattle.unit_source.specs.declared.source.NodeHead.{NodeHead}

module _ {T : Type 0} where
  abbrev pub items_in : CowList T → List T
  items_in (cow.Borrowed items) = items.now
  items_in (cow.Owned items) = items

abbrev pub value_given : OutValueRef → OutValue
value_given (refs.Address address) = values.Address address
value_given (refs.Text text) = values.Text text.now
value_given (refs.Number form bits) = values.Number form bits
value_given (refs.Wide bytes) = values.Wide bytes.now
value_given (refs.Block form bytes) = values.Block form bytes.now
value_given (refs.Expr parts) = values.Expr (items_in parts)
value_given (refs.Ref target) = values.Ref target
value_given (refs.Ranges spans) = values.Ranges spans.now
value_given (refs.Locations items) = values.Locations (items_in items)
value_given refs.Lines = values.Lines

abbrev pub attr_given : OutAttrRef → OutAttr
attr_given a = record { name = a.name; value = value_given a.value }

abbrev pub node_given : NodeHead → List OutAttrRef → Node
node_given head attrs = record { parent = head.parent; tag = head.tag; attrs = map attr_given attrs }
