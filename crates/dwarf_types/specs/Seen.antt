-- What stands in entries, as the values of which contracts speak.
use Rattle.dwarf_types.specs.declared.entry.Attr.{Attr}
use Rattle.dwarf_types.specs.declared.entry.RawAttr.{RawAttr}
use Rattle.dwarf_types.specs.declared.expr.Op.{Op}
use Rattle.dwarf_types.specs.declared.expr.PlainOp.{PlainOp}
use Rattle.dwarf_types.specs.declared.lists.Location.{Location}
use Rattle.dwarf_types.specs.declared.seen.AttrRef.{AttrRef}
use Rattle.dwarf_types.specs.declared.seen.InnerOpRef.{InnerOpRef}
use Rattle.dwarf_types.specs.declared.seen.LocationRef.{LocationRef}
use Rattle.dwarf_types.specs.declared.seen.OpRef.{OpRef}
use Rattle.dwarf_types.specs.declared.seen.RawAttrRef.{RawAttrRef}
use Rattle.dwarf_types.specs.declared.seen.ValueRef.{ValueRef}
use Rattle.dwarf_types.specs.declared.seen.ValueRef.TheVariants as refs
use Rattle.dwarf_types.specs.declared.value.Value.{Value}
use Rattle.dwarf_types.specs.declared.value.Value.TheVariants as values

abbrev pub value_seen : ValueRef → Value
value_seen (refs.Address place) = values.Address place
value_seen (refs.Text text) = values.Text text.now
value_seen (refs.Number form bits) = values.Number form bits
value_seen (refs.Wide bytes) = values.Wide bytes.now
value_seen (refs.Block form bytes) = values.Block form bytes.now
value_seen (refs.Expr ops) = values.Expr ops
value_seen (refs.Ref k) = values.Ref k
value_seen (refs.Ranges spans) = values.Ranges spans.now
value_seen (refs.Locations items) = values.Locations items
value_seen refs.Lines = values.Lines
value_seen (refs.Offset n) = values.Offset n

abbrev pub attr_seen : AttrRef → Attr
attr_seen a = record { name = a.name; form = a.form; value = value_seen a.value }

abbrev pub raw_attr_seen : RawAttrRef → RawAttr
raw_attr_seen a = record { name = a.name; form = a.form; end = a.end; value = value_seen a.value }

-- operations, and those inside an operation
abbrev pub op_seen : OpRef → Op
op_seen o = record { code = o.code; bytes = o.bytes.now; address = o.address; base = o.base; inner = o.inner }

abbrev pub inner_seen : InnerOpRef → PlainOp
inner_seen o = record { code = o.code; bytes = o.bytes.now; address = o.address; base = o.base }

-- items of location lists
abbrev pub location_seen : LocationRef → Location
location_seen l = record { span = l.span; ops = l.ops }
