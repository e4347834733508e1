use Rattle.std.proofs.Common.{ap, subst, sym, ◌∙◌}
use Rattle.dwarf_types.specs.declared.value.Value.{Value}
use Rattle.dwarf_types.specs.SectionBytes.{bytes_in}
use Rattle.dwarf_types.specs.Seen.{raw_attr_seen, value_seen}
use Rattle.expr_resolve.specs.Context.{context_in}
use Rattle.object_view.specs.Ready.{IsReadValue, IsReady, context_among}
use Rattle.object_view.proofs.Contexts.{index_there, info_ready}
use Rattle.object_view.proofs.attributes.understand_value.Goals as goal

pub info_context-context-requires : goal.info_context-context-requires
info_context-context-requires g c = c.requires.1.0.0

pub info_context-context-requires-in-Block : goal.info_context-context-requires-in-Block
info_context-context-requires-in-Block g c = c.requires.1.0.0

pub info_context-context-requires-in-Offset : goal.info_context-context-requires-in-Offset
info_context-context-requires-in-Offset g c = c.requires.1.0.0

pub field_address-at-requires-clause-ready : goal.field_address-at-requires-clause-ready
field_address-at-requires-clause-ready g c = rw c.info_context-context.ensures (info_ready c.args.expressions.now c.requires.0.opened c.requires.0.types c.args.unit)

pub place-requires : goal.place-requires
place-requires g c =
    let ready : IsReady (context_in c.info_context-context.result) = subst IsReady (sym c.info_context-context.ensures) (info_ready c.args.expressions.now c.requires.0.opened c.requires.0.types c.args.unit) in
    ready.map

pub read_expression-requires-clause-image : goal.read_expression-requires-clause-image
read_expression-requires-clause-image g c =
    let ready : IsReady (context_in c.info_context-context-in-Block.result) = subst IsReady (sym c.info_context-context-in-Block.ensures) (info_ready c.args.expressions.now c.requires.0.opened c.requires.0.types c.args.unit) in
    ready.image

pub read_expression-requires-clause-relocs : goal.read_expression-requires-clause-relocs
read_expression-requires-clause-relocs g c =
    let ready : IsReady (context_in c.info_context-context-in-Block.result) = subst IsReady (sym c.info_context-context-in-Block.ensures) (info_ready c.args.expressions.now c.requires.0.opened c.requires.0.types c.args.unit) in
    ready.relocs

pub read_expression-requires-clause-map : goal.read_expression-requires-clause-map
read_expression-requires-clause-map g c =
    let ready : IsReady (context_in c.info_context-context-in-Block.result) = subst IsReady (sym c.info_context-context-in-Block.ensures) (info_ready c.args.expressions.now c.requires.0.opened c.requires.0.types c.args.unit) in
    ready.map

pub read_expression-requires-clause-order : goal.read_expression-requires-clause-order
read_expression-requires-clause-order g c =
    let ready : IsReady (context_in c.info_context-context-in-Block.result) = subst IsReady (sym c.info_context-context-in-Block.ensures) (info_ready c.args.expressions.now c.requires.0.opened c.requires.0.types c.args.unit) in
    ready.order

pub read_expression-requires-clause-addresses : goal.read_expression-requires-clause-addresses
read_expression-requires-clause-addresses g c =
    let ready : IsReady (context_in c.info_context-context-in-Block.result) = subst IsReady (sym c.info_context-context-in-Block.ensures) (info_ready c.args.expressions.now c.requires.0.opened c.requires.0.types c.args.unit) in
    ready.addresses

pub read_expression-requires-clause-small : goal.read_expression-requires-clause-small
read_expression-requires-clause-small g c =
    let ready : IsReady (context_in c.info_context-context-in-Block.result) = subst IsReady (sym c.info_context-context-in-Block.ensures) (info_ready c.args.expressions.now c.requires.0.opened c.requires.0.types c.args.unit) in
    ready.small.addr

pub address_named-requires-clause-ready : goal.address_named-requires-clause-ready
address_named-requires-clause-ready g c = rw c.info_context-context-in-Offset.ensures (info_ready c.args.expressions.now c.requires.0.opened c.requires.0.types c.args.unit)

pub address_named-requires-clause-there : goal.address_named-requires-clause-there
address_named-requires-clause-there g c =
    let e = c.args.expressions.now in
    let fits = subst (λ (v : Value). IsReadValue (bytes_in e.object.now.sections) (context_among e.units.now c.args.unit).addr_base g.places (raw_attr_seen c.args.attr.now) v) (ap value_seen c.in-Offset.is) c.requires.1.0.1 in
    index_there e c.args.unit _ c.in-Offset.index c.info_context-context-in-Offset.ensures (fits (sym c.is_address_index.ensures ∙ c.if-is_address_index.true))
