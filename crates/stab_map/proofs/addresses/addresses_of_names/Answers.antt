use Rattle.std.proofs.Common.{◌∙◌, List, refl, ap, arith, drop, sym}
use Rattle.ds_base.proofs.TextKeys.{text_updates}
use Rattle.macho_read.specs.declared.image.Symbol.{Symbol}
use Rattle.macho_read.specs.Seen.{symbol_seen}
use Rattle.stab_map.specs.Addresses.{address_among, has_name}
use Rattle.stab_map.proofs.AddressLemmas.{address_put, address_skipped, from_here, named_apart}
use Rattle.stab_map.proofs.addresses.addresses_of_names.Goals as goal

pub loop-i-preserved-in_ok-insert : goal.loop-i-preserved-in_ok-insert
loop-i-preserved-in_ok-insert c name named =
    let symbols = c.args.image.now.symbols in
    let here = from_here symbols c.loop-i.i (symbol_seen c.symbol-symbol.result) (omega arith) (omega (arith, c.loop-i.auto.i, c.len-i.ensures)) c.symbol-symbol.ensures.item in
    address_put c.args.image.now (symbol_seen c.symbol-symbol.result) (drop c.loop-i.i symbols) name _ _ _ (sym c.is_defined.ensures ∙ c.if-is_defined.true) refl
    (text_updates c.symbol-symbol.result.name.now c.loop-i.addresses c.insert.new.self _ c.in_ok-insert.ensures.updates name) (c.loop-i.invariant name named)
    ∙ ap (λ (ss : List Symbol). address_among c.args.image.now ss name) here

pub loop-i-preserved-else-contains : goal.loop-i-preserved-else-contains
loop-i-preserved-else-contains c name named =
    let symbols = c.args.image.now.symbols in
    let here = from_here symbols c.loop-i.i (symbol_seen c.symbol-symbol.result) (omega arith) (omega (arith, c.loop-i.auto.i, c.len-i.ensures)) c.symbol-symbol.ensures.item in
    address_skipped c.args.image.now (symbol_seen c.symbol-symbol.result) (drop c.loop-i.i symbols) name _
    (named_apart (has_name c.args.names.now) c.symbol-symbol.result.name.now name (sym c.contains.ensures ∙ c.if-contains.false) named) (c.loop-i.invariant name named)
    ∙ ap (λ (ss : List Symbol). address_among c.args.image.now ss name) here
