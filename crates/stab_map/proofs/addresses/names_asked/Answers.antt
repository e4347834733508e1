use Rattle.std.proofs.Common.{◌∙◌, List, refl, ap, arith, drop, sym}
use Rattle.ds_base.specs.declared.text_key.TextKey.{TextKey}
use Rattle.macho_read.specs.declared.image.Symbol.{Symbol}
use Rattle.macho_read.specs.Seen.{symbol_seen}
use Rattle.stab_map.specs.Addresses.{is_asked}
use Rattle.stab_map.proofs.AddressLemmas.{asked_first, from_here, name_put}
use Rattle.stab_map.proofs.addresses.names_asked.Goals as goal

pub loop-i-preserved-in_ok-insert : goal.loop-i-preserved-in_ok-insert
loop-i-preserved-in_ok-insert c name =
    let symbols = c.args.image.now.symbols in
    let here = from_here symbols c.loop-i.i (symbol_seen c.symbol-symbol.result) (omega arith) (omega (arith, c.loop-i.auto.i, c.len-i.ensures)) c.symbol-symbol.ensures.item in
    let key : TextKey = record { text = c.symbol-symbol.result.name } in
    asked_first (symbol_seen c.symbol-symbol.result) (drop c.loop-i.i symbols) name _ _ _ (sym c.asks.ensures ∙ c.if-asks.true) refl
    (name_put c.loop-i.names c.insert.new.self key c.in_ok-insert.ensures.updates name) (c.loop-i.invariant name)
    ∙ ap (λ (ss : List Symbol). is_asked ss name) here
