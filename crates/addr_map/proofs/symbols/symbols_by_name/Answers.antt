use Rattle.std.proofs.Common.{◌≡◌, true, false, rules, arith}
use Rattle.ds_base.proofs.TextKeys.{text_updates}
use Rattle.macho_read.specs.Seen.{symbol_seen}
use Rattle.macho_read.specs.Standings.{is_stab}
use Rattle.addr_map.specs.Tables.{index_in}
use Rattle.addr_map.proofs.Named.{index_put, index_same}
use Rattle.addr_map.proofs.symbols.symbols_by_name.Goals as goal

pub loop-i-preserved-in_ok-insert : goal.loop-i-preserved-in_ok-insert
loop-i-preserved-in_ok-insert c name =
    let stab : is_stab (symbol_seen c.symbol-symbol.result) ≡ false = search rules in
    index_put c.args.symbols.now c.loop-i.i (symbol_seen c.symbol-symbol.result) name (index_in c.loop-i.table name) _ (omega arith) (omega (arith, c.loop-i.auto.i, c.len-i.ensures)) c.symbol-symbol.ensures.item stab
    (text_updates c.symbol-symbol.result.name.now c.loop-i.table c.insert.new.self _ c.in_ok-insert.ensures.updates name)
    (c.loop-i.invariant name)

pub loop-i-preserved : goal.loop-i-preserved
loop-i-preserved c name =
    let stab : is_stab (symbol_seen c.symbol-symbol.result) ≡ true = search rules in
    index_same c.args.symbols.now c.loop-i.i (symbol_seen c.symbol-symbol.result) name _ (omega arith) (omega (arith, c.loop-i.auto.i, c.len-i.ensures)) c.symbol-symbol.ensures.item stab (c.loop-i.invariant name)
