use Rattle.std.proofs.Common.{◌*◌, ◌∙◌, drop, map, arith, sym, ap}
use Rattle.std.proofs.lemmas.List.{map_push}
use Rattle.std.proofs.lemmas.List.Elements.{All-push}
use Rattle.std.proofs.lemmas.Result.{err_from_is_err_and}
use Rattle.ds_base.specs.declared.fault.ReadError.TheVariants as errors
use Rattle.macho_read.specs.Rows.{IsWithin, symbol_of_row}
use Rattle.macho_read.specs.Symbols.{symbol_of}
use Rattle.macho_read.proofs.Gathering.{each_more, each_fail}
use Rattle.macho_read.proofs.symbols.read_rows.Goals as goal

pub returns-in_err-row-clause-read : goal.returns-in_err-row-clause-read
returns-in_err-row-clause-read c =
    let p = err_from_is_err_and c.from_residual-in_err-row.result c.from_residual-in_err-row.ensures.1 in
    rw (p.1, p.2) (each_fail (λ i. symbol_of c.args.strings.now i (drop (16 * i) c.args.table.now)) c.args.count c.loop-i.i _ (errors.Faulty c.in_err-row.field-0.0) _ (omega arith) (rw (← c.bytes_from-entry.ensures.is) c.in_err-row.ensures.read) c.loop-i.invariant.0)

pub loop-i-preserved : goal.loop-i-preserved
loop-i-preserved c =
    let more = each_more (λ i. symbol_of c.args.strings.now i (drop (16 * i) c.args.table.now)) c.args.count c.loop-i.i (map (symbol_of_row c.args.strings.now) c.loop-i.rows.items) _ _ (omega arith) (sym (ap (symbol_of c.args.strings.now c.loop-i.i) c.bytes_from-entry.ensures.is) ∙ c.in_ok-row.ensures.read) c.loop-i.invariant.0 in
    rw (c.in_ok-push.ensures.items, map_push) (more, All-push (IsWithin c.args.strings.now) c.loop-i.rows.items c.in_ok-row.row c.loop-i.invariant.1 c.in_ok-row.ensures.within)
