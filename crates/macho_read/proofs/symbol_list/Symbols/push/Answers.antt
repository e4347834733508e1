use Rattle.std.proofs.Common.{arith, rules, ◌∙◌}
use Rattle.macho_read.proofs.Rows.{row_put, rows_kept}
use Rattle.macho_read.proofs.symbol_list.Symbols.push.Goals as goal

pub returns-in_err-push-clause-unchanged : goal.returns-in_err-push-clause-unchanged
returns-in_err-push-clause-unchanged c =
    let kept = rows_kept c.self.inside.bytes.items c.args.name.now c.self.inside.rows.items c.self.invariant in
    search rules

pub returns-clause-ok : goal.returns-clause-ok
returns-clause-ok c =
    rw (c.in_ok-push.ensures.items, ← c.self.view_is) (row_put c.self.inside.bytes.items c.args.name.now c.extend_from_slice.new.self.items c.self.inside.rows.items _ c.in_ok-extend_from_slice.ensures.items (c.len.ensures ∙ c.self.inside.bytes.ok.0) (omega arith) c.self.invariant)
