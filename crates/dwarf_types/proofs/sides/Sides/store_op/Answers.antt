use Rattle.std.proofs.Common.{◌++◌, [], ◌∷◌, List, Option, ap, ap₂, ◌∙◌, ℕ}
use Rattle.dwarf_types.specs.declared.address.Place.{Place}
use Rattle.dwarf_types.specs.declared.expr.Op.{Op}
use Rattle.dwarf_types.specs.declared.expr.PlainOp.{PlainOp}
use Rattle.dwarf_types.specs.declared.sides.OpRow.{OpRow}
use Rattle.dwarf_types.specs.Cells.{address_at}
use Rattle.dwarf_types.specs.Runs.{run_of}
use Rattle.dwarf_types.proofs.Kept.{parts_kept}
use Rattle.dwarf_types.proofs.sides.Sides.store_op.Goals as goal

pub returns-clause-row : goal.returns-clause-row
returns-clause-row c =
    let bytes = c.in_ok-bytes.bytes in
    let at = c.in_ok-bytes.address in
    let own = c.in_ok-bytes.ensures in
    let kept = parts_kept c.store_parts.new.self c.store_inner_ops.new.self bytes at c.store_inner_ops.ensures.grows own.within.0 own.within.1 in
    let row : OpRow = record { code = c.args.op.now.code; bytes = bytes; address = at; base = c.args.op.now.base; inner = c.in_ok-inner.inner } in
    let rows = c.in_ok-inner.ensures.rows in
    let with_parts : List ℕ → Option Place → Op = λ bytes address. record { code = c.args.op.now.code; bytes = bytes; address = address; base = c.args.op.now.base; inner = c.args.op.now.inner } in
    let with_inner : List PlainOp → Op = λ inner. record { code = c.args.op.now.code; bytes = run_of c.store_inner_ops.new.self.bytes.items bytes; address = address_at c.store_inner_ops.new.self at; base = c.args.op.now.base; inner = inner } in
    let means = ap with_inner rows.1 ∙ ap₂ with_parts (kept.0.0 ∙ own.value.0) (kept.0.1 ∙ own.value.1) in
    (row, c.in_ok-push.ensures.ok ∙ ap (λ (rows : List OpRow). rows ++ row ∷ []) (c.store_inner_ops.ensures.others.0 ∙ c.store_parts.ensures.others.0), means, ((kept.1.0, kept.1.1), (rows.0, rows.2)))
