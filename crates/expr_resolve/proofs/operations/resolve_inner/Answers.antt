use Rattle.std.proofs.Common.{◌∙◌, ◌+◌, ap, arith, subst, sym}
use Rattle.dwarf_types.specs.Gathered.{Gathered}
use Rattle.dwarf_types.specs.Seen.{inner_seen}
use Rattle.expr_resolve.specs.Steps.{IsPlainCut, with_meaning}
use Rattle.expr_resolve.specs.Expressions.{plain_size}
use Rattle.expr_resolve.proofs.Each.{Told, all_at_place, put_inside, told_ends, told_more}
use Rattle.expr_resolve.proofs.operations.resolve_inner.Goals as goal

pub meaning_of-requires-clause-operand : goal.meaning_of-requires-clause-operand
meaning_of-requires-clause-operand g c = all_at_place IsPlainCut c.args.stored.now c.loop-j.j (inner_seen c.op-op.result) c.requires.cut (omega arith) c.op-op.ensures

pub meaning_of-requires-clause-inside : goal.meaning_of-requires-clause-inside
meaning_of-requires-clause-inside g c =
    let end = told_ends plain_size (g.M.Understands.meant c.args.by.now) c.args.first c.args.stored.now c.loop-j.ops.inner c.loop-j.j c.loop-j.place (inner_seen c.op-op.result) c.loop-j.invariant.0 (omega arith) c.op-op.ensures in
    omega (arith, end, c.requires.inside)

pub overflow_add-place : goal.overflow_add-place
overflow_add-place g c =
    let end = told_ends plain_size (g.M.Understands.meant c.args.by.now) c.args.first c.args.stored.now c.loop-j.ops.inner c.loop-j.j c.loop-j.place (inner_seen c.op-op.result) c.loop-j.invariant.0 (omega arith) c.op-op.ensures in
    omega (arith, end, c.requires.inside)

pub loop-j-preserved : goal.loop-j-preserved
loop-j-preserved g c =
    let x = inner_seen c.op-op.result in
    let put = c.in_ok-push_inner.ensures.ok ∙ ap (put_inside c.loop-j.ops) c.with_meaning.ensures in
    let told = told_more plain_size (g.M.Understands.meant c.args.by.now) c.args.first c.args.stored.now c.loop-j.ops.inner c.loop-j.j c.loop-j.place x (with_meaning x c.in_ok-meaning.meaning) c.loop-j.invariant.0 (omega arith) c.op-op.ensures c.in_ok-meaning.ensures in
    (subst (λ (now : Gathered). Told plain_size (g.M.Understands.meant c.args.by.now) c.args.first c.args.stored.now now.inner (c.loop-j.j + 1) (c.loop-j.place + plain_size x)) (sym put) told, ap (λ (now : Gathered). now.ops) put ∙ c.loop-j.invariant.1)
