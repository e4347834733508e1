use Rattle.std.proofs.Common.{◌≡◌, ◌-◌, ◌+◌, arith, sym, ◌∙◌, subst}
use Rattle.type_names.specs.Tree.{IsPassedTo}
use Rattle.type_names.proofs.Lineages.{parent_before}
use Rattle.type_names.proofs.Subtrees.{passed_more}
use Rattle.type_names.proofs.tree.pass_all.Goals as goal

pub pass_up-requires-clause-place : goal.pass_up-requires-clause-place
pass_up-requires-clause-place c = (omega (arith, c.requires.len, c.loop-i.invariant.within), omega (arith, c.loop-i.invariant.within, c.loop-i.invariant.len))

pub pass_up-requires-clause-parent : goal.pass_up-requires-clause-parent
pass_up-requires-clause-parent c = λ p is. omega (arith, parent_before c.args.entries.now (c.loop-i.i - 1) p c.requires.parents (sym c.parent_of.ensures ∙ is), c.loop-i.invariant.within, c.loop-i.invariant.len)

pub loop-i-preserved : goal.loop-i-preserved
loop-i-preserved c =
    let one_more : c.loop-i.i ≡ c.loop-i.i - 1 + 1 = omega arith in
    rw c.pass_up.ensures (passed_more c.args.entries.now c.args.marks.now c.loop-i.row (c.loop-i.i - 1) c.parent_of.result c.requires.parents (omega (arith, c.loop-i.invariant.within)) (sym c.parent_of.ensures)
    (subst (IsPassedTo c.args.entries.now c.args.marks.now c.loop-i.row) one_more c.loop-i.invariant))
