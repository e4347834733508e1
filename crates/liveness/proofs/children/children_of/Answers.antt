use Rattle.std.proofs.Common.{◌≡◌, ℕ, length, arith, sym, subst, ◌∙◌}
use Rattle.std.proofs.lemmas.List.{take_at}
use Rattle.liveness.specs.ChildTable.{IsTable}
use Rattle.liveness.proofs.ChildChains.{table_more}
use Rattle.liveness.proofs.children.children_of.Goals as goal

pub loop-i-preserved : goal.loop-i-preserved
loop-i-preserved c =
    let entries = c.args.entries.now in
    let len : length c.enter_child.new.last ≡ c.loop-i.last.len = omega (arith, c.enter_child.auto.last, c.deref_mut.ensures.len) in
    rw (take_at c.enter_child.new.last _ _ len, c.enter_child.ensures.after, c.in_ok-push.ensures.items, c.enter_child.ensures.before, c.deref_mut.ensures.value)
    (table_more entries c.loop-i.i c.entry.result c.loop-i.last.items c.loop-i.before.items c.parent.result c.loop-i.invariant c.entry.ensures.stands (sym c.parent.ensures) (λ p is. omega (arith, c.requires.parents c.loop-i.i p c.entry.result c.entry.ensures.stands (sym c.parent.ensures ∙ is))))

pub returns : goal.returns
returns c = let all : c.loop-i.i ≡ length c.args.entries.now = omega arith in subst (λ (n : ℕ). IsTable c.args.entries.now n c.loop-i.last.items c.loop-i.before.items) all c.loop-i.invariant
