use Rattle.std.proofs.Common.{◌≡◌, ◌∙◌, ◌-◌, ◌+◌, arith, sym, subst, ℕ}
use Rattle.type_names.specs.Children.{IsTableFrom}
use Rattle.type_names.proofs.Listed.{entry_at, holder_before, table_more}
use Rattle.type_names.proofs.children.enter_all.Goals as goal

pub enter-requires-clause-holder : goal.enter-requires-clause-holder
enter-requires-clause-holder c = λ p is. (
    let entries = c.args.entries.now in
    let e = entry_at entries (c.loop-i.i - 1) (omega (arith, c.loop-i.invariant.within)) in
    let lt = holder_before entries (c.loop-i.i - 1) p e.0 c.requires.parents e.1 (sym (c.holder_at.ensures e.0 e.1) ∙ is) in
    omega (arith, c.loop-i.invariant.within, c.loop-i.invariant.first_len))

pub loop-i-preserved : goal.loop-i-preserved
loop-i-preserved c =
    let entries = c.args.entries.now in
    let e = entry_at entries (c.loop-i.i - 1) (omega (arith, c.loop-i.invariant.within)) in
    let held = sym (c.holder_at.ensures e.0 e.1) in
    let one_more : c.loop-i.i ≡ c.loop-i.i - 1 + 1 = omega arith in
    rw (c.enter.ensures.first, c.enter.ensures.next) (table_more entries c.loop-i.first c.loop-i.next (c.loop-i.i - 1) e.0 c.holder_at.result e.1 held
    (λ p is. (let lt = holder_before entries (c.loop-i.i - 1) p e.0 c.requires.parents e.1 (held ∙ is) in omega (arith, c.loop-i.invariant.within)))
    (subst (λ (n : ℕ). IsTableFrom entries c.loop-i.first c.loop-i.next n) one_more c.loop-i.invariant))
