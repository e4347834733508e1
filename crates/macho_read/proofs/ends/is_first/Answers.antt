use Rattle.std.proofs.Common.{◌≡◌, ℕ, suc, arith, get_or, nat_lt, subst, true}
use Rattle.std.proofs.lemmas.Bool.{eqb-true}
use Rattle.macho_read.proofs.TextEnds.{all_below, none_behind}
use Rattle.macho_read.proofs.ends.is_first.Goals as goal

pub returns-then-i-eq0-clause-before : goal.returns-then-i-eq0-clause-before
returns-then-i-eq0-clause-before c = λ first.
    let none = eqb-true c.args.i 0 first in (
      λ k d from within. absurd (omega (arith, none, within)),
      none_behind c.args.zeros.now c.args.place c.args.i c.requires (omega (arith, c.if-i-zeros.false)) (omega (arith, c.if-zeros-i.false)),
    )

pub returns-else-i-eq0-clause-before : goal.returns-else-i-eq0-clause-before
returns-else-i-eq0-clause-before c = λ before.
    let at : (j : ℕ) → suc j ≡ c.args.i → nat_lt (get_or c.args.zeros.now j 0) c.args.place ≡ true = λ j is. subst (λ (k : ℕ). nat_lt (get_or c.args.zeros.now k 0) c.args.place ≡ true) (omega (arith, is)) before in (
      all_below c.args.zeros.now c.args.place c.args.i c.requires (omega (arith, c.if-i-zeros.false)) at,
      none_behind c.args.zeros.now c.args.place c.args.i c.requires (omega (arith, c.if-i-zeros.false)) (omega (arith, c.if-zeros-i.false)),
    )
