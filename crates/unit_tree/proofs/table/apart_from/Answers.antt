use Rattle.std.proofs.Common.{ℕ, ◌≡◌, subst, arith}
use Rattle.unit_tree.specs.Table.{AreApart}
use Rattle.unit_tree.proofs.table.apart_from.Goals as goal

pub returns : goal.returns
returns c =
    let all : c.loop-i.i ≡ c.args.run = omega (arith, c.loop-i.invariant.0, c.loop-i-test.false) in
    subst (λ (n : ℕ). AreApart c.args.declarations.now n c.loop-i.apart) all c.loop-i.invariant.1
