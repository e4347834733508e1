use Rattle.std.proofs.Common.{ℕ, ◌^◌, ◌≤◌, ◌<◌, arith}
use Rattle.std.proofs.Math.Nat.{pow-le-pow_right}
use Rattle.ar_read.proofs.number.read_number.Goals as goal

-- fewer than 16 digits
small : (number i : ℕ) → number < 10 ^ i → i < 16 → number < 10 ^ 15
small number i lt few =
    let le : 10 ^ i ≤ 10 ^ 15 = pow-le-pow_right {n = 10} (omega arith) {i = i} {j = 15} (omega arith) in
    omega (arith, le)

pub overflow_mul-number : goal.overflow_mul-number
overflow_mul-number c = omega (arith, small c.loop-i.number c.loop-i.i c.loop-i.invariant.small (omega (arith, c.requires)))

pub overflow_add-number : goal.overflow_add-number
overflow_add-number c = omega (arith, small c.loop-i.number c.loop-i.i c.loop-i.invariant.small (omega (arith, c.requires)), c.from.ensures)
