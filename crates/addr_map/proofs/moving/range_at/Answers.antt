use Rattle.std.proofs.Common.{arith, sym}
use Rattle.addr_map.proofs.Holding.{held_by, held_before, held_out}
use Rattle.addr_map.proofs.moving.range_at.Goals as goal

pub returns-in_err-last-clause-found : goal.returns-in_err-last-clause-found
returns-in_err-last-clause-found c =
    rw c.from_residual.ensures (sym (held_before c.args.ranges.now c.args.at c.begun.result (record { start = 0; end = 0; linked = 0 }) c.begun.ensures.begun (omega (arith, c.in_err-last.ensures))))

pub returns-then-at-range-clause-found : goal.returns-then-at-range-clause-found
returns-then-at-range-clause-found c = sym (held_by _ _ _ _ _ c.requires.sound c.requires.apart c.begun.ensures.within c.begun.ensures.begun c.in_ok-last.ensures.0 c.in_ok-last.ensures.1 c.if-at-range.true)

pub returns-else-at-range-clause-found : goal.returns-else-at-range-clause-found
returns-else-at-range-clause-found c = sym (held_out _ _ _ _ _ c.requires.sound c.requires.apart c.begun.ensures.within c.begun.ensures.begun c.in_ok-last.ensures.0 c.in_ok-last.ensures.1 c.if-at-range.false)
