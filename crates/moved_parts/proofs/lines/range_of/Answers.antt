use Rattle.std.proofs.Common.{Some, sym, ap, ◌∙◌}
use Rattle.moved_parts.proofs.Held.{held_by, held_between, held_behind}
use Rattle.moved_parts.proofs.lines.range_of.Goals as goal

pub returns-in_err-range-clause-found : goal.returns-in_err-range-clause-found
returns-in_err-range-clause-found c =
    let none = held_behind c.args.ranges.now c.in-Placed.address c.count_ended.result (record { start = 0; end = 0; linked = 0 }) c.count_ended.ensures c.in_err-range.ensures.lookup.3 in
    rw (c.from_residual.ensures, c.in-Placed.is) (sym none)

pub returns-then-range-address-clause-found : goal.returns-then-range-address-clause-found
returns-then-range-address-clause-found c =
    let at = c.in_ok-range.ensures.lookup in
    let found = held_by c.args.ranges.now c.in-Placed.address c.count_ended.result c.in_ok-range.range.now c.count_ended.ensures at.3.0 (rw (← at.1) c.if-range-address.true) in
    rw c.in-Placed.is (ap Some at.1 ∙ sym found)

pub returns-else-range-address-clause-found : goal.returns-else-range-address-clause-found
returns-else-range-address-clause-found c =
    let at = c.in_ok-range.ensures.lookup in
    rw c.in-Placed.is (sym (held_between c.args.ranges.now c.in-Placed.address c.count_ended.result c.in_ok-range.range.now c.requires.sound c.requires.apart c.count_ended.ensures at.3.0 (rw (← at.1) c.if-range-address.false)))
