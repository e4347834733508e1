use Rattle.std.proofs.Common.{◌≡◌, ◌∙◌, ℕ, arith, sym, ap}
use Rattle.std.specs.List.{find}
use Rattle.std.specs.Option.{option_map}
use Rattle.addr_map.specs.Moved.{holds, moved_by}
use Rattle.addr_map.proofs.Holding.{found_last, found_at_zero}
use Rattle.addr_map.proofs.moving.moved_end.Goals as goal

pub returns-in_err-last-in-Placed : goal.returns-in_err-last-in-Placed
returns-in_err-last-in-Placed c =
    let zero : c.in-Placed.end ≡ 0 = omega (arith, c.in_err-last-in-Placed.ensures) in
    rw (c.from_residual.ensures, c.in-Placed.is, zero) (sym (ap (option_map (moved_by 0)) (found_at_zero c.args.map.now.ranges)))

pub returns-in_ok-range-in-Placed : goal.returns-in_ok-range-in-Placed
returns-in_ok-range-in-Placed c =
    let last = c.in_ok-last-in-Placed.ensures in
    let found = c.in_ok-range-in-Placed.ensures.found ∙ ap (find (holds c.in_ok-last-in-Placed.last)) c.as_slice.ensures in
    let whole = found ∙ ap (λ (k : ℕ). find (holds k) c.args.map.now.ranges) last.1 ∙ sym (found_last c.in-Placed.end c.args.map.now.ranges last.0) in
    rw c.in-Placed.is (ap (option_map (moved_by c.in-Placed.end)) whole)
