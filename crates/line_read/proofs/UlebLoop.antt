-- The loop over the operands of an operation that is passed over: the ways out, and the way on.
use Rattle.std.proofs.Common.{◌≡◌, ℕ, suc, ◌+◌, ◌-◌, ◌<◌, ◌≤◌, Result, Ok, Err, refl, sym, ap, ◌∙◌, arith}
use Rattle.ds_base.specs.declared.fault.Fault.{Fault}
use Rattle.ds_base.specs.Spot.{Spot}
use Rattle.ds_base.specs.Reading.{◌>>=◌, uleb_at}
use Rattle.line_read.specs.Operation.{ulebs_at}

next_uleb : (count i : ℕ) (s : Spot) (total : Result (Unit {0} × Spot) Fault) → i < count → ulebs_at (count - i) s ≡ total → total ≡ (uleb_at s >>= λ n. ulebs_at (count - (i + 1)) n.1)
unfolding ulebs_at
next_uleb count i s total lt so_far =
    let more : count - i ≡ suc (count - (i + 1)) = omega arith in
    sym so_far ∙ ap (λ (n : ℕ). ulebs_at n s) more

pub ulebs_more : (count i : ℕ) (s : Spot) (n : ℕ) (behind : Spot) (total : Result (Unit {0} × Spot) Fault) → i < count → uleb_at s ≡ Ok (n, behind)
    → ulebs_at (count - i) s ≡ total → ulebs_at (count - (i + 1)) behind ≡ total
ulebs_more count i s n behind total lt is so_far = sym (next_uleb count i s total lt so_far ∙ rw is refl)

pub ulebs_fail : (count i : ℕ) (s : Spot) (fault : Fault) (total : Result (Unit {0} × Spot) Fault) → i < count → uleb_at s ≡ Err fault
    → ulebs_at (count - i) s ≡ total → total ≡ Err fault
ulebs_fail count i s fault total lt is so_far = next_uleb count i s total lt so_far ∙ rw is refl

pub ulebs_end : (count i : ℕ) (s : Spot) (total : Result (Unit {0} × Spot) Fault) → count ≤ i → ulebs_at (count - i) s ≡ total → total ≡ Ok (tt, s)
unfolding ulebs_at
ulebs_end count i s total le so_far =
    let none : count - i ≡ 0 = omega arith in
    sym so_far ∙ ap (λ (n : ℕ). ulebs_at n s) none
