-- Steps of an address and of a line, in whole numbers and in those of a machine.
use Rattle.std.proofs.Common.{◌≡◌, ℕ, suc, ◌+◌, ◌-◌, ◌%◌, ◌^◌, ◌≤◌, ℤ, pos, negsuc, ◌+ℤ◌, refl, sym, ap, ◌∙◌, arith}
use Rattle.std.specs.Int.{cast_unsigned, w64, int_rem_euclid}
use Rattle.std.specs.Prelude.{unsigned_abs, FitsSigned}
use Rattle.std.proofs.Math.Nat.{add-mod-mod}
use Rattle.std.proofs.lemmas.Int.{ints, int_rem_euclid_is}
use Rattle.dwarf_types.specs.declared.address.Addr.{Addr}
use Rattle.dwarf_types.specs.declared.address.Addr.TheVariants as addrs
use Rattle.dwarf_types.specs.Addresses.{plus}
use Rattle.line_read.specs.Registers.{lines_on}

pub plus_product : (at : Addr) (n : ℕ) → plus at (n % 2 ^ 64) ≡ plus at n
plus_product (addrs.Placed a) n = ap (λ (x : ℕ). addrs.Placed x) (add-mod-mod a n (2 ^ 64))
plus_product (addrs.Named symbol a) n = ap (λ (x : ℕ). addrs.Named symbol x) (add-mod-mod a n (2 ^ 64))
plus_product (addrs.Fixed a) n = ap (λ (x : ℕ). addrs.Fixed x) (add-mod-mod a n (2 ^ 64))

back : (line n w : ℕ) → suc n ≤ w → (pos line +ℤ negsuc n) +ℤ pos w ≡ pos (line + (w - suc n))
back line n w le = omega (arith, ints)

pub lines_on_is : (step : ℤ) (line : ℕ) → FitsSigned w64 step → (line + cast_unsigned w64 step % 2 ^ 32) % 2 ^ 32 ≡ lines_on step line
lines_on_is (pos n) line fits = add-mod-mod line n (2 ^ 32)
lines_on_is (negsuc n) line fits =
    let f = fits.sfits in
    let e : int_rem_euclid (pos line +ℤ negsuc n) (pos (2 ^ 32)) ≡ pos ((line + (2 ^ 64 - suc n)) % 2 ^ 32) = int_rem_euclid_is (pos line +ℤ negsuc n) (pos (2 ^ 32)) (2 ^ 32) (2 ^ 32) (line + (2 ^ 64 - suc n)) (omega arith) refl (back line n (2 ^ 64) (omega arith)) in
    add-mod-mod line (2 ^ 64 - suc n) (2 ^ 32) ∙ sym (ap unsigned_abs e)
