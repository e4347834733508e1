-- The LEB number at the front of some bytes.
use Rattle.std.proofs.Common.{◌≡◌, ℕ, Bool, true, false, cond, ltb, List, [], ◌∷◌, length, take, refl, ap}
use Rattle.dwarf_types.specs.LinkedExpressions.{front_leb}

take_if : (b : Bool) (x : ℕ) (xs front : List ℕ) → take (length front) xs ≡ front → take (length (cond b (x ∷ []) (x ∷ front))) (x ∷ xs) ≡ cond b (x ∷ []) (x ∷ front)
take_if true x xs front is = refl
take_if false x xs front is = ap (λ ys. x ∷ ys) is

pub front_is : (bytes : List ℕ) → take (length (front_leb bytes)) bytes ≡ front_leb bytes
front_is [] = refl
front_is (b ∷ bytes) = take_if (ltb b 128) b bytes (front_leb bytes) (front_is bytes)
