-- The first element that passes a test.
use Rattle.std.proofs.Common.{◌≡◌, ℕ, zero, suc, ◌<◌, ◌≤◌, Bool, true, false, cond, List, [], ◌∷◌, length, take, get_or, Option, Some, None, refl, sym, ap, arith}
use Rattle.std.specs.List.{All, find}
use Rattle.std.proofs.lemmas.List.Elements.{All-cons, All-nil}
use Rattle.std.proofs.lemmas.List.Recursion.{found_nowhere}

cond_none : {A : Type 0} (b : Bool) (x : A) (o : Option A) → cond b (Some x) o ≡ None → (b ≡ false) × (o ≡ None)
cond_none true x o is = absurd cc
cond_none false x o is = (refl, is)

-- where none is found, none passes
pub none_of : {A : Type 0} (p : A → Bool) (xs : List A) → find p xs ≡ None → All (λ x. p x ≡ false) xs
none_of p [] is = All-nil (λ x. p x ≡ false)
none_of p (x ∷ xs) is = let parts = cond_none (p x) x (find p xs) is in All-cons (λ x. p x ≡ false) x xs parts.0 (none_of p xs parts.1)

-- what is found among the first ones is found among all, where none behind is looked for
pub find_take : {X : Type 0} (p : X → Bool) (n : ℕ) (xs : List X) (d : X) → ((k : ℕ) → n ≤ k → k < length xs → p (get_or xs k d) ≡ false) → find p (take n xs) ≡ find p xs
find_take p zero xs d none = sym (found_nowhere (find p) p (λ x. Some x) None refl (λ x xs. refl) xs d (λ k lt. none k (omega arith) lt))
find_take p (suc n) [] d none = refl
find_take p (suc n) (x ∷ xs) d none = ap (cond (p x) (Some x)) (find_take p n xs d (λ k le lt. none (suc k) (omega arith) (omega arith)))
