-- What holds of the items at each place of two lists.
use Rattle.std.proofs.Common.{◌≡◌, inl, inr, ℕ, List, [], ◌∷◌, ◌++◌, length, slice_get, Some, refl, sym, ap, subst, ◌∙◌, arith, length-append}
use Rattle.std.proofs.lemmas.Bool.{cases_lt}
use Rattle.std.proofs.lemmas.Option.{same_Some, slice_get_within}
use Rattle.odr_names.proofs.BookPaths.{get_before}
use Rattle.link_graph.specs.Joining.{EachPair}

pub slice_get_behind : {A : Type 0} (xs : List A) (y : A) (ys : List A) → slice_get (xs ++ y ∷ ys) (length xs) ≡ Some y
slice_get_behind [] y ys = refl
slice_get_behind (x ∷ xs) y ys = slice_get_behind xs y ys

pub no_pairs : {A B : Type 0} (P : ℕ → A → B → Type 0) (ys : List B) → EachPair P [] ys
no_pairs {A} P ys k x y at_x at_y = let none : List A = [] in absurd (omega (arith, slice_get_within none k x at_x))

pub pairs_more : {A B : Type 0} (P : ℕ → A → B → Type 0) (xs : List A) (ys : List B) (i : ℕ) (x : A) (y : B) → length xs ≡ i → length ys ≡ i → EachPair P xs ys → P i x y → EachPair P (xs ++ x ∷ []) (ys ++ y ∷ [])
pairs_more {A} {B} P xs ys i x y long wide so_far here k a b at_a at_b = elim (cases_lt k i) [
  | inl lt ↦ so_far k a b (sym (get_before xs (x ∷ []) k (omega (arith, lt, long))) ∙ at_a) (sym (get_before ys (y ∷ []) k (omega (arith, lt, wide))) ∙ at_b)
  | inr le ↦ (
      let place : i ≡ k = omega (arith, le, long, slice_get_within (xs ++ x ∷ []) k a at_a, length-append xs (x ∷ [])) in
      let first : x ≡ a = same_Some x a (sym (slice_get_behind xs x []) ∙ ap (slice_get (xs ++ x ∷ [])) (long ∙ place) ∙ at_a) in
      let second : y ≡ b = same_Some y b (sym (slice_get_behind ys y []) ∙ ap (slice_get (ys ++ y ∷ [])) (wide ∙ place) ∙ at_b) in
      subst (λ (n : ℕ). P n a b) place (subst (λ (c : A). P i c b) first (subst (P i x) second here)))
]
