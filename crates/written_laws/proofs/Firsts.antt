-- Items by first use: none of them is lost, and none is new.
use Rattle.std.proofs.Common.{◌≡◌, ◌≤◌, ◌||◌, suc, Bool, true, false, not, List, [], ◌∷◌, length, filter, if◌then◌else◌, refl, ap, sym, ◌∙◌, arith}
use Rattle.std.specs.List.{All, list_any}
use Rattle.std.proofs.lemmas.List.Elements.{All-cons, All-filter, All-head, All-nil, All-tail}
use Rattle.std.proofs.lemmas.Map.Views.{any-filter_same}
use Rattle.ds_base.specs.FirstUse.{once}

module _ {A : Type 0} (same : A → A → Bool) where
  pub all_once : (P : A → Type 0) (xs : List A) → All P xs → All P (once same xs)
  all_once P [] all = All-nil P
  all_once P (x ∷ xs) all = All-cons P x (filter (λ y. not (same x y)) (once same xs)) (All-head P x xs all) (All-filter (λ y. not (same x y)) P (once same xs) (all_once P xs (All-tail P x xs all)))

  filter_short : (p : A → Bool) (xs : List A) → length (filter p xs) ≤ length xs
  filter_short p [] = omega arith
  filter_short p (x ∷ xs) = by (p x) (filter_short p xs)
    where
      by : (b : Bool) → length (filter p xs) ≤ length xs → length (if b then x ∷ filter p xs else filter p xs) ≤ suc (length xs)
      by true le = omega (arith, le)
      by false le = omega (arith, le)

  pub once_short : (xs : List A) → length (once same xs) ≤ length xs
  once_short [] = omega arith
  once_short (x ∷ xs) = omega (arith, filter_short (λ y. not (same x y)) (once same xs), once_short xs)

  -- one that is among them is among those by first use
  pub once_any : ((a b : A) → same a b ≡ true → a ≡ b) → (t : A) (xs : List A) → list_any (λ x. same x t) xs ≡ true → list_any (λ x. same x t) (once same xs) ≡ true
  once_any equal t [] any = any
  once_any equal t (x ∷ xs) any = by (same x t) refl (once_any equal t xs)
    where
      by : (b : Bool) → same x t ≡ b → (list_any (λ y. same y t) xs ≡ true → list_any (λ y. same y t) (once same xs) ≡ true) → (same x t || list_any (λ y. same y t) (filter (λ y. not (same x y)) (once same xs))) ≡ true
      by true e more = ap (λ (c : Bool). c || list_any (λ y. same y t) (filter (λ y. not (same x y)) (once same xs))) e
      by false e more =
          let rest : list_any (λ y. same y t) xs ≡ true = ap (λ (c : Bool). c || list_any (λ y. same y t) xs) (sym e) ∙ any in
          let kept : list_any (λ y. same y t) (filter (λ y. not (same x y)) (once same xs)) ≡ list_any (λ y. same y t) (once same xs) = any-filter_same (λ y. same y t) (λ y. not (same x y)) true (λ y h. ap not (ap (same x) (equal y t h) ∙ e)) (once same xs) in
          ap (λ (c : Bool). c || list_any (λ y. same y t) (filter (λ y. not (same x y)) (once same xs))) e ∙ kept ∙ more rest
