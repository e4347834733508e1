-- The elements of lists that are gathered from others.
use Rattle.std.proofs.Common.{◌≡◌, ◌⊎◌, inl, inr, ℕ, zero, suc, ◌+◌, ◌-◌, ◌<◌, ◌≤◌, Bool, true, false, cond, List, [], ◌∷◌, ◌++◌, length, get_or, slice_get, Option, Some, None, refl, sym, ap, subst, ◌∙◌, arith}
use Rattle.std.specs.List.{All, AllPairs, Contains, cons_option, enumerate_from, filter, filter_map, flat_map, list_any}
use Rattle.std.proofs.lemmas.Bool.{both_ways}
use Rattle.std.proofs.lemmas.List.Elements.{All-contains, All-contains_itself, All-cons, All-filter, All-head, All-nil, All-tail, Contains-append_cases, Contains-append_left, Contains-append_right, filter_passes}
use Rattle.std.proofs.lemmas.List.Folds.{list_any_at}
use Rattle.std.proofs.lemmas.List.FromFn.{get_or-enumerate_from, length-enumerate_from}
use Rattle.std.proofs.lemmas.List.Kept.{AllPairs-cons}
use Rattle.std.proofs.lemmas.Option.{get_or_from_slice_get, none-some, same_Some, slice_get-get_or, slice_get_within}
use Rattle.merged_laws.proofs.Plain.{or_cases}

-- ---- one element more

pub first_in : {A : Type 0} (x : A) (xs : List A) → Contains (x ∷ xs) x
first_in x xs = (0, omega arith, refl)

pub later_in : {A : Type 0} (x : A) (xs : List A) (y : A) → Contains xs y → Contains (x ∷ xs) y
later_in x xs y h = Contains-append_right (x ∷ []) xs y h

pub only_in : {A : Type 0} (x y : A) → Contains (x ∷ []) y → x ≡ y
only_in {A} x y w = go w.0 w.1 w.2
  where
    go : (i : ℕ) → i < length (x ∷ []) → get_or (x ∷ []) i y ≡ y → x ≡ y
    go zero lt e = e
    go (suc i) lt e = absurd (omega (arith, lt))

pub in_cases : {A : Type 0} (x : A) (xs : List A) (y : A) → Contains (x ∷ xs) y → (x ≡ y) ⊎ Contains xs y
in_cases x xs y h = elim (Contains-append_cases (x ∷ []) xs y h) [ inl here ↦ inl (only_in x y here) | inr later ↦ inr later ]

pub none_in : {A : Type 0} (y : A) → Contains [] y → ⊥
none_in y w = omega (arith, w.1)

pub in_at : {A : Type 0} (xs : List A) (i : ℕ) (x : A) → slice_get xs i ≡ Some x → Contains xs x
in_at xs i x at = (i, slice_get_within xs i x at, get_or_from_slice_get xs i x x at)

-- ---- gathered lists

pub in_filter : {A : Type 0} (p : A → Bool) (xs : List A) (y : A) → Contains xs y → p y ≡ true → Contains (filter p xs) y
in_filter p [] y h is = absurd (none_in y h)
in_filter {A} p (x ∷ xs) y h is = elim (in_cases x xs y h) [
  | inl here ↦ own (p x) refl here
  | inr later ↦ behind (p x) (in_filter p xs y later is)
]
  where
    own : (b : Bool) → p x ≡ b → x ≡ y → Contains (cond b (x ∷ filter p xs) (filter p xs)) y
    own true t same = subst (Contains (x ∷ filter p xs)) same (first_in x (filter p xs))
    own false f same = absurd (both_ways _ f (ap p same ∙ is))

    behind : (b : Bool) → Contains (filter p xs) y → Contains (cond b (x ∷ filter p xs) (filter p xs)) y
    behind true later = later_in x (filter p xs) y later
    behind false later = later

pub from_filter : {A : Type 0} (p : A → Bool) (xs : List A) (y : A) → Contains (filter p xs) y → Contains xs y × (p y ≡ true)
from_filter p xs y h = (All-contains (Contains xs) (filter p xs) y (All-filter p (Contains xs) xs (All-contains_itself xs)) h, All-contains (λ x. p x ≡ true) (filter p xs) y (filter_passes p xs) h)

pub in_flat_map : {A B : Type 0} (f : A → List B) (xs : List A) (x : A) (y : B) → Contains xs x → Contains (f x) y → Contains (flat_map f xs) y
in_flat_map f [] x y h there = absurd (none_in x h)
in_flat_map f (z ∷ xs) x y h there = elim (in_cases z xs x h) [
  | inl here ↦ Contains-append_left (f z) (flat_map f xs) y (subst (λ w. Contains (f w) y) (sym here) there)
  | inr later ↦ Contains-append_right (f z) (flat_map f xs) y (in_flat_map f xs x y later there)
]

pub from_flat_map : {A B : Type 0} (f : A → List B) (xs : List A) (y : B) → Contains (flat_map f xs) y → (x : A) × Contains xs x × Contains (f x) y
from_flat_map f [] y h = absurd (none_in y h)
from_flat_map f (x ∷ xs) y h = elim (Contains-append_cases (f x) (flat_map f xs) y h) [
  | inl here ↦ (x, first_in x xs, here)
  | inr later ↦ (let w = from_flat_map f xs y later in (w.0, later_in x xs w.0 w.1, w.2))
]

in_option : {B : Type 0} (o : Option B) (ys : List B) (y : B) → Contains ys y → Contains (cons_option o ys) y
in_option None ys y h = h
in_option (Some z) ys y h = later_in z ys y h

own_option : {B : Type 0} (o : Option B) (ys : List B) (y : B) → o ≡ Some y → Contains (cons_option o ys) y
own_option None ys y is = absurd (none-some y is)
own_option (Some z) ys y is = subst (Contains (z ∷ ys)) (same_Some z y is) (first_in z ys)

pub in_filter_map : {A B : Type 0} (f : A → Option B) (xs : List A) (x : A) (y : B) → Contains xs x → f x ≡ Some y → Contains (filter_map f xs) y
in_filter_map f [] x y h is = absurd (none_in x h)
in_filter_map f (z ∷ xs) x y h is = elim (in_cases z xs x h) [
  | inl here ↦ own_option (f z) (filter_map f xs) y (ap f here ∙ is)
  | inr later ↦ in_option (f z) (filter_map f xs) y (in_filter_map f xs x y later is)
]

pub in_numbered : {A : Type 0} (n : ℕ) (xs : List A) (i : ℕ) (x : A) → slice_get xs i ≡ Some x → Contains (enumerate_from n xs) (n + i, x)
in_numbered n xs i x at =
    let within = slice_get_within xs i x at in
    (i, omega (arith, within, length-enumerate_from n xs), get_or-enumerate_from n xs i (n + i, x) within ∙ ap (λ y. (n + i, y)) (get_or_from_slice_get xs i x x at))

pub all_numbered : {A : Type 0} (n : ℕ) (xs : List A) → All (λ e. (n ≤ e.0) × (slice_get xs (e.0 - n) ≡ Some e.1)) (enumerate_from n xs)
all_numbered {A} n xs i d lt =
    let within : i < length xs = omega (arith, lt, length-enumerate_from n xs) in
    let P : ℕ × A → Type 0 = λ e. (n ≤ e.0) × (slice_get xs (e.0 - n) ≡ Some e.1) in
    let place : i ≡ n + i - n = omega arith in
    subst P (sym (get_or-enumerate_from n xs i d within)) (omega arith, ap (slice_get xs) (sym place) ∙ slice_get-get_or xs i d.1 within)

pub any_in : {A : Type 0} (test : A → Bool) (xs : List A) → list_any test xs ≡ true → (x : A) × Contains xs x × (test x ≡ true)
any_in test [] is = absurd (both_ways _ refl is)
any_in test (x ∷ xs) is = elim (or_cases (test x) (list_any test xs) is) [
  | inl here ↦ (x, first_in x xs, here)
  | inr later ↦ (let w = any_in test xs later in (w.0, later_in x xs w.0 w.1, w.2))
]

pub any_from : {A : Type 0} (test : A → Bool) (xs : List A) (x : A) → Contains xs x → test x ≡ true → list_any test xs ≡ true
any_from test xs x w is = list_any_at test xs w.0 x w.1 (ap test w.2 ∙ is)

-- ---- elements that are all apart

module _ {A : Type 0} (R : A → A → Type 0) where
  abbrev pub Apart : List A → Type 0
  Apart [] = Unit {0}
  Apart (x ∷ xs) = All (R x) xs × Apart xs

  pub apart_from_pairs : (xs : List A) → AllPairs R xs → Apart xs
  apart_from_pairs [] h = tt
  apart_from_pairs (x ∷ xs) h = (λ j d lt. h 0 (suc j) d (omega arith) (omega (arith, lt)), apart_from_pairs xs (λ i j d lt within. h (suc i) (suc j) d (omega (arith, lt)) (omega (arith, within))))

  pub pairs_from_apart : (xs : List A) → Apart xs → AllPairs R xs
  pairs_from_apart [] h = λ i j d lt within. absurd (omega (arith, within))
  pairs_from_apart (x ∷ xs) h = AllPairs-cons R x xs h.0 (pairs_from_apart xs h.1)

  all_append : (P : A → Type 0) (xs ys : List A) → All P xs → All P ys → All P (xs ++ ys)
  all_append P [] ys h k = k
  all_append P (x ∷ xs) ys h k = All-cons P x (xs ++ ys) (All-head P x xs h) (all_append P xs ys (All-tail P x xs h) k)

  pub apart_append : (xs ys : List A) → Apart xs → Apart ys → All (λ x. All (R x) ys) xs → Apart (xs ++ ys)
  apart_append [] ys h k between = k
  apart_append (x ∷ xs) ys h k between = (all_append (R x) xs ys h.0 (All-head (λ x. All (R x) ys) x xs between), apart_append xs ys h.1 k (All-tail (λ x. All (R x) ys) x xs between))

  -- what stands before an element is apart from it
  pub apart_before : (xs : List A) (y : A) (zs : List A) → Apart (xs ++ y ∷ zs) → All (λ x. R x y) xs
  apart_before [] y zs h = All-nil (λ x. R x y)
  apart_before (x ∷ xs) y zs h = All-cons (λ x. R x y) x xs (at_seam xs h.0) (apart_before xs y zs h.1)
    where
      at_seam : (xs : List A) → All (R x) (xs ++ y ∷ zs) → R x y
      at_seam [] h = All-head (R x) y zs h
      at_seam (z ∷ xs) h = at_seam xs (All-tail (R x) z (xs ++ y ∷ zs) h)
