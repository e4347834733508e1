-- What lists contain that are made element by element.
use Rattle.std.proofs.Common.{◌≡◌, ℕ, ◌+◌, ◌<◌, List, [], ◌∷◌, ◌++◌, get_or, Option, Some, None, ◌⊎◌, ◌↔◌, inl, inr, sym, subst, refl, arith}
use Rattle.std.specs.List.{All, Contains, cons_option, filter_map}
use Rattle.std.proofs.lemmas.Bool.{cases_eq}
use Rattle.std.proofs.lemmas.List.Elements.{Contains-get_or, Contains-append_cases, Contains-append_left, Contains-append_right, Contains-push, Contains-push_cases}

pub none_contained : {A : Type 0} (x : A) → Contains [] x → ⊥
none_contained x h = omega (arith, h.1)

pub one_contained : {A : Type 0} (x y : A) → Contains (x ∷ []) y → x ≡ y
one_contained x y h = elim (Contains-push_cases [] x y h) [ inl w ↦ absurd (none_contained y w) | inr e ↦ e ]

pub one_contains : {A : Type 0} (x : A) → Contains (x ∷ []) x
one_contains x = Contains-push [] x

pub first_cases : {A : Type 0} (x : A) (xs : List A) (y : A) → Contains (x ∷ xs) y → (x ≡ y) ⊎ Contains xs y
first_cases x xs y h = elim (Contains-append_cases (x ∷ []) xs y h) [ inl w ↦ inl (one_contained x y w) | inr w ↦ inr w ]

pub contained_first : {A : Type 0} (x : A) (xs : List A) → Contains (x ∷ xs) x
contained_first x xs = Contains-append_left (x ∷ []) xs x (one_contains x)

pub contained_after : {A : Type 0} (x : A) (xs : List A) (y : A) → Contains xs y → Contains (x ∷ xs) y
contained_after x xs y h = Contains-append_right (x ∷ []) xs y h

from_first : {A B : Type 0} (f : A → Option B) (x : A) (xs : List A) (y : B) → (Contains (filter_map f xs) y → (x' : A) × Contains xs x' × (f x' ≡ Some y)) → (o : Option B) → f x ≡ o → Contains (cons_option o (filter_map f xs)) y → (x' : A) × Contains (x ∷ xs) x' × (f x' ≡ Some y)
from_first f x xs y later None e w = let it = later w in (it.0, contained_after x xs it.0 it.1, it.2)
from_first {B = B} f x xs y later (Some z) e w = elim (first_cases z (filter_map f xs) y w) [
  | inl q ↦ (x, contained_first x xs, subst (λ (v : B). f x ≡ Some v) q e)
  | inr q ↦ (let it = later q in (it.0, contained_after x xs it.0 it.1, it.2))
]

-- what a filter with a map gives comes from an element
pub from_filter_map : {A B : Type 0} (f : A → Option B) (xs : List A) (y : B) → Contains (filter_map f xs) y → (x : A) × Contains xs x × (f x ≡ Some y)
from_filter_map f [] y h = absurd (none_contained y h)
from_filter_map f (x ∷ xs) y h = from_first f x xs y (from_filter_map f xs y) (f x) refl h

-- a list of numbers below one, made number by number
pub number_joins : (P : ℕ → Type 0) (xs : List ℕ) (i : ℕ) → ((k : ℕ) → Contains xs k ↔ ((k < i) × P k)) → P i → (k : ℕ) → Contains (xs ++ i ∷ []) k ↔ ((k < i + 1) × P k)
number_joins P xs i so_far here k = (
  (λ w. elim (Contains-push_cases xs i k w) [ inl q ↦ (omega (arith, ((so_far k).0 q).0), ((so_far k).0 q).1) | inr e ↦ (omega arith, subst P e here) ]),
  (λ w. elim (cases_eq k i) [ inl e ↦ subst (λ (n : ℕ). Contains (xs ++ i ∷ []) n) (sym e) (Contains-push xs i) | inr ne ↦ Contains-append_left xs (i ∷ []) k ((so_far k).1 (omega (arith, w.0), w.1)) ]),
)

pub number_stays_out : (P : ℕ → Type 0) (xs : List ℕ) (i : ℕ) → ((k : ℕ) → Contains xs k ↔ ((k < i) × P k)) → (P i → ⊥) → (k : ℕ) → Contains xs k ↔ ((k < i + 1) × P k)
number_stays_out P xs i so_far here k = (
  (λ w. (omega (arith, ((so_far k).0 w).0), ((so_far k).0 w).1)),
  (λ w. elim (cases_eq k i) [ inl e ↦ absurd (here (subst P e w.1)) | inr ne ↦ (so_far k).1 (omega (arith, w.0), w.1) ]),
)

pub all_below : (P : ℕ → Type 0) (xs : List ℕ) (n : ℕ) → ((k : ℕ) → Contains xs k ↔ P k) → ((k : ℕ) → P k → k < n) → All (λ k. k < n) xs
all_below P xs n are within i d lt = within (get_or xs i d) ((are (get_or xs i d)).0 (Contains-get_or xs i d lt))
