-- Facts of all items of a list that was gathered from others, and the items that a gathering kept.
use Rattle.std.proofs.Common.{◌≡◌, ℕ, zero, suc, true, List, [], ◌∷◌, ◌++◌, slice_get, Option, Some, None, refl, subst, ◌∙◌}
use Rattle.std.specs.List.{All, cons_option, filter_map, flat_map}
use Rattle.std.specs.Option.{is_some, option_and_then}
use Rattle.std.proofs.lemmas.List.Elements.{All-cons, All-head, All-nil, All-tail}

pub all_left : {A : Type 0} (P : A → Type 0) (xs ys : List A) → All P (xs ++ ys) → All P xs
all_left P [] ys h = All-nil P
all_left P (x ∷ xs) ys h = All-cons P x xs (All-head P x (xs ++ ys) h) (all_left P xs ys (All-tail P x (xs ++ ys) h))

pub all_right : {A : Type 0} (P : A → Type 0) (xs ys : List A) → All P (xs ++ ys) → All P ys
all_right P [] ys h = h
all_right P (x ∷ xs) ys h = all_right P xs ys (All-tail P x (xs ++ ys) h)

-- what holds of all that is gathered holds of what each item gives
pub all_of_each : {A B : Type 0} (P : B → Type 0) (f : A → List B) (xs : List A) → All P (flat_map f xs) → All (λ x. All P (f x)) xs
all_of_each P f [] h = All-nil (λ x. All P (f x))
all_of_each P f (x ∷ xs) h = All-cons (λ y. All P (f y)) x xs (all_left P (f x) (flat_map f xs) h) (all_of_each P f xs (all_right P (f x) (flat_map f xs) h))

kept_head : {B : Type 0} (P : B → Type 0) (o : Option B) (ys : List B) → All P (cons_option o ys) → (y : B) → o ≡ Some y → P y
kept_head P None ys h y e = absurd cc
kept_head P (Some x) ys h y e = subst P (let same : x ≡ y = cc in same) (All-head P x ys h)

kept_tail : {B : Type 0} (P : B → Type 0) (o : Option B) (ys : List B) → All P (cons_option o ys) → All P ys
kept_tail P None ys h = h
kept_tail P (Some x) ys h = All-tail P x ys h

pub all_of_kept : {A B : Type 0} (P : B → Type 0) (f : A → Option B) (xs : List A) → All P (filter_map f xs) → All (λ x. (y : B) → f x ≡ Some y → P y) xs
all_of_kept P f [] h = All-nil (λ x. (y : _) → f x ≡ Some y → P y)
all_of_kept P f (x ∷ xs) h =
    All-cons (λ z. (y : _) → f z ≡ Some y → P y) x xs (kept_head P (f x) (filter_map f xs) h) (all_of_kept P f xs (kept_tail P (f x) (filter_map f xs) h))

some_first : {A B : Type 0} (f : A → Option B) (x : A) (xs : List A) (o : Option B) (j : ℕ) → is_some o ≡ true
    → slice_get (cons_option o (filter_map f xs)) (suc j) ≡ slice_get (filter_map f xs) j
some_first f x xs None j e = absurd cc
some_first f x xs (Some y) j e = refl

some_here : {B : Type 0} (o : Option B) (ys : List B) → is_some o ≡ true → slice_get (cons_option o ys) 0 ≡ o
some_here None ys e = absurd cc
some_here (Some y) ys e = refl

-- where all items give something, each stands at the place of what gave it
pub kept_at : {A B : Type 0} (f : A → Option B) (xs : List A) (j : ℕ) → All (λ x. is_some (f x) ≡ true) xs → slice_get (filter_map f xs) j ≡ option_and_then f (slice_get xs j)
kept_at f [] j h = refl
kept_at f (x ∷ xs) zero h = some_here (f x) (filter_map f xs) (All-head (λ y. is_some (f y) ≡ true) x xs h)
kept_at f (x ∷ xs) (suc j) h =
    some_first f x xs (f x) j (All-head (λ y. is_some (f y) ≡ true) x xs h) ∙ kept_at f xs j (All-tail (λ y. is_some (f y) ≡ true) x xs h)
