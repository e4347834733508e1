-- What is gathered from a list that gives something at each element.
use Rattle.std.proofs.Common.{◌≡◌, ℕ, zero, suc, true, List, [], ◌∷◌, length, slice_get, Option, Some, None, is_some, refl, sym, arith}
use Rattle.std.specs.List.{All, cons_option, filter_map}
use Rattle.std.specs.Option.{option_and_then}
use Rattle.std.proofs.lemmas.List.Elements.{All-head, All-tail}

at_more : {A B : Type 0} (f : A → Option B) (x : A) (xs : List A) (n : ℕ) (o : Option B) → f x ≡ o → is_some o ≡ true → ((m : ℕ) → slice_get (filter_map f xs) m ≡ option_and_then f (slice_get xs m))
    → slice_get (cons_option o (filter_map f xs)) n ≡ option_and_then f (slice_get (x ∷ xs) n)
at_more f x xs n None e some rest = absurd cc
at_more f x xs zero (Some y) e some rest = sym e
at_more f x xs (suc n) (Some y) e some rest = rest n

pub filter_map_at : {A B : Type 0} (f : A → Option B) (xs : List A) → All (λ x. is_some (f x) ≡ true) xs → (n : ℕ) → slice_get (filter_map f xs) n ≡ option_and_then f (slice_get xs n)
filter_map_at f [] each n = refl
filter_map_at f (x ∷ xs) each n = at_more f x xs n (f x) refl (All-head (λ x. is_some (f x) ≡ true) x xs each) (filter_map_at f xs (All-tail (λ x. is_some (f x) ≡ true) x xs each))

as_long : {A B : Type 0} (f : A → Option B) (xs : List A) (o : Option B) → is_some o ≡ true → length (filter_map f xs) ≡ length xs → length (cons_option o (filter_map f xs)) ≡ suc (length xs)
as_long f xs None some rest = absurd cc
as_long f xs (Some y) some rest = omega (arith, rest)

pub filter_map_long : {A B : Type 0} (f : A → Option B) (xs : List A) → All (λ x. is_some (f x) ≡ true) xs → length (filter_map f xs) ≡ length xs
filter_map_long f [] each = refl
filter_map_long f (x ∷ xs) each = as_long f xs (f x) (All-head (λ x. is_some (f x) ≡ true) x xs each) (filter_map_long f xs (All-tail (λ x. is_some (f x) ≡ true) x xs each))
