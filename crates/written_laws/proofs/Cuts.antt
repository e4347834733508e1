-- One item's part among the parts of a list: what stands before it, and how long that is.
use Rattle.std.proofs.Common.{◌≡◌, ◌≤◌, ◌+◌, ◌++◌, ◌||◌, ℕ, zero, suc, Bool, true, false, List, [], ◌∷◌, length, map, take, slice_get, Some, refl, sym, ap, ap₂, ◌∙◌, append_assoc, length-append, arith}
use Rattle.std.specs.List.{enumerate_from, flat_map, list_any, sum_by}
use Rattle.std.proofs.lemmas.List.Folds.{list_any-append}
use Rattle.std.proofs.lemmas.List.Sums.{sum_by-cons}
use Rattle.std.proofs.lemmas.Option.{same_Some, slice_get_within}

-- ---- items with their numbers

pub numbered_at : {X : Type 0} (k : ℕ) (xs : List X) (i : ℕ) (x : X) → slice_get xs i ≡ Some x → slice_get (enumerate_from k xs) i ≡ Some (k + i, x)
numbered_at k [] i x at = absurd (omega (arith, slice_get_within [] i x at))
numbered_at {X} k (y ∷ xs) zero x at =
    let here : k ≡ k + zero = omega arith in
    ap₂ (λ (j : ℕ) (z : X). Some (j, z)) here (same_Some y x at)
numbered_at {X} k (y ∷ xs) (suc i) x at =
    let next : k + 1 + i ≡ k + suc i = omega arith in
    numbered_at (k + 1) xs i x at ∙ ap (λ (j : ℕ). Some (j, x)) next

pub numbered_first : {X : Type 0} (xs : List X) (i : ℕ) (x : X) → slice_get xs i ≡ Some x → slice_get (enumerate_from 0 xs) i ≡ Some (i, x)
numbered_first xs i x at = let index : 0 + i ≡ i = omega arith in numbered_at 0 xs i x at ∙ ap (λ (j : ℕ). Some (j, x)) index

pub without_numbers : {X : Type 0} (part : X → List ℕ) (k : ℕ) (xs : List X) → flat_map part xs ≡ flat_map (λ n. part n.1) (enumerate_from k xs)
without_numbers part k [] = refl
without_numbers part k (x ∷ xs) = ap (λ (b : List ℕ). part x ++ b) (without_numbers part (k + 1) xs)

-- ---- parts

module _ {X : Type 0} (part : X → List ℕ) (len : X → ℕ) (each : (x : X) → length (part x) ≡ len x) where
  pub record Cut (xs : List X) (i : ℕ) (x : X) : Type 0 where
    pub front : List ℕ
    pub more : List ℕ
    pub is : flat_map part xs ≡ front ++ (part x ++ more)
    pub there : length front ≡ sum_by len (take i xs)

  pub cut : (xs : List X) (i : ℕ) (x : X) → slice_get xs i ≡ Some x → Cut xs i x
  cut [] i x at = absurd (omega (arith, slice_get_within [] i x at))
  cut (y ∷ xs) zero x at = record { front = []; more = flat_map part xs; is = ap (λ (z : X). part z ++ flat_map part xs) (same_Some y x at); there = refl }
  cut (y ∷ xs) (suc i) x at =
      let r = cut xs i x at in
      record {
        front = part y ++ r.front;
        more = r.more;
        is = ap (λ (b : List ℕ). part y ++ b) r.is ∙ sym (append_assoc (part y) r.front (part x ++ r.more));
        there = omega (arith, length-append (part y) r.front, r.there, each y, sum_by-cons len y (take i xs));
      }

  -- it ends within all of them
  pub ends_within : (xs : List X) (i : ℕ) (x : X) → slice_get xs i ≡ Some x → sum_by len (take i xs) + len x ≤ length (flat_map part xs)
  ends_within xs i x at =
      let c = cut xs i x at in
      omega (arith, ap length c.is, length-append c.front (part x ++ c.more), length-append (part x) c.more, c.there, each x)

-- ---- tests

pub or_right : (a b : Bool) → b ≡ true → (a || b) ≡ true
or_right true b e = refl
or_right false b e = e

pub or_left : (a b : Bool) → a ≡ true → (a || b) ≡ true
or_left a b e = ap (λ (c : Bool). c || b) e

pub any_front : {X : Type 0} (p : X → Bool) (xs ys : List X) → list_any p xs ≡ true → list_any p (xs ++ ys) ≡ true
any_front p xs ys e = list_any-append p xs ys ∙ or_left (list_any p xs) (list_any p ys) e

pub any_back : {X : Type 0} (p : X → Bool) (xs ys : List X) → list_any p ys ≡ true → list_any p (xs ++ ys) ≡ true
any_back p xs ys e = list_any-append p xs ys ∙ or_right (list_any p xs) (list_any p ys) e

pub any_rest : {X : Type 0} (p : X → Bool) (x : X) (xs : List X) → list_any p xs ≡ true → list_any p (x ∷ xs) ≡ true
any_rest p x xs e = or_right (p x) (list_any p xs) e

-- what one item gives is among what all give
pub any_flat : {X Y : Type 0} (p : Y → Bool) (f : X → List Y) (xs : List X) (i : ℕ) (x : X) → slice_get xs i ≡ Some x → list_any p (f x) ≡ true → list_any p (flat_map f xs) ≡ true
any_flat p f [] i x at e = absurd (omega (arith, slice_get_within [] i x at))
any_flat {X} p f (y ∷ xs) zero x at e = any_front p (f y) (flat_map f xs) (ap (λ (z : X). list_any p (f z)) (same_Some y x at) ∙ e)
any_flat p f (y ∷ xs) (suc i) x at e = any_back p (f y) (flat_map f xs) (any_flat p f xs i x at e)

pub any_at : {X : Type 0} (p : X → Bool) (xs : List X) (i : ℕ) (x : X) → slice_get xs i ≡ Some x → p x ≡ true → list_any p xs ≡ true
any_at p [] i x at e = absurd (omega (arith, slice_get_within [] i x at))
any_at p (y ∷ xs) zero x at e = or_left (p y) (list_any p xs) (ap p (same_Some y x at) ∙ e)
any_at p (y ∷ xs) (suc i) x at e = or_right (p y) (list_any p xs) (any_at p xs i x at e)

pub map_at : {X Y : Type 0} (f : X → Y) (xs : List X) (i : ℕ) (x : X) → slice_get xs i ≡ Some x → slice_get (map f xs) i ≡ Some (f x)
map_at f [] i x at = absurd (omega (arith, slice_get_within [] i x at))
map_at {X} f (y ∷ xs) zero x at = ap (λ (z : X). Some (f z)) (same_Some y x at)
map_at f (y ∷ xs) (suc i) x at = map_at f xs i x at
