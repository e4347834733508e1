-- Lists whose elements differ or rise in a number: a rising list is the only one with its elements.
use Rattle.std.proofs.Common.{◌≡◌, ◌⊎◌, inl, inr, ℕ, zero, suc, ◌+◌, ◌<◌, ◌≤◌, ◌||◌, Bool, true, false, cond, eqb, List, [], ◌∷◌, ◌++◌, length, map, take, drop, Some, slice_get, refl, sym, ap, ◌∙◌, arith}
use Rattle.std.specs.Bool.{⊤}
use Rattle.std.specs.Cmp.{IsEquivalence}
use Rattle.std.specs.List.{AllByRecursion, IsDistinct, filter, flat_map, list_any}
use Rattle.std.proofs.lemmas.Bool.{both_ways, cases_Bool, eq-eqb, eqb-true, ne_eqb}
use Rattle.std.proofs.lemmas.Map.Made.{length-le_from_is_member}
use Rattle.std.proofs.lemmas.Option.{none-some, same_Some}
pub use Rattle.link_graph.specs.Rising.{Has, Rises}

-- ---- elements

pub has_at : {A : Type 0} (xs : List A) (i : ℕ) (x : A) → slice_get xs i ≡ Some x → Has xs x
has_at [] i x at = absurd (none-some x at)
has_at (y ∷ xs) zero x at = inl (same_Some y x at)
has_at (y ∷ xs) (suc i) x at = inr (has_at xs i x at)

pub place_of : {A : Type 0} (xs : List A) (x : A) → Has xs x → (i : ℕ) × (slice_get xs i ≡ Some x)
place_of [] x has = absurd has
place_of {A} (y ∷ xs) x has = go has (place_of xs x) where
  go : (y ≡ x) ⊎ Has xs x → (Has xs x → (i : ℕ) × (slice_get xs i ≡ Some x)) → (i : ℕ) × (slice_get (y ∷ xs) i ≡ Some x)
  go (inl e) rest = (zero, ap (λ (v : A). Some v) e)
  go (inr h) rest = (suc (rest h).0, (rest h).1)

pub none_has : {A : Type 0} (xs : List A) → ((x : A) → Has xs x → ⊥) → xs ≡ []
none_has [] none = refl
none_has (x ∷ xs) none = absurd (none x (inl refl))

pub has_left : {A : Type 0} (xs ys : List A) (x : A) → Has xs x → Has (xs ++ ys) x
has_left [] ys x has = absurd has
has_left {A} (y ∷ xs) ys x has = go has (has_left xs ys x) where
  go : (y ≡ x) ⊎ Has xs x → (Has xs x → Has (xs ++ ys) x) → (y ≡ x) ⊎ Has (xs ++ ys) x
  go (inl e) rest = inl e
  go (inr h) rest = inr (rest h)

pub has_right : {A : Type 0} (xs ys : List A) (x : A) → Has ys x → Has (xs ++ ys) x
has_right [] ys x has = has
has_right (y ∷ xs) ys x has = inr (has_right xs ys x has)

pub has_either : {A : Type 0} (xs ys : List A) (x : A) → Has (xs ++ ys) x → Has xs x ⊎ Has ys x
has_either [] ys x has = inr has
has_either {A} (y ∷ xs) ys x has = go has (has_either xs ys x) where
  go : (y ≡ x) ⊎ Has (xs ++ ys) x → (Has (xs ++ ys) x → Has xs x ⊎ Has ys x) → ((y ≡ x) ⊎ Has xs x) ⊎ Has ys x
  go (inl e) rest = inl (inl e)
  go (inr h) rest = elim (rest h) [ inl front ↦ inl (inr front) | inr back ↦ inr back ]

pub has_map : {A B : Type 0} (f : A → B) (xs : List A) (x : A) → Has xs x → Has (map f xs) (f x)
has_map f [] x has = absurd has
has_map {A} {B} f (y ∷ xs) x has = go has (has_map f xs x) where
  go : (y ≡ x) ⊎ Has xs x → (Has xs x → Has (map f xs) (f x)) → (f y ≡ f x) ⊎ Has (map f xs) (f x)
  go (inl e) rest = inl (ap f e)
  go (inr h) rest = inr (rest h)

pub from_map : {A B : Type 0} (f : A → B) (xs : List A) (z : B) → Has (map f xs) z → (x : A) × Has xs x × (f x ≡ z)
from_map f [] z has = absurd has
from_map {A} {B} f (y ∷ xs) z has = go has (from_map f xs z) where
  go : (f y ≡ z) ⊎ Has (map f xs) z → (Has (map f xs) z → (x : A) × Has xs x × (f x ≡ z)) → (x : A) × ((y ≡ x) ⊎ Has xs x) × (f x ≡ z)
  go (inl e) rest = (y, inl refl, e)
  go (inr h) rest = ((rest h).0, inr (rest h).1, (rest h).2)

pub has_filter : {A : Type 0} (p : A → Bool) (xs : List A) (x : A) → Has xs x → p x ≡ true → Has (filter p xs) x
has_filter p [] x has passes = absurd has
has_filter {A} p (y ∷ xs) x has passes = go has (p y) refl (has_filter p xs x) where
  go : (y ≡ x) ⊎ Has xs x → (b : Bool) → p y ≡ b → (Has xs x → p x ≡ true → Has (filter p xs) x) → Has (cond b (y ∷ filter p xs) (filter p xs)) x
  go (inl e) true is rest = inl e
  go (inr h) true is rest = inr (rest h passes)
  go (inl e) false is rest = absurd (both_ways _ is (ap p e ∙ passes))
  go (inr h) false is rest = rest h passes

pub from_filter : {A : Type 0} (p : A → Bool) (xs : List A) (x : A) → Has (filter p xs) x → Has xs x × (p x ≡ true)
from_filter p [] x has = absurd has
from_filter {A} p (y ∷ xs) x has = go (p y) refl has (from_filter p xs x) where
  go : (b : Bool) → p y ≡ b → Has (cond b (y ∷ filter p xs) (filter p xs)) x → (Has (filter p xs) x → Has xs x × (p x ≡ true)) → ((y ≡ x) ⊎ Has xs x) × (p x ≡ true)
  go true is (inl e) rest = (inl e, sym (ap p e) ∙ is)
  go true is (inr h) rest = (inr (rest h).0, (rest h).1)
  go false is h rest = (inr (rest h).0, (rest h).1)

pub from_flat_map : {A B : Type 0} (f : A → List B) (xs : List A) (z : B) → Has (flat_map f xs) z → (x : A) × Has xs x × Has (f x) z
from_flat_map f [] z has = absurd has
from_flat_map {A} {B} f (y ∷ xs) z has = go (has_either (f y) (flat_map f xs) z has) (from_flat_map f xs z) where
  go : Has (f y) z ⊎ Has (flat_map f xs) z → (Has (flat_map f xs) z → (x : A) × Has xs x × Has (f x) z) → (x : A) × ((y ≡ x) ⊎ Has xs x) × Has (f x) z
  go (inl h) rest = (y, inl refl, h)
  go (inr h) rest = ((rest h).0, inr (rest h).1, (rest h).2)

pub flat_map_same : {A B : Type 0} (f g : A → List B) (xs : List A) → ((x : A) → Has xs x → f x ≡ g x) → flat_map f xs ≡ flat_map g xs
flat_map_same f g [] same = refl
flat_map_same {A} {B} f g (x ∷ xs) same =
    let here = same x (inl refl) in
    let rest = flat_map_same f g xs (λ y h. same y (inr h)) in
    (λ i. here i ++ rest i)

pub flat_map_of_map : {A B C : Type 0} (f : A → B) (g : B → List C) (xs : List A) → flat_map g (map f xs) ≡ flat_map (λ x. g (f x)) xs
flat_map_of_map f g [] = refl
flat_map_of_map {A} {B} {C} f g (x ∷ xs) = ap (λ (more : List C). g (f x) ++ more) (flat_map_of_map f g xs)

-- ---- part of a list

pub has_part : {A : Type 0} (s n k : ℕ) (xs : List A) (x : A) → slice_get xs k ≡ Some x → s ≤ k → k < s + n → Has (take n (drop s xs)) x
has_part s n k [] x at from below = absurd (none-some x at)
has_part zero zero k (y ∷ xs) x at from below = absurd (omega arith)
has_part zero (suc n) zero (y ∷ xs) x at from below = inl (same_Some y x at)
has_part zero (suc n) (suc k) (y ∷ xs) x at from below = inr (has_part zero n k xs x at (omega arith) (omega arith))
has_part (suc s) n zero (y ∷ xs) x at from below = absurd (omega arith)
has_part (suc s) n (suc k) (y ∷ xs) x at from below = has_part s n k xs x at (omega arith) (omega arith)

pub part_at : {A : Type 0} (s n i : ℕ) (xs : List A) (x : A) → slice_get (take n (drop s xs)) i ≡ Some x → (i < n) × (slice_get xs (s + i) ≡ Some x)
part_at zero zero i [] x at = absurd (none-some x at)
part_at zero (suc n) i [] x at = absurd (none-some x at)
part_at (suc s) zero i [] x at = absurd (none-some x at)
part_at (suc s) (suc n) i [] x at = absurd (none-some x at)
part_at zero zero i (y ∷ xs) x at = absurd (none-some x at)
part_at zero (suc n) zero (y ∷ xs) x at = (omega arith, at)
part_at {A} zero (suc n) (suc i) (y ∷ xs) x at =
    let rest = part_at zero n i xs x at in
    let here : suc i ≡ 0 + suc i = omega arith in
    let there : 0 + i ≡ i = omega arith in
    (omega (arith, rest.0), ap (slice_get (y ∷ xs)) (sym here) ∙ ap (slice_get xs) (sym there) ∙ rest.1)
part_at {A} (suc s) n i (y ∷ xs) x at =
    let rest = part_at s n i xs x at in
    let here : suc s + i ≡ suc (s + i) = omega arith in
    (rest.0, ap (slice_get (y ∷ xs)) here ∙ rest.1)

-- ---- lists that rise

pub rises_from : {A : Type 0} (f : A → ℕ) (xs : List A) → ((i j : ℕ) (a b : A) → i < j → slice_get xs i ≡ Some a → slice_get xs j ≡ Some b → f a < f b) → Rises f xs
rises_from f [] up = tt
rises_from f (x ∷ xs) up =
    ((λ y has. up zero (suc (place_of xs y has).0) x y (omega arith) refl (place_of xs y has).1), rises_from f xs (λ i j a b lt at_i at_j. up (suc i) (suc j) a b (omega arith) at_i at_j))

pub rises_map : {A B : Type 0} (f : B → ℕ) (g : A → B) (h : A → ℕ) (xs : List A) → ((x : A) → Has xs x → h x ≡ f (g x)) → Rises h xs → Rises f (map g xs)
rises_map f g h [] same up = tt
rises_map f g h (x ∷ xs) same up =
    ((λ y has. (let from = from_map g xs y has in omega (arith, same x (inl refl), same from.0 (inr from.1), ap f from.2, up.0 from.0 from.1))), rises_map f g h xs (λ y has. same y (inr has)) up.1)

pub rises_append : {A : Type 0} (f : A → ℕ) (xs ys : List A) → Rises f xs → Rises f ys → ((x y : A) → Has xs x → Has ys y → f x < f y) → Rises f (xs ++ ys)
rises_append f [] ys up more between = more
rises_append f (x ∷ xs) ys up more between =
    ((λ y has. elim (has_either xs ys y has) [ inl front ↦ up.0 y front | inr back ↦ between x y (inl refl) back ]), rises_append f xs ys up.1 more (λ v w front back. between v w (inr front) back))

pub only_rising : {A : Type 0} (f : A → ℕ) (xs ys : List A) → Rises f xs → Rises f ys → ((z : A) → Has xs z → Has ys z) → ((z : A) → Has ys z → Has xs z) → xs ≡ ys
only_rising f [] [] up_x up_y into from = refl
only_rising f [] (y ∷ ys) up_x up_y into from = absurd (from y (inl refl))
only_rising f (x ∷ xs) [] up_x up_y into from = absurd (into x (inl refl))
only_rising {A} f (x ∷ xs) (y ∷ ys) up_x up_y into from =
    let first = heads (into x (inl refl)) (from y (inl refl)) in
    let rest = only_rising f xs ys up_x.1 up_y.1 (λ z has. in_rest z first has (into z (inr has))) (λ z has. from_rest z first has (from z (inr has))) in
    (λ i. first i ∷ rest i)
  where
    heads : (y ≡ x) ⊎ Has ys x → (x ≡ y) ⊎ Has xs y → x ≡ y
    heads (inl e) h = sym e
    heads (inr h) (inl e) = e
    heads (inr h) (inr g) = absurd (omega (arith, up_y.0 x h, up_x.0 y g))

    in_rest : (z : A) → x ≡ y → Has xs z → (y ≡ z) ⊎ Has ys z → Has ys z
    in_rest z first has (inr h) = h
    in_rest z first has (inl e) = absurd (omega (arith, up_x.0 z has, ap f first, ap f e))

    from_rest : (z : A) → x ≡ y → Has ys z → (x ≡ z) ⊎ Has xs z → Has xs z
    from_rest z first has (inr h) = h
    from_rest z first has (inl e) = absurd (omega (arith, up_y.0 z has, ap f first, ap f e))

-- ---- lists whose elements differ

abbrev pub Differ : {A : Type 0} → (A → ℕ) → List A → Type 0
Differ f [] = ⊤
Differ {A} f (x ∷ xs) = ((y : A) → Has xs y → f x ≡ f y → ⊥) × Differ f xs

pub differ_from : {A : Type 0} (f : A → ℕ) (xs : List A) → ((i j : ℕ) (a b : A) → slice_get xs i ≡ Some a → slice_get xs j ≡ Some b → f a ≡ f b → i ≡ j) → Differ f xs
differ_from f [] apart = tt
differ_from f (x ∷ xs) apart = (
  (λ y has same. (let e = apart zero (suc (place_of xs y has).0) x y refl (place_of xs y has).1 same in absurd (omega (arith, e)))),
  differ_from f xs (λ i j a b at_i at_j same. (let e = apart (suc i) (suc j) a b at_i at_j same in omega (arith, e))),
)

pub differ_filter : {A : Type 0} (f : A → ℕ) (p : A → Bool) (xs : List A) → Differ f xs → Differ f (filter p xs)
differ_filter f p [] apart = tt
differ_filter {A} f p (x ∷ xs) apart = go (p x) (differ_filter f p xs apart.1) where
  go : (b : Bool) → Differ f (filter p xs) → Differ f (cond b (x ∷ filter p xs) (filter p xs))
  go true rest = ((λ y has. apart.0 y (from_filter p xs y has).0), rest)
  go false rest = rest

pub differ_append : {A : Type 0} (f : A → ℕ) (xs ys : List A) → Differ f xs → Differ f ys → ((x y : A) → Has xs x → Has ys y → f x ≡ f y → ⊥) → Differ f (xs ++ ys)
differ_append f [] ys apart more between = more
differ_append f (x ∷ xs) ys apart more between =
    ((λ y has. elim (has_either xs ys y has) [ inl front ↦ apart.0 y front | inr back ↦ between x y (inl refl) back ]), differ_append f xs ys apart.1 more (λ v w front back. between v w (inr front) back))

-- one that differs from others is the only one of its number
pub differ_one : {A : Type 0} (f : A → ℕ) (xs : List A) (x y : A) → Differ f xs → Has xs x → Has xs y → f x ≡ f y → x ≡ y
differ_one f [] x y apart in_x in_y same = absurd in_x
differ_one {A} f (v ∷ xs) x y apart in_x in_y same = go in_x in_y (differ_one f xs x y apart.1) where
  go : (v ≡ x) ⊎ Has xs x → (v ≡ y) ⊎ Has xs y → (Has xs x → Has xs y → f x ≡ f y → x ≡ y) → x ≡ y
  go (inl a) (inl b) rest = sym a ∙ b
  go (inl a) (inr b) rest = absurd (apart.0 y b (ap f a ∙ same))
  go (inr a) (inl b) rest = absurd (apart.0 x a (ap f b ∙ sym same))
  go (inr a) (inr b) rest = rest a b same

-- ---- as many as can differ

same_number : {A : Type 0} → (A → ℕ) → A → A → Bool
same_number f x y = eqb (f x) (f y)

same_numbers : {A : Type 0} (f : A → ℕ) → IsEquivalence (same_number f)
unfolding same_number
same_numbers f = record {
  refl = λ x. eq-eqb (f x) (f x) refl;
  symm = λ x y. turned (f x) (f y);
  congr = λ x y z is. ap (λ (n : ℕ). eqb n (f z)) (eqb-true (f x) (f y) is);
} where
  turned : (m n : ℕ) → eqb m n ≡ eqb n m
  turned m n = elim (cases_Bool (eqb m n)) [
    | inl same ↦ same ∙ sym (eq-eqb n m (sym (eqb-true m n same)))
    | inr other ↦ other ∙ sym (ne_eqb n m (λ e. both_ways _ other (eq-eqb m n (sym e))))
  ]

is_distinct : {A : Type 0} (f : A → ℕ) (xs : List A) → Differ f xs → IsDistinct (same_number f) xs
unfolding same_number IsDistinct
is_distinct f [] apart = tt
is_distinct {A} f (x ∷ xs) apart = (all xs apart.0, is_distinct f xs apart.1) where
  all : (ys : List A) → ((y : A) → Has ys y → f x ≡ f y → ⊥) → AllByRecursion (λ y. eqb (f x) (f y) ≡ false) ys
  all [] none = tt
  all (y ∷ ys) none = (ne_eqb (f x) (f y) (none y (inl refl)), all ys (λ v has. none v (inr has)))

any_has : {A : Type 0} (f : A → ℕ) (q : A) (xs : List A) → list_any (same_number f q) xs ≡ true → (x : A) × Has xs x × (f q ≡ f x)
unfolding same_number
any_has f q [] is = absurd (both_ways _ refl is)
any_has {A} f q (x ∷ xs) is = go (eqb (f q) (f x)) refl is (any_has f q xs) where
  go : (b : Bool) → eqb (f q) (f x) ≡ b → (b || list_any (same_number f q) xs) ≡ true → (list_any (same_number f q) xs ≡ true → (x : A) × Has xs x × (f q ≡ f x)) → (y : A) × ((x ≡ y) ⊎ Has xs y) × (f q ≡ f y)
  go true same t rest = (x, inl refl, eqb-true (f q) (f x) same)
  go false other t rest = ((rest t).0, inr (rest t).1, (rest t).2)

has_any : {A : Type 0} (f : A → ℕ) (q : A) (xs : List A) (x : A) → Has xs x → f q ≡ f x → list_any (same_number f q) xs ≡ true
unfolding same_number
has_any f q [] x has same = absurd has
has_any {A} f q (y ∷ xs) x has same = go has (eqb (f q) (f y)) refl (has_any f q xs x) where
  go : (y ≡ x) ⊎ Has xs x → (b : Bool) → eqb (f q) (f y) ≡ b → (Has xs x → f q ≡ f x → list_any (same_number f q) xs ≡ true) → (b || list_any (same_number f q) xs) ≡ true
  go h true is rest = refl
  go (inl e) false is rest = absurd (both_ways _ is (eq-eqb (f q) (f y) (same ∙ sym (ap f e))))
  go (inr h) false is rest = rest h same

pub no_more : {A : Type 0} (f : A → ℕ) (xs ys : List A) → Differ f xs → ((x : A) → Has xs x → Has ys x) → length xs ≤ length ys
no_more {A} f xs ys apart among =
    length-le_from_is_member (same_numbers f) xs ys (is_distinct f xs apart) (λ q is. (let it = any_has f q xs is in has_any f q ys it.0 (among it.0 it.1) it.2))
