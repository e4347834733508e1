-- Spans that rise: a list of them is told by what it has.
use Rattle.std.proofs.Common.{◌≡◌, ℕ, zero, suc, ◌<◌, ◌≤◌, ◌⊎◌, inl, inr, Bool, true, false, cond, ltb, eqb, ◌&&◌, List, [], ◌∷◌, length, get_or, refl, sym, ap, subst, ◌∙◌, arith}
use Rattle.std.specs.List.{AllByRecursion, Contains}
use Rattle.std.proofs.lemmas.Bool.{and_cases, and_parts, eqb-false, eqb-true, ltb-false, ltb-true, or_cases, or_parts}
use Rattle.std.proofs.lemmas.List.Elements.{Contains-append_left, Contains-append_right, Contains-push, at_from_Contains}
use Rattle.dwarf_types.specs.declared.address.Span.{Span}
use Rattle.dwarf_types.specs.LinkedGraph.{comes_before, placed_span}

-- ---- what a list has

abbrev pub IsOne : {A : Type 0} → A → List A → Type 0
IsOne z [] = ⊥
IsOne z (x ∷ xs) = (x ≡ z) ⊎ IsOne z xs

one_at : {A : Type 0} (xs : List A) (k : ℕ) (z : A) → k < length xs → get_or xs k z ≡ z → IsOne z xs
one_at [] k z lt is = absurd (omega arith)
one_at (x ∷ xs) zero z lt is = inl is
one_at (x ∷ xs) (suc k) z lt is = inr (one_at xs k z (omega arith) is)

pub one_from_contains : {A : Type 0} (xs : List A) (z : A) → Contains xs z → IsOne z xs
one_from_contains xs z has = let at = at_from_Contains xs z has in one_at xs at.0 z at.1 (at.2 z)

pub contains_from_one : {A : Type 0} (xs : List A) (z : A) → IsOne z xs → Contains xs z
contains_from_one [] z one = absurd one
contains_from_one (x ∷ xs) z (inl same) = Contains-append_left (x ∷ []) xs z (subst (Contains (x ∷ [])) same (Contains-push [] x))
contains_from_one (x ∷ xs) z (inr one) = Contains-append_right (x ∷ []) xs z (contains_from_one xs z one)

-- ---- the order

abbrev pub Before : Span → Span → Type 0
Before a b = (a.low < b.low) ⊎ ((a.low ≡ b.low) × (a.high < b.high))

before_is : (a b : Span) → comes_before a b ≡ true → Before a b
before_is a b t = elim (or_cases _ _ t) [
  | inl lt ↦ inl (ltb-true _ _ lt)
  | inr both ↦ (let it = and_parts _ _ both in inr (eqb-true _ _ it.0, ltb-true _ _ it.1))
]

before_trans : (a b c : Span) → Before a b → Before b c → Before a c
before_trans a b c (inl p) (inl q) = inl (omega arith)
before_trans a b c (inl p) (inr q) = inl (omega (arith, q.0))
before_trans a b c (inr p) (inl q) = inl (omega (arith, p.0))
before_trans a b c (inr p) (inr q) = inr (p.0 ∙ q.0, omega (arith, p.1, q.1))

not_before_itself : (a : Span) → Before a a → ⊥
not_before_itself a (inl p) = omega arith
not_before_itself a (inr p) = omega (arith, p.1)

same_span : (a b : Span) → a.low ≡ b.low → a.high ≡ b.high → a ≡ b
same_span a b low high = ap (λ (n : ℕ). span n a.high) low ∙ ap (span b.low) high
  where
    span : ℕ → ℕ → Span
    span low high = record { low = low; high = high }

-- two of which neither comes before the other are one
pub neither : (a b : Span) → comes_before a b ≡ false → comes_before b a ≡ false → a ≡ b
neither a b p q =
    let ps = or_parts (ltb a.low b.low) (eqb a.low b.low && ltb a.high b.high) p in
    let qs = or_parts (ltb b.low a.low) (eqb b.low a.low && ltb b.high a.high) q in
    let low : a.low ≡ b.low = omega (arith, ltb-false a.low b.low ps.0, ltb-false b.low a.low qs.0) in
    let up : b.high ≤ a.high = elim (and_cases (eqb a.low b.low) (ltb a.high b.high) ps.1) [ inl e ↦ absurd (eqb-false _ _ e low) | inr e ↦ ltb-false a.high b.high e ] in
    let down : a.high ≤ b.high = elim (and_cases (eqb b.low a.low) (ltb b.high a.high) qs.1) [ inl e ↦ absurd (eqb-false _ _ e (sym low)) | inr e ↦ ltb-false b.high a.high e ] in
    same_span a b low (omega arith)

-- ---- lists that rise

abbrev pub Rises : List Span → Type 0
Rises [] = Unit {0}
Rises (x ∷ xs) = AllByRecursion (Before x) xs × Rises xs

all_one : (P : Span → Type 0) (xs : List Span) (z : Span) → AllByRecursion P xs → IsOne z xs → P z
all_one P [] z all one = absurd one
all_one P (x ∷ xs) z all (inl same) = subst P same all.0
all_one P (x ∷ xs) z all (inr one) = all_one P xs z all.1 one

all_from : (P : Span → Type 0) (xs : List Span) → ((z : Span) → IsOne z xs → P z) → AllByRecursion P xs
all_from P [] each = tt
all_from P (x ∷ xs) each = (each x (inl refl), all_from P xs (λ z one. each z (inr one)))

-- the first of both is one
first_same : (x y : Span) (xs ys : List Span) → Rises (x ∷ xs) → Rises (y ∷ ys) → IsOne x (y ∷ ys) → IsOne y (x ∷ xs) → x ≡ y
first_same x y xs ys up up' (inl e) other = sym e
first_same x y xs ys up up' (inr one) (inl e) = e
first_same x y xs ys up up' (inr one) (inr other) = absurd (not_before_itself x (before_trans x y x (all_one (Before x) xs y up.0 other) (all_one (Before y) ys x up'.0 one)))

-- what is behind the first of one is behind the first of the other
behind_first : (x y z : Span) (xs ys : List Span) → AllByRecursion (Before x) xs → x ≡ y → IsOne z xs → IsOne z (y ∷ ys) → IsOne z ys
behind_first x y z xs ys above same one (inl e) = absurd (not_before_itself x (subst (Before x) (sym (same ∙ e)) (all_one (Before x) xs z above one)))
behind_first x y z xs ys above same one (inr w) = w

pub same_rising : (xs ys : List Span) → Rises xs → Rises ys → ((z : Span) → IsOne z xs → IsOne z ys) → ((z : Span) → IsOne z ys → IsOne z xs) → xs ≡ ys
same_rising [] [] up up' to from = refl
same_rising [] (y ∷ ys) up up' to from = absurd (from y (inl refl))
same_rising (x ∷ xs) [] up up' to from = absurd (to x (inl refl))
same_rising (x ∷ xs) (y ∷ ys) up up' to from =
    let same : x ≡ y = first_same x y xs ys up up' (to x (inl refl)) (from y (inl refl)) in
    let rest : xs ≡ ys = same_rising xs ys up.1 up'.1 (λ z one. behind_first x y z xs ys up.0 same one (to z (inr one))) (λ z one. behind_first y x z ys xs up'.0 (sym same) one (from z (inr one))) in
    ap (λ w. w ∷ xs) same ∙ ap (λ ws. y ∷ ws) rest

-- ---- a span put where it belongs

placed_has : (s z x : Span) (xs : List Span) (p q : Bool) → (IsOne z (placed_span s xs) → (s ≡ z) ⊎ IsOne z xs) → IsOne z (cond p (s ∷ x ∷ xs) (cond q (x ∷ placed_span s xs) (x ∷ xs))) → (s ≡ z) ⊎ IsOne z (x ∷ xs)
placed_has s z x xs true q later one = one
placed_has s z x xs false true later (inl e) = inr (inl e)
placed_has s z x xs false true later (inr one) = elim (later one) [ inl e ↦ inl e | inr w ↦ inr (inr w) ]
placed_has s z x xs false false later one = inr one

pub from_placed : (s z : Span) (xs : List Span) → IsOne z (placed_span s xs) → (s ≡ z) ⊎ IsOne z xs
from_placed s z [] one = one
from_placed s z (x ∷ xs) one = placed_has s z x xs (comes_before s x) (comes_before x s) (from_placed s z xs) one

has_placed : (s z x : Span) (xs : List Span) (p q : Bool) → (p ≡ false → q ≡ false → s ≡ x) → ((s ≡ z) ⊎ IsOne z xs → IsOne z (placed_span s xs)) → (s ≡ z) ⊎ IsOne z (x ∷ xs)
    → IsOne z (cond p (s ∷ x ∷ xs) (cond q (x ∷ placed_span s xs) (x ∷ xs)))
has_placed s z x xs true q same later one = one
has_placed s z x xs false true same later (inl e) = inr (later (inl e))
has_placed s z x xs false true same later (inr (inl e)) = inl e
has_placed s z x xs false true same later (inr (inr w)) = inr (later (inr w))
has_placed s z x xs false false same later (inl e) = inl (sym (same refl refl) ∙ e)
has_placed s z x xs false false same later (inr w) = w

pub to_placed : (s z : Span) (xs : List Span) → (s ≡ z) ⊎ IsOne z xs → IsOne z (placed_span s xs)
to_placed s z [] one = one
to_placed s z (x ∷ xs) one = has_placed s z x xs (comes_before s x) (comes_before x s) (neither s x) (to_placed s z xs) one

rises_with : (s x : Span) (xs : List Span) (p q : Bool) → (p ≡ true → Before s x) → (q ≡ true → Before x s) → Rises (x ∷ xs) → Rises (placed_span s xs) → Rises (cond p (s ∷ x ∷ xs) (cond q (x ∷ placed_span s xs) (x ∷ xs)))
rises_with s x xs true q first second up later = ((first refl, all_from (Before s) xs (λ z one. before_trans s x z (first refl) (all_one (Before x) xs z up.0 one))), up)
rises_with s x xs false true first second up later =
    (all_from (Before x) (placed_span s xs) (λ z one. elim (from_placed s z xs one) [ inl e ↦ subst (Before x) e (second refl) | inr w ↦ all_one (Before x) xs z up.0 w ]), later)
rises_with s x xs false false first second up later = up

pub rises_placed : (s : Span) (xs : List Span) → Rises xs → Rises (placed_span s xs)
rises_placed s [] up = (tt, tt)
rises_placed s (x ∷ xs) up = rises_with s x xs (comes_before s x) (comes_before x s) (before_is s x) (before_is x s) up (rises_placed s xs up.1)
