-- Spans in order, each once: whatever order they had, and from pairs in order.
use Rattle.std.proofs.Common.{◌≡◌, ℕ, suc, ◌+◌, ◌<◌, inl, inr, Bool, true, false, cond, ltb, eqb, ◌&&◌, ◌||◌, List, [], ◌∷◌, length, map, get_or, Some, None, refl, sym, ap, subst, ◌∙◌, arith}
use Rattle.std.specs.List.Sorted.{IsPermutation, IsSorted}
use Rattle.std.specs.Ordering.{is_lt, ordering_then}
use Rattle.std.specs.declared.cmp.Ordering.TheVariants.{Less, Equal, Greater}
use Rattle.std.proofs.lemmas.Bool.{and_from, and_parts, eq-eqb, eqb-true}
use Rattle.std.proofs.lemmas.List.Sorted.{Contains-permutation, IsPermutation-map, IsPermutation-sym}
use Rattle.dwarf_types.specs.declared.address.Span.{Span}
use Rattle.dwarf_types.specs.LinkedGraph.{comes_before, in_order, placed_span}
use Rattle.clone_units.specs.Pieces.{once_behind, pair_cmp, same_pair, span_of}
use Rattle.clone_units.proofs.Spans.{IsOne, Rises, contains_from_one, from_placed, neither, one_from_contains, rises_placed, same_rising, to_placed}

in_order_rises : (spans : List Span) → Rises (in_order spans)
in_order_rises [] = tt
in_order_rises (s ∷ spans) = rises_placed s (in_order spans) (in_order_rises spans)

from_in_order : (z : Span) (spans : List Span) → IsOne z (in_order spans) → IsOne z spans
from_in_order z [] one = one
from_in_order z (s ∷ spans) one = elim (from_placed s z (in_order spans) one) [ inl e ↦ inl e | inr w ↦ inr (from_in_order z spans w) ]

to_in_order : (z : Span) (spans : List Span) → IsOne z spans → IsOne z (in_order spans)
to_in_order z [] one = one
to_in_order z (s ∷ spans) (inl e) = to_placed s z (in_order spans) (inl e)
to_in_order z (s ∷ spans) (inr one) = to_placed s z (in_order spans) (inr (to_in_order z spans one))

one_permuted : (xs ys : List Span) (z : Span) → IsPermutation xs ys → IsOne z xs → IsOne z ys
one_permuted xs ys z moved one = one_from_contains ys z (Contains-permutation xs ys z moved (contains_from_one xs z one))

-- the order that they had does not matter
pub in_order_permuted : (xs ys : List Span) → IsPermutation xs ys → in_order xs ≡ in_order ys
in_order_permuted xs ys moved =
    same_rising (in_order xs) (in_order ys) (in_order_rises xs) (in_order_rises ys) (λ z one. to_in_order z ys (one_permuted xs ys z moved (from_in_order z xs one)))
    (λ z one. to_in_order z xs (one_permuted ys xs z (IsPermutation-sym xs ys moved) (from_in_order z ys one)))

-- ---- pairs in order

tests_of : (lt same lt' same' : Bool) → is_lt (ordering_then (cond lt Less (cond same Equal Greater)) (cond lt' Less (cond same' Equal Greater))) ≡ (lt || (same && lt'))
tests_of true same lt' same' = refl
tests_of false true true same' = refl
tests_of false true false true = refl
tests_of false true false false = refl
tests_of false false lt' same' = refl

-- each is not before the one before it
abbrev RiseOrStay : List (ℕ × ℕ) → Type 0
RiseOrStay [] = Unit {0}
RiseOrStay (p ∷ []) = Unit {0}
RiseOrStay (p ∷ q ∷ ps) = (comes_before (span_of q) (span_of p) ≡ false) × RiseOrStay (q ∷ ps)

rise_from : (ps : List (ℕ × ℕ)) → ((k : ℕ) (d : ℕ × ℕ) → k + 1 < length ps → is_lt (pair_cmp (get_or ps (k + 1) d) (get_or ps k d)) ≡ false) → RiseOrStay ps
rise_from [] each = tt
rise_from (p ∷ []) each = tt
rise_from (p ∷ q ∷ ps) each = (
  sym (tests_of (ltb q.0 p.0) (eqb q.0 p.0) (ltb q.1 p.1) (eqb q.1 p.1)) ∙ each 0 p (omega arith),
  rise_from (q ∷ ps) (λ k d lt.
      let next : suc k + 1 ≡ suc (k + 1) = omega arith in
      subst (λ (n : ℕ). is_lt (pair_cmp (get_or (p ∷ q ∷ ps) n d) (get_or (q ∷ ps) k d)) ≡ false) next (each (suc k) d (omega arith))),
)

pair_same : (p q : ℕ × ℕ) → span_of p ≡ span_of q → same_pair p q ≡ true
pair_same p q e = and_from _ _ (eq-eqb _ _ (ap (λ (s : Span). s.low) e)) (eq-eqb _ _ (ap (λ (s : Span). s.high) e))

pairs_same : (p q : ℕ × ℕ) → same_pair p q ≡ true → p ≡ q
pairs_same p q t = let both = and_parts _ _ t in ap (λ (n : ℕ). (n, p.1)) (eqb-true _ _ both.0) ∙ ap (λ (n : ℕ). (q.0, n)) (eqb-true _ _ both.1)

-- the first of pairs in order, before the others
first_placed : (p q : ℕ × ℕ) (ps : List (ℕ × ℕ)) (before same : Bool) → comes_before (span_of p) (span_of q) ≡ before → comes_before (span_of q) (span_of p) ≡ false → same_pair p q ≡ same
    → cond before (span_of p ∷ span_of q ∷ once_behind (Some q) ps) (span_of q ∷ once_behind (Some q) ps) ≡ span_of p ∷ cond same (once_behind (Some p) ps) (span_of q ∷ once_behind (Some q) ps)
first_placed p q ps true true is not_after e =
    let same : p ≡ q = pairs_same p q e in
    absurd (let t : true ≡ false = sym is ∙ ap (λ (r : ℕ × ℕ). comes_before (span_of r) (span_of q)) same ∙ ap (λ (r : ℕ × ℕ). comes_before (span_of q) (span_of r)) (sym same) ∙ not_after in cc)
first_placed p q ps true false is not_after e = refl
first_placed p q ps false true is not_after e = subst (λ (r : ℕ × ℕ). span_of q ∷ once_behind (Some q) ps ≡ span_of r ∷ once_behind (Some r) ps) (sym (pairs_same p q e)) refl
first_placed p q ps false false is not_after e = absurd (let t : true ≡ false = sym (pair_same p q (neither (span_of p) (span_of q) is not_after)) ∙ e in cc)

in_order_once : (ps : List (ℕ × ℕ)) → RiseOrStay ps → in_order (map span_of ps) ≡ once_behind None ps
in_order_once [] up = refl
in_order_once (p ∷ []) up = refl
in_order_once (p ∷ q ∷ ps) up =
    ap (placed_span (span_of p)) (in_order_once (q ∷ ps) up.1)
    ∙ ap (λ (b : Bool). cond (comes_before (span_of p) (span_of q)) (span_of p ∷ span_of q ∷ once_behind (Some q) ps) (cond b (span_of q ∷ placed_span (span_of p) (once_behind (Some q) ps)) (span_of q ∷ once_behind (Some q) ps))) up.0
    ∙ first_placed p q ps (comes_before (span_of p) (span_of q)) (same_pair p q) refl up.0 refl

-- pairs sorted, and each once
pub spans_sorted : (spans : List Span) (pairs sorted : List (ℕ × ℕ)) (made : List Span) → spans ≡ map span_of pairs → IsPermutation pairs sorted → IsSorted pair_cmp sorted → made ≡ once_behind None sorted → made ≡ in_order spans
spans_sorted spans pairs sorted made are moved up is =
    is ∙ sym (in_order_once sorted (rise_from sorted (λ k d lt. up k d (omega arith) lt))) ∙ sym (in_order_permuted (map span_of pairs) (map span_of sorted) (IsPermutation-map span_of pairs sorted moved)) ∙ ap in_order (sym are)
