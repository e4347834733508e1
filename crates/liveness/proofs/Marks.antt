-- Marking: none, one, and one after another.
use Rattle.std.proofs.Common.{◌≡◌, ℕ, ◌+◌, ◌<◌, Bool, true, false, not, cond, List, [], ◌∷◌, ◌++◌, length, get_or, set, replicate, take, ◌⊎◌, inl, inr, sym, subst, ◌∙◌, refl, ap, arith}
use Rattle.std.specs.List.{Contains}
use Rattle.std.proofs.lemmas.Bool.{cases_eq, cases_lt, false≢true}
use Rattle.std.proofs.lemmas.List.{length-set, length_push, get_or-set_same, get_or-set_other, get_or-replicate, get_or_past, length-replicate, take_more}
use Rattle.std.proofs.lemmas.List.Sums.{sum_by-set}
use Rattle.std.proofs.lemmas.List.Elements.{Contains-append_cases, Contains-append_left, Contains-append_right, Contains-push}
use Rattle.liveness.specs.Marking.{Grown, Marked, unmarked}
use Rattle.liveness.proofs.Elements.{none_contained, one_contained, one_contains}

pub none_marked : (n k : ℕ) → Marked (replicate n false) k → ⊥
none_marked n k m = elim (cases_lt k n) [
  | inl lt ↦ false≢true (sym (get_or-replicate n k false false lt) ∙ m)
  | inr ge ↦ false≢true (sym (get_or_past (replicate n false) k false (rw (length-replicate n false) ge)) ∙ m)
]

pub marked_within : (row : List Bool) (k : ℕ) → Marked row k → k < length row
marked_within row k m = elim (cases_lt k (length row)) [ inl lt ↦ lt | inr ge ↦ absurd (false≢true (sym (get_or_past row k false ge) ∙ m)) ]

pub grown_none : (row : List Bool) (work : List ℕ) → Grown row work row work []
grown_none row work = record {
  len = refl;
  kept = λ k m. m;
  marked = λ k w. absurd (none_contained k w);
  fresh = λ k m. inl m;
  still_waits = λ k w. w;
  waits = λ k w. inl w;
  balance = refl;
}

pub grown_again : (row : List Bool) (work : List ℕ) (k : ℕ) → Marked row k → Grown row work row work (k ∷ [])
grown_again row work k m = record {
  len = refl;
  kept = λ j n. n;
  marked = λ j w. subst (λ (i : ℕ). Marked row i) (one_contained k j w) m;
  fresh = λ j n. inl n;
  still_waits = λ j w. w;
  waits = λ j w. inl w;
  balance = refl;
}

kept_by_set : (row : List Bool) (k j : ℕ) → k < length row → Marked row j → Marked (set row k true) j
kept_by_set row k j lt m = elim (cases_eq j k) [
  | inl e ↦ subst (λ (i : ℕ). Marked (set row k true) i) (sym e) (get_or-set_same row k true false lt)
  | inr ne ↦ get_or-set_other row k j true false ne ∙ m
]

fresh_by_set : (row : List Bool) (work : List ℕ) (k j : ℕ) → Marked (set row k true) j → Marked row j ⊎ (Contains (k ∷ []) j × Contains (work ++ k ∷ []) j)
fresh_by_set row work k j m = elim (cases_eq j k) [
  | inl e ↦ inr (subst (λ (i : ℕ). Contains (k ∷ []) i × Contains (work ++ k ∷ []) i) (sym e) (one_contains k, Contains-push work k))
  | inr ne ↦ inl (sym (get_or-set_other row k j true false ne) ∙ m)
]

abbrev weight : Bool → ℕ
weight b = cond (not b) 1 0

one_fewer : (row : List Bool) (k : ℕ) → k < length row → get_or row k false ≡ false → unmarked (set row k true) + 1 ≡ unmarked row
one_fewer row k lt off =
    let was : weight (get_or row k false) ≡ 1 = ap weight off in
    let changed : unmarked (set row k true) + weight (get_or row k false) ≡ unmarked row + 0 = sum_by-set weight row k true false lt in
    omega (arith, was, changed)

pub grown_one : (row : List Bool) (work : List ℕ) (k : ℕ) → k < length row → get_or row k false ≡ false → Grown row work (set row k true) (work ++ k ∷ []) (k ∷ [])
grown_one row work k lt off = record {
  len = length-set row k true;
  kept = λ j. kept_by_set row k j lt;
  marked = λ j w. subst (λ (i : ℕ). Marked (set row k true) i) (one_contained k j w) (get_or-set_same row k true false lt);
  fresh = λ j. fresh_by_set row work k j;
  still_waits = λ j w. Contains-append_left work (k ∷ []) j w;
  waits = λ j w. Contains-append_cases work (k ∷ []) j w;
  balance = omega (arith, one_fewer row k lt off, length_push work k);
}

fresh_then : (row : List Bool) (work : List ℕ) (row1 : List Bool) (work1 : List ℕ) (row2 : List Bool) (work2 these those : List ℕ) → Grown row work row1 work1 these → Grown row1 work1 row2 work2 those → (k : ℕ) → Marked row2 k → Marked row k ⊎ (Contains (these ++ those) k × Contains work2 k)
fresh_then row work row1 work1 row2 work2 these those g h k m = elim (h.fresh k m) [
  | inl m1 ↦ elim (g.fresh k m1) [ inl m0 ↦ inl m0 | inr w ↦ inr (Contains-append_left these those k w.0, h.still_waits k w.1) ]
  | inr w ↦ inr (Contains-append_right these those k w.0, w.1)
]

pub grown_then : (row : List Bool) (work : List ℕ) (row1 : List Bool) (work1 : List ℕ) (row2 : List Bool) (work2 these those : List ℕ) → Grown row work row1 work1 these → Grown row1 work1 row2 work2 those → Grown row work row2 work2 (these ++ those)
grown_then row work row1 work1 row2 work2 these those g h = record {
  len = h.len ∙ g.len;
  kept = λ k m. h.kept k (g.kept k m);
  marked = λ k w. elim (Contains-append_cases these those k w) [ inl q ↦ h.kept k (g.marked k q) | inr q ↦ h.marked k q ];
  fresh = fresh_then row work row1 work1 row2 work2 these those g h;
  still_waits = λ k w. h.still_waits k (g.still_waits k w);
  waits = λ k w. elim (h.waits k w) [ inl q ↦ elim (g.waits k q) [ inl r ↦ inl r | inr r ↦ inr (Contains-append_left these those k r) ] | inr q ↦ inr (Contains-append_right these those k q) ];
  balance = h.balance ∙ g.balance;
}

-- one more of a list
pub grown_more : (row : List Bool) (work : List ℕ) (row1 : List Bool) (work1 : List ℕ) (row2 : List Bool) (work2 these : List ℕ) (i d : ℕ) → i < length these → Grown row work row1 work1 (take i these) → Grown row1 work1 row2 work2 (get_or these i d ∷ []) → Grown row work row2 work2 (take (i + 1) these)
grown_more row work row1 work1 row2 work2 these i d lt g h = subst (λ (ks : List ℕ). Grown row work row2 work2 ks) (sym (take_more these i d lt)) (grown_then row work row1 work1 row2 work2 _ _ g h)
