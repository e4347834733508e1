-- The next address in a section, found in the places in order.
use Rattle.std.proofs.Common.{◌≡◌, ℕ, zero, suc, ◌<◌, ◌≤◌, ◌==◌, ◌&&◌, min, true, false, ◌⊎◌, List, [], ◌∷◌, length, get_or, nat_lt, Option, Some, None, refl, sym, ap, subst, ◌∙◌, arith, inl, inr, Less, Equal, Greater}
use Rattle.std.specs.Cmp.{IsTotalOrder}
use Rattle.std.specs.List.{AllByRecursion, cons_option, filter_map, fold, reduce}
use Rattle.std.specs.List.Sorted.{IsPartitionedBy, IsPartitionPoint, IsPermutation, IsSorted}
use Rattle.std.specs.Ordering.{is_le, is_lt, nat_cmp}
use Rattle.std.proofs.lemmas.Bool.{eq-eqb, ne_eqb, eqb-true, lt-ltb, le-ltb, ltb-true, cases_Bool, cases_lt, cases_order, and_parts}
use Rattle.std.proofs.lemmas.Cmp.{nat_cmp_total, then_total, on_total}
use Rattle.std.proofs.lemmas.List.{get_or_default}
use Rattle.std.proofs.lemmas.List.Elements.{recursion_from_All}
use Rattle.std.proofs.lemmas.List.Sorted.{All-permutation, Contains-permutation, IsPermutation-sym, ranks_by, sorted_far}
use Rattle.addr_map.specs.Entries.{above, next_among}
use Rattle.addr_map.specs.Tables.{place_cmp, IsNext}

-- ---- the order of places

-- one place is not behind another
abbrev UpTo : ℕ × ℕ → ℕ × ℕ → Type 0
UpTo p q = (p.0 < q.0) ⊎ ((p.0 ≡ q.0) × (p.1 ≤ q.1))

abbrev Behind : ℕ × ℕ → ℕ × ℕ → Type 0
Behind p q = (q.0 < p.0) ⊎ ((q.0 ≡ p.0) × (q.1 < p.1))

less : (x y : ℕ) → x < y → nat_cmp x y ≡ Less
less x y lt = rw (lt-ltb x y lt) refl

equal : (x y : ℕ) → x ≡ y → nat_cmp x y ≡ Equal
equal x y e = rw (le-ltb x y (omega arith), eq-eqb x y e) refl

greater : (x y : ℕ) → y < x → nat_cmp x y ≡ Greater
greater x y gt = rw (le-ltb x y (omega arith), ne_eqb x y (λ e. omega arith)) refl

-- the answers of the comparison, with what each means
compared : (p q : ℕ × ℕ) → ((place_cmp p q ≡ Less) × UpTo p q) ⊎ (((place_cmp p q ≡ Equal) × (p.0 ≡ q.0) × (p.1 ≡ q.1)) ⊎ ((place_cmp p q ≡ Greater) × Behind p q))
compared p q = elim (cases_order p.0 q.0) [
  | inl same ↦ elim (cases_order p.1 q.1) [
    | inl e ↦ inr (inl (rw (equal _ _ same, equal _ _ e) refl, same, e))
    | inr (inl lt) ↦ inl (rw (equal _ _ same, less _ _ lt) refl, inr (same, omega arith))
    | inr (inr gt) ↦ inr (inr (rw (equal _ _ same, greater _ _ gt) refl, inr (sym same, gt)))
  ]
  | inr (inl lt) ↦ inl (rw (less _ _ lt) refl, inl lt)
  | inr (inr gt) ↦ inr (inr (rw (greater _ _ gt) refl, inl gt))
]

up_to_from : (p q : ℕ × ℕ) → is_le (place_cmp p q) ≡ true → UpTo p q
up_to_from p q e = elim (compared p q) [
  | inl (is, h) ↦ h
  | inr (inl (is, same, le)) ↦ inr (same, omega arith)
  | inr (inr (is, h)) ↦ absurd (let f = rw is at e in cc)
]

behind_from : (p q : ℕ × ℕ) → is_le (place_cmp p q) ≡ false → Behind p q
behind_from p q e = elim (compared p q) [
  | inl (is, h) ↦ absurd (let f = rw is at e in cc)
  | inr (inl (is, same, le)) ↦ absurd (let f = rw is at e in cc)
  | inr (inr (is, h)) ↦ h
]

not_less : (p q : ℕ × ℕ) → is_lt (place_cmp q p) ≡ false → UpTo p q
not_less p q e = elim (compared q p) [
  | inl (is, h) ↦ absurd (let f = rw is at e in cc)
  | inr (inl (is, same, le)) ↦ inr (sym same, omega arith)
  | inr (inr (is, inl lt)) ↦ inl lt
  | inr (inr (is, inr (same, lt))) ↦ inr (same, omega arith)
]

up_to_test : (p q : ℕ × ℕ) → UpTo p q → is_le (place_cmp p q) ≡ true
up_to_test p q h = elim (compared p q) [
  | inl (is, up) ↦ rw is refl
  | inr (inl (is, same, le)) ↦ rw is refl
  | inr (inr (is, behind)) ↦ absurd (both h behind)
]
  where
    both : UpTo p q → Behind p q → ⊥
    both (inl a) (inl b) = omega arith
    both (inl a) (inr b) = omega (arith, b.0)
    both (inr a) (inl b) = omega (arith, a.0)
    both (inr a) (inr b) = omega (arith, a.1, b.1)

up_to_trans : (p q r : ℕ × ℕ) → UpTo p q → UpTo q r → UpTo p r
up_to_trans p q r (inl a) (inl b) = inl (omega arith)
up_to_trans p q r (inl a) (inr b) = inl (omega (arith, b.0))
up_to_trans p q r (inr a) (inl b) = inl (omega (arith, a.0))
up_to_trans p q r (inr a) (inr b) = inr (a.0 ∙ b.0, omega (arith, a.1, b.1))

place_total : IsTotalOrder place_cmp
place_total = then_total (on_total (λ (p : ℕ × ℕ). p.0) nat_cmp_total) (on_total (λ (p : ℕ × ℕ). p.1) nat_cmp_total)

in_order : (ps : List (ℕ × ℕ)) (i j : ℕ) (d : ℕ × ℕ) → IsSorted place_cmp ps → i ≤ j → j < length ps → UpTo (get_or ps i d) (get_or ps j d)
in_order ps i j d sorted le lt = not_less _ _ (sorted_far (λ p q. is_lt (place_cmp p q)) (ranks_by place_total (λ (p : ℕ × ℕ). p)) ps sorted i j d le lt)

-- those up to a place stand before the others
pub passed_first : (ps : List (ℕ × ℕ)) (to : ℕ × ℕ) → IsSorted place_cmp ps → IsPartitionedBy (λ p. is_le (place_cmp p to)) ps
passed_first ps to sorted i j d le lt e = up_to_test _ _ (up_to_trans _ _ _ (in_order ps i j d sorted le lt) (up_to_from _ _ e))

-- ---- the place behind those that were passed

abbrev Passed : List (ℕ × ℕ) → ℕ × ℕ → ℕ → Type 0
Passed ps to n = IsPartitionPoint (λ p. is_le (place_cmp p to) ≡ true) (λ p. is_le (place_cmp p to) ≡ false) ps n

not_passed : (p : ℕ × ℕ) (section start : ℕ) → UpTo p (section, start) → p.0 ≡ section → start < p.1 → ⊥
not_passed p section start (inl lt) same above = omega arith
not_passed p section start (inr e) same above = omega (arith, e.1)

start_before : (p : ℕ × ℕ) (section start : ℕ) → Behind p (section, start) → p.0 ≡ section → start < p.1
start_before p section start (inl gt) same = absurd (omega arith)
start_before p section start (inr e) same = e.1

least_of : (p q : ℕ × ℕ) (section : ℕ) → UpTo p q → p.0 ≡ section → q.0 ≡ section → p.1 ≤ q.1
least_of p q section (inl lt) a b = absurd (omega arith)
least_of p q section (inr e) a b = e.1

other_section : (p q : ℕ × ℕ) (section start : ℕ) → UpTo p q → Behind p (section, start) → (p.0 ≡ section → ⊥) → q.0 ≡ section → ⊥
other_section p q section start (inl lt) (inl gt) ne same = omega arith
other_section p q section start (inl lt) (inr e) ne same = ne (sym e.0)
other_section p q section start (inr a) (inl gt) ne same = omega (arith, a.0)
other_section p q section start (inr a) (inr e) ne same = ne (sym e.0)

pub next_found : (ps : List (ℕ × ℕ)) (section start n : ℕ) (p : ℕ × ℕ) → IsSorted place_cmp ps → Passed ps (section, start) n → n < length ps → p ≡ get_or ps n p → p.0 ≡ section → IsNext section start ps (Some p.1)
next_found ps section start n p sorted passed lt is same =
    let whole : p ≡ (section, p.1) = ap (λ (o : ℕ). (o, p.1)) same in
    let here : get_or ps n (section, p.1) ≡ (section, p.1) = get_or_default ps n (section, p.1) p lt ∙ sym is ∙ whole in
    let behind : Behind p (section, start) = behind_from p (section, start) (subst (λ (q : ℕ × ℕ). is_le (place_cmp q (section, start)) ≡ false) (sym is) (passed.1 n p (omega arith) lt)) in (
      (n, lt, here),
      start_before p section start behind same,
      λ k d within other after. elim (cases_lt k n) [
        | inl before ↦ absurd (not_passed (get_or ps k d) section start (up_to_from _ _ (passed.0 k d (omega arith) before)) other after)
        | inr later ↦ least_of p (get_or ps k d) section (subst (λ (q : ℕ × ℕ). UpTo q (get_or ps k d)) (sym (is ∙ get_or_default ps n p d lt)) (in_order ps n k d sorted later within)) same other
      ],
    )

pub next_nowhere : (ps : List (ℕ × ℕ)) (section start n : ℕ) (p : ℕ × ℕ) → IsSorted place_cmp ps → Passed ps (section, start) n → n < length ps → p ≡ get_or ps n p → (p.0 ≡ section → ⊥) → IsNext section start ps None
next_nowhere ps section start n p sorted passed lt is ne k d within other after = elim (cases_lt k n) [
  | inl before ↦ not_passed (get_or ps k d) section start (up_to_from _ _ (passed.0 k d (omega arith) before)) other after
  | inr later ↦
      let behind : Behind p (section, start) = behind_from p (section, start) (subst (λ (q : ℕ × ℕ). is_le (place_cmp q (section, start)) ≡ false) (sym is) (passed.1 n p (omega arith) lt)) in
      other_section p (get_or ps k d) section start (subst (λ (q : ℕ × ℕ). UpTo q (get_or ps k d)) (sym (is ∙ get_or_default ps n p d lt)) (in_order ps n k d sorted later within)) behind ne other
]

-- ---- the least number

-- a list has a number
abbrev Has : List ℕ → ℕ → Type 0
Has [] m = ⊥
Has (x ∷ xs) m = (x ≡ m) ⊎ Has xs m

least_is : (x m : ℕ) (xs : List ℕ) → m ≤ x → AllByRecursion (λ y. m ≤ y) xs → (x ≡ m) ⊎ Has xs m → fold min x xs ≡ m
least_is x m [] le all (inl e) = e
least_is x m [] le all (inr h) = absurd h
least_is x m (y ∷ ys) le all (inl e) = let from : m ≤ y = all.0 in least_is (min x y) m ys (omega arith) all.1 (inl (omega arith))
least_is x m (y ∷ ys) le all (inr (inl e)) = least_is (min x y) m ys (omega arith) all.1 (inl (omega arith))
least_is x m (y ∷ ys) le all (inr (inr h)) = let from : m ≤ y = all.0 in least_is (min x y) m ys (omega arith) all.1 (inr h)

reduced : (m : ℕ) (xs : List ℕ) → AllByRecursion (λ y. m ≤ y) xs → Has xs m → reduce min xs ≡ Some m
reduced m [] all has = absurd has
reduced m (x ∷ xs) all has = ap (λ (n : ℕ). Some n) (least_is x m xs all.0 all.1 has)

-- ---- what a filter of the places finds

all_above : (section start a : ℕ) (ps : List (ℕ × ℕ)) → AllByRecursion (λ p. p.0 ≡ section → start < p.1 → a ≤ p.1) ps → AllByRecursion (λ n. a ≤ n) (filter_map (above section start) ps)
all_above section start a [] all = tt
all_above section start a (p ∷ ps) all = elim (cases_Bool (p.0 == section && nat_lt start p.1)) [
  | inl is ↦ let parts = and_parts (p.0 == section) (nat_lt start p.1) is in rw is (all.0 (eqb-true p.0 section parts.0) (ltb-true start p.1 parts.1), all_above section start a ps all.1)
  | inr other ↦ rw other (all_above section start a ps all.1)
]

none_above : (section start : ℕ) (ps : List (ℕ × ℕ)) → AllByRecursion (λ p. p.0 ≡ section → start < p.1 → ⊥) ps → filter_map (above section start) ps ≡ []
none_above section start [] all = refl
none_above section start (p ∷ ps) all = elim (cases_Bool (p.0 == section && nat_lt start p.1)) [
  | inl is ↦ let parts = and_parts (p.0 == section) (nat_lt start p.1) is in absurd (all.0 (eqb-true p.0 section parts.0) (ltb-true start p.1 parts.1))
  | inr other ↦ rw other (none_above section start ps all.1)
]

has_more : (o : Option ℕ) (xs : List ℕ) (m : ℕ) → Has xs m → Has (cons_option o xs) m
has_more None xs m h = h
has_more (Some x) xs m h = inr h

has_above : (section start a : ℕ) (ps : List (ℕ × ℕ)) (k : ℕ) → k < length ps → get_or ps k (section, a) ≡ (section, a) → start < a → Has (filter_map (above section start) ps) a
has_above section start a [] k lt is after = absurd (omega arith)
has_above section start a (p ∷ ps) zero lt is after =
    let found : above section start (section, a) ≡ Some a = rw (eq-eqb section section refl, lt-ltb start a after) refl in
    subst (λ (o : Option ℕ). Has (cons_option o (filter_map (above section start) ps)) a) (sym (ap (above section start) is ∙ found)) (inl refl)
has_above section start a (p ∷ ps) (suc k) lt is after = has_more (above section start p) (filter_map (above section start) ps) a (has_above section start a ps k (omega arith) is after)

next_is : (section start : ℕ) (ps : List (ℕ × ℕ)) (o : Option ℕ) → IsNext section start ps o → next_among section start ps ≡ o
next_is section start ps None none = rw (none_above section start ps (recursion_from_All (λ p. p.0 ≡ section → start < p.1 → ⊥) ps none)) refl
next_is section start ps (Some a) next =
    reduced a (filter_map (above section start) ps) (all_above section start a ps (recursion_from_All (λ p. p.0 ≡ section → start < p.1 → a ≤ p.1) ps next.2))
    (has_above section start a ps next.0.0 next.0.1 next.0.2 next.1)

-- the same places in another order
permuted : (section start : ℕ) (ps qs : List (ℕ × ℕ)) (o : Option ℕ) → IsPermutation qs ps → IsNext section start qs o → IsNext section start ps o
permuted section start ps qs None same none = All-permutation (λ p. p.0 ≡ section → start < p.1 → ⊥) qs ps same none
permuted section start ps qs (Some a) same next = (Contains-permutation qs ps (section, a) same next.0, next.1, All-permutation (λ p. p.0 ≡ section → start < p.1 → a ≤ p.1) qs ps same next.2)

pub next_from : (section start : ℕ) (ps qs : List (ℕ × ℕ)) (o : Option ℕ) → IsPermutation ps qs → IsNext section start qs o → next_among section start ps ≡ o
next_from section start ps qs o same next = next_is section start ps o (permuted section start ps qs o (IsPermutation-sym ps qs same) next)
