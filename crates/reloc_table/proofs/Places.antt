-- Relocations in the order of their places.
use Rattle.std.proofs.Common.{◌≡◌, ℕ, zero, suc, ◌+◌, ◌-◌, ◌<◌, ◌≤◌, ◌==◌, ◌&&◌, Bool, true, false, cond, List, [], ◌∷◌, length, drop, get_or, nat_lt, Result, Ok, Err, refl, sym, ap, ◌∙◌, arith, inl, inr}
use Rattle.std.specs.Bool.{⊤}
use Rattle.std.specs.List.{AllPairs, AllByRecursion, filter}
use Rattle.std.specs.List.Sorted.{IsNonDecreasingBy, IsStableByKey, ties}
use Rattle.std.specs.Ordering.{is_lt, nat_cmp}
use Rattle.std.proofs.lemmas.Bool.{ltb-true, ltb-false, lt-ltb, le-ltb, eq-eqb, ne_eqb, cases_order, cases_Bool, cases_eq}
use Rattle.std.proofs.lemmas.List.{drop_more, length-drop}
use Rattle.std.proofs.lemmas.List.Elements.{recursion_from_All, filter_agree}
use Rattle.std.proofs.lemmas.List.Kept.{AllPairs-cons}
use Rattle.ds_base.specs.declared.fault.Fault.{Fault}
use Rattle.ds_base.specs.declared.fault.Part.{Part}
use Rattle.reloc_table.specs.declared.relocation.Reloc.{Reloc}
use Rattle.reloc_table.specs.Table.{all_apart, by_place, overlap, placed}

-- ---- a list in order is the only one with its relocations of each place

abbrev at : ℕ → Reloc → Bool
at n r = r.place == n

-- no place falls
abbrev Rise : List Reloc → Type 0
Rise [] = ⊤
Rise (r ∷ rs) = AllByRecursion (λ later. r.place ≤ later.place) rs × Rise rs

rise_from : (rs : List Reloc) → IsNonDecreasingBy (λ r. r.place) rs → Rise rs
rise_from [] up = tt
rise_from (r ∷ rs) up = (recursion_from_All (λ later. r.place ≤ later.place) rs (λ k d lt. up 0 (suc k) d (omega arith) (omega arith)), rise_from rs (λ i j d le lt. up (suc i) (suc j) d (omega arith) (omega arith)))

none_at : (n : ℕ) (rs : List Reloc) → AllByRecursion (λ later. n < later.place) rs → filter (at n) rs ≡ []
none_at n [] above = refl
none_at n (r ∷ rs) above = let h : n < r.place = above.0 in let other : at n r ≡ false = ne_eqb r.place n (λ e. omega arith) in rw other (none_at n rs above.1)

all_above : (n : ℕ) (r : Reloc) (rs : List Reloc) → n < r.place → Rise (r ∷ rs) → AllByRecursion (λ later. n < later.place) (r ∷ rs)
all_above n r rs lt rise = (lt, weaker rs rise.0)
  where
    weaker : (xs : List Reloc) → AllByRecursion (λ later. r.place ≤ later.place) xs → AllByRecursion (λ later. n < later.place) xs
    weaker [] all = tt
    weaker (x ∷ xs) all = let h : r.place ≤ x.place = all.0 in (omega arith, weaker xs all.1)

first_at : (r : Reloc) (rs : List Reloc) → filter (at r.place) (r ∷ rs) ≡ r ∷ filter (at r.place) rs
first_at r rs = rw (eq-eqb r.place r.place refl) refl

no_first : (r : Reloc) (rs : List Reloc) → r ∷ rs ≡ [] → ⊥
no_first r rs e = cc

not_below : (r s : Reloc) (rs ss : List Reloc) → Rise (s ∷ ss) → filter (at r.place) (r ∷ rs) ≡ filter (at r.place) (s ∷ ss) → r.place < s.place → ⊥
not_below r s rs ss rise same lt = no_first r (filter (at r.place) rs) (sym (first_at r rs) ∙ same ∙ none_at r.place (s ∷ ss) (all_above r.place s ss lt rise))

heads : (r s : Reloc) (rs ss : List Reloc) → r ∷ rs ≡ s ∷ ss → (r ≡ s) × (rs ≡ ss)
heads r s rs ss e = (cc, cc)

without_first : (n : ℕ) (r : Reloc) (rs ss : List Reloc) → filter (at n) (r ∷ rs) ≡ filter (at n) (r ∷ ss) → filter (at n) rs ≡ filter (at n) ss
without_first n r rs ss same = rest (at n r) same
  where
    rest : (b : Bool) → cond b (r ∷ filter (at n) rs) (filter (at n) rs) ≡ cond b (r ∷ filter (at n) ss) (filter (at n) ss) → filter (at n) rs ≡ filter (at n) ss
    rest true e = cc
    rest false e = e

only_order : (rs ss : List Reloc) → Rise rs → Rise ss → ((n : ℕ) → filter (at n) rs ≡ filter (at n) ss) → rs ≡ ss
only_order [] [] up vp same = refl
only_order [] (s ∷ ss) up vp same = absurd (no_first s (filter (at s.place) ss) (sym (first_at s ss) ∙ sym (same s.place)))
only_order (r ∷ rs) [] up vp same = absurd (no_first r (filter (at r.place) rs) (sym (first_at r rs) ∙ same r.place))
only_order (r ∷ rs) (s ∷ ss) up vp same =
    let place : r.place ≡ s.place = elim (cases_order r.place s.place) [
      | inl e ↦ e
      | inr (inl lt) ↦ absurd (not_below r s rs ss vp (same r.place) lt)
      | inr (inr gt) ↦ absurd (not_below s r ss rs up (sym (same s.place)) gt)
    ] in
    let here : r ∷ filter (at r.place) rs ≡ s ∷ filter (at s.place) ss = sym (first_at r rs) ∙ same r.place ∙ ap (λ (n : ℕ). filter (at n) (s ∷ ss)) place ∙ first_at s ss in
    let first : r ≡ s = (heads _ _ _ _ here).0 in
    let rest : rs ≡ ss = only_order rs ss up.1 vp.1 (λ n. without_first n r rs ss (same n ∙ ap (λ (x : Reloc). filter (at n) (x ∷ ss)) (sym first))) in
    cc

-- ---- what the definition of the order keeps

at_one : (a b : Bool) (x r : Reloc) (rs : List Reloc) → (a && b) ≡ false → cond a (x ∷ cond b (r ∷ rs) rs) (cond b (r ∷ rs) rs) ≡ cond b (r ∷ cond a (x ∷ rs) rs) (cond a (x ∷ rs) rs)
at_one true true x r rs e = absurd cc
at_one true false x r rs e = refl
at_one false b x r rs e = refl

not_both : (n : ℕ) (x r : Reloc) → x.place < r.place → (at n x && at n r) ≡ false
not_both n x r lt = elim (cases_eq x.place n) [
  | inl e ↦ rw (eq-eqb x.place n e) (ne_eqb r.place n (λ f. omega arith))
  | inr ne ↦ rw (ne_eqb x.place n ne) refl
]

placed_keeps : (n : ℕ) (r : Reloc) (rs : List Reloc) → filter (at n) (placed r rs) ≡ filter (at n) (r ∷ rs)
placed_keeps n r [] = refl
placed_keeps n r (x ∷ xs) = elim (cases_Bool (nat_lt x.place r.place)) [
  | inl before ↦ rw before (ap (λ (ys : List Reloc). cond (at n x) (x ∷ ys) ys) (placed_keeps n r xs) ∙ at_one (at n x) (at n r) x r (filter (at n) xs) (not_both n x r (ltb-true x.place r.place before)))
  | inr behind ↦ rw behind refl
]

by_place_keeps : (n : ℕ) (rs : List Reloc) → filter (at n) (by_place rs) ≡ filter (at n) rs
by_place_keeps n [] = refl
by_place_keeps n (r ∷ rs) = placed_keeps n r (by_place rs) ∙ ap (λ (ys : List Reloc). cond (at n r) (r ∷ ys) ys) (by_place_keeps n rs)

placed_all : (P : Reloc → Type 0) (r : Reloc) (rs : List Reloc) → P r → AllByRecursion P rs → AllByRecursion P (placed r rs)
placed_all P r [] here all = (here, tt)
placed_all P r (x ∷ xs) here all = elim (cases_Bool (nat_lt x.place r.place)) [
  | inl before ↦ rw before (all.0, placed_all P r xs here all.1)
  | inr behind ↦ rw behind (here, all)
]

pub by_place_all : (P : Reloc → Type 0) (rs : List Reloc) → AllByRecursion P rs → AllByRecursion P (by_place rs)
by_place_all P [] all = tt
by_place_all P (r ∷ rs) all = placed_all P r (by_place rs) all.0 (by_place_all P rs all.1)

least_first : (r x : Reloc) (xs : List Reloc) → r.place ≤ x.place → Rise (x ∷ xs) → AllByRecursion (λ later. r.place ≤ later.place) (x ∷ xs)
least_first r x xs le rise = (le, weaker xs rise.0)
  where
    weaker : (ys : List Reloc) → AllByRecursion (λ later. x.place ≤ later.place) ys → AllByRecursion (λ later. r.place ≤ later.place) ys
    weaker [] all = tt
    weaker (y ∷ ys) all = let h : x.place ≤ y.place = all.0 in (omega arith, weaker ys all.1)

placed_rise : (r : Reloc) (rs : List Reloc) → Rise rs → Rise (placed r rs)
placed_rise r [] rise = (tt, tt)
placed_rise r (x ∷ xs) rise = elim (cases_Bool (nat_lt x.place r.place)) [
  | inl before ↦ let lt : x.place < r.place = ltb-true x.place r.place before in rw before (placed_all (λ later. x.place ≤ later.place) r xs (omega arith) rise.0, placed_rise r xs rise.1)
  | inr behind ↦ rw behind (least_first r x xs (ltb-false x.place r.place behind) rise, rise)
]

by_place_rise : (rs : List Reloc) → Rise (by_place rs)
by_place_rise [] = tt
by_place_rise (r ∷ rs) = placed_rise r (by_place rs) (by_place_rise rs)

-- ---- a stable sort gives that order

abbrev of_place : ℕ → Reloc
of_place n = record { place = n; symbol = 0; outer = false }

abbrev below : Reloc → Reloc → Bool
below x y = is_lt (nat_cmp x.place y.place)

ties_at : (n : ℕ) (r : Reloc) → ties below (of_place n) r ≡ at n r
ties_at n r = elim (cases_order n r.place) [
  | inl e ↦ rw (le-ltb n r.place (omega arith), le-ltb r.place n (omega arith), eq-eqb n r.place e, eq-eqb r.place n (sym e)) refl
  | inr (inl lt) ↦ rw (lt-ltb n r.place lt, ne_eqb r.place n (λ e. omega arith)) refl
  | inr (inr gt) ↦ rw (lt-ltb r.place n gt, le-ltb n r.place (omega arith), ne_eqb n r.place (λ e. omega arith), ne_eqb r.place n (λ e. omega arith)) refl
]

pub sorted_is : (rs ss : List Reloc) → IsNonDecreasingBy (λ r. r.place) ss → IsStableByKey (λ r. r.place) nat_cmp rs ss → ss ≡ by_place rs
sorted_is rs ss up stable = only_order ss (by_place rs) (rise_from ss up) (by_place_rise rs)
    (λ n. filter_agree (at n) (ties below (of_place n)) (λ r. sym (ties_at n r)) ss ∙ stable (of_place n) ∙ filter_agree (ties below (of_place n)) (at n) (ties_at n) rs ∙ sym (by_place_keeps n rs))

-- ---- relocations that are apart

apart_step : (part : Part) (r next : Reloc) (rs : List Reloc) → all_apart part (r ∷ next ∷ rs) ≡ Ok tt → (r.place + 8 ≤ next.place) × (all_apart part (next ∷ rs) ≡ Ok tt)
apart_step part r next rs e = elim (cases_Bool (nat_lt next.place (r.place + 8))) [
  | inl meets ↦ absurd (let f = rw meets at e in cc)
  | inr apart ↦ (ltb-false next.place (r.place + 8) apart, let f = rw apart at e in f)
]

pub apart_rise : (part : Part) (rs : List Reloc) → all_apart part rs ≡ Ok tt → AllPairs (λ r later. r.place + 8 ≤ later.place) rs
apart_rise part [] e = λ i j d lt within. absurd (omega arith)
apart_rise part (r ∷ []) e = λ i j d lt within. absurd (omega arith)
apart_rise part (r ∷ next ∷ rs) e =
    let step = apart_step part r next rs e in
    let others : AllPairs (λ r later. r.place + 8 ≤ later.place) (next ∷ rs) = apart_rise part (next ∷ rs) step.1 in
    AllPairs-cons (λ r later. r.place + 8 ≤ later.place) r (next ∷ rs) (λ k d lt. behind k d lt step.0 others) others
  where
    behind : (k : ℕ) (d : Reloc) → k < length (next ∷ rs) → r.place + 8 ≤ next.place → AllPairs (λ r later. r.place + 8 ≤ later.place) (next ∷ rs) → r.place + 8 ≤ (get_or (next ∷ rs) k d).place
    behind zero d lt first others = first
    behind (suc k) d lt first others = let h : next.place + 8 ≤ (get_or (next ∷ rs) (suc k) d).place = others 0 (suc k) d (omega arith) lt in omega arith

two_at : (rs : List Reloc) (i : ℕ) (d : Reloc) → 1 ≤ i → i < length rs → drop (i - 1) rs ≡ get_or rs (i - 1) d ∷ get_or rs i d ∷ drop (i + 1) rs
two_at rs i d from lt =
    let next : i - 1 + 1 ≡ i = omega arith in
    drop_more rs (i - 1) d (omega arith) ∙ ap (λ (k : ℕ). get_or rs (i - 1) d ∷ drop k rs) next ∙ ap (λ (xs : List Reloc). get_or rs (i - 1) d ∷ xs) (drop_more rs i d lt)

-- one more is behind the one before it
pub apart_more : (part : Part) (rs : List Reloc) (i : ℕ) (d : Reloc) (total : Result (Unit {0}) Fault) → 1 ≤ i → i < length rs → (get_or rs (i - 1) d).place + 8 ≤ (get_or rs i d).place
    → all_apart part (drop (i - 1) rs) ≡ total → all_apart part (drop (i + 1 - 1) rs) ≡ total
apart_more part rs i d total from lt apart so_far =
    let same : i + 1 - 1 ≡ i = omega arith in
    let ok : nat_lt (get_or rs i d).place ((get_or rs (i - 1) d).place + 8) ≡ false = le-ltb _ _ apart in
    let one : all_apart part (drop (i - 1) rs) ≡ all_apart part (get_or rs i d ∷ drop (i + 1) rs) = ap (all_apart part) (two_at rs i d from lt) ∙ rw ok refl in
    ap (λ (k : ℕ). all_apart part (drop k rs)) same ∙ ap (all_apart part) (drop_more rs i d lt) ∙ sym one ∙ so_far

-- one meets the one before it
pub apart_fail : (part : Part) (rs : List Reloc) (i : ℕ) (d : Reloc) (total : Result (Unit {0}) Fault) → 1 ≤ i → i < length rs → (get_or rs i d).place < (get_or rs (i - 1) d).place + 8
    → all_apart part (drop (i - 1) rs) ≡ total → total ≡ Err (overlap part (get_or rs i d).place)
apart_fail part rs i d total from lt meets so_far =
    let wrong : nat_lt (get_or rs i d).place ((get_or rs (i - 1) d).place + 8) ≡ true = lt-ltb _ _ meets in
    sym so_far ∙ ap (all_apart part) (two_at rs i d from lt) ∙ rw wrong refl

-- the last one has none behind it
pub apart_end : (part : Part) (rs : List Reloc) (i : ℕ) (total : Result (Unit {0}) Fault) → 1 ≤ i → length rs ≤ i → all_apart part (drop (i - 1) rs) ≡ total → total ≡ Ok tt
apart_end part rs i total from last so_far = sym so_far ∙ short part (drop (i - 1) rs) (omega (arith, length-drop (i - 1) rs))
  where
    short : (part : Part) (xs : List Reloc) → length xs ≤ 1 → all_apart part xs ≡ Ok tt
    short part [] le = refl
    short part (x ∷ []) le = refl
    short part (x ∷ y ∷ xs) le = absurd (omega arith)
