-- Sums over views, and how often a number stands in a list.
use Rattle.std.proofs.Common.{◌≡◌, ◌≢◌, ℕ, zero, suc, ◌+◌, ◌<◌, ◌≤◌, true, cond, List, [], ◌∷◌, ◌++◌, length, set, sym, refl, ap, subst, ◌∙◌, arith}
use Rattle.std.specs.Prelude.{nat_eq}
use Rattle.std.specs.List.{sum_by}
use Rattle.std.proofs.lemmas.List.Sums.{sum_by-cons}
use Rattle.std.proofs.lemmas.Bool.{lt-ltb, le-ltb, ne_eqb, cases_lt, cases_eq}
use mathlib.Core.Option.{some, some-injective, some-ne-none}
use mathlib.Core.Logic.{⊎_elim}
use lib.ListN.{get_elem?}
use Rattle.work_share.specs.declared.view.TaskView.{TaskView}
use Rattle.work_share.specs.Numbers.{times, once_below, above, left}

module _ (f : TaskView → ℕ) where
  pub total_set : (vs : List TaskView) (id : ℕ) (v w : TaskView) → get_elem? vs id ≡ some v → sum_by f (set vs id w) + f v ≡ sum_by f vs + f w
  total_set [] id v w e = absurd (some-ne-none v (sym e))
  total_set (x ∷ xs) zero v w e = let same : f x ≡ f v = ap f (some-injective x v e) in omega (arith, same, sum_by-cons f w xs, sum_by-cons f x xs)
  total_set (x ∷ xs) (suc id) v w e = let rest = total_set xs id v w e in omega (arith, rest, sum_by-cons f x (set xs id w), sum_by-cons f x xs)

  pub part_le : (vs : List TaskView) (id : ℕ) (v : TaskView) → get_elem? vs id ≡ some v → f v ≤ sum_by f vs
  part_le [] id v e = absurd (some-ne-none v (sym e))
  part_le (x ∷ xs) zero v e = let same : f x ≡ f v = ap f (some-injective x v e) in omega (arith, same, sum_by-cons f x xs)
  part_le (x ∷ xs) (suc id) v e = omega (arith, part_le xs id v e, sum_by-cons f x xs)

-- where g is 0, f is 0 too
module _ (f g : TaskView → ℕ) where
  pub total_none : (vs : List TaskView) → sum_by g vs ≡ 0 → ((j : ℕ) (u : TaskView) → get_elem? vs j ≡ some u → g u ≡ 0 → f u ≡ 0) → sum_by f vs ≡ 0
  total_none [] e zeros = refl
  total_none (x ∷ xs) e zeros =
      let gs = sum_by-cons g x xs in
      let one : f x ≡ 0 = zeros 0 x refl (omega (arith, gs, e)) in
      let rest : sum_by f xs ≡ 0 = total_none xs (omega (arith, gs, e)) (λ j u at. zeros (suc j) u at) in
      omega (arith, sum_by-cons f x xs, one, rest)

  -- one view has all of g, so all of f
  pub total_alone : (vs : List TaskView) (id : ℕ) (v : TaskView) → get_elem? vs id ≡ some v → sum_by g vs ≡ g v
      → ((j : ℕ) (u : TaskView) → get_elem? vs j ≡ some u → g u ≡ 0 → f u ≡ 0) → sum_by f vs ≡ f v
  total_alone [] id v e all zeros = absurd (some-ne-none v (sym e))
  total_alone (x ∷ xs) zero v e all zeros =
      let same : x ≡ v = some-injective x v e in
      let gs : g x ≡ g v = ap g same in
      let fs : f x ≡ f v = ap f same in
      let rest : sum_by f xs ≡ 0 = total_none xs (omega (arith, gs, all, sum_by-cons g x xs)) (λ j u at. zeros (suc j) u at) in
      omega (arith, fs, rest, sum_by-cons f x xs)
  total_alone (x ∷ xs) (suc id) v e all zeros =
      let part : g v ≤ sum_by g xs = part_le g xs id v e in
      let both = sum_by-cons g x xs in
      let one : f x ≡ 0 = zeros 0 x refl (omega (arith, part, both, all)) in
      let rest : sum_by f xs ≡ f v = total_alone xs id v e (omega (arith, part, both, all)) (λ j u at. zeros (suc j) u at) in
      omega (arith, one, rest, sum_by-cons f x xs)

pub times-append : (x : ℕ) (xs ys : List ℕ) → times x (xs ++ ys) ≡ times x xs + times x ys
times-append x [] ys = omega arith
times-append x (z ∷ zs) ys = omega (arith, times-append x zs ys)

pub times_here : (x : ℕ) → times x (x ∷ []) ≡ 1
times_here x = let e : nat_eq x x ≡ true = grind arith in ap (λ b. cond b 1 0 + 0) e

pub below_yes : (x n : ℕ) → x < n → once_below x n ≡ 1
below_yes x n lt = ap (λ b. cond b 1 0) (lt-ltb x n lt)

pub below_no : (x n : ℕ) → n ≤ x → once_below x n ≡ 0
below_no x n le = ap (λ b. cond b 1 0) (le-ltb x n le)

pub below_is : (x n : ℕ) → 1 ≤ once_below x n → x < n
below_is x n h = ⊎_elim (λ lt. lt) (λ le. let e = below_no x n le in absurd (omega arith)) (cases_lt x n)

pub below_le : (x n : ℕ) → once_below x n ≤ 1
below_le x n = ⊎_elim (λ lt. let e = below_yes x n lt in omega arith) (λ le. let e = below_no x n le in omega arith) (cases_lt x n)

pub times_other : (x n : ℕ) → (n ≡ x → ⊥) → times x (n ∷ []) ≡ 0
times_other x n ne = ap (λ b. cond b 1 0 + 0) (ne_eqb n x ne)

-- one number more
pub below_more : (x n : ℕ) → once_below x (n + 1) ≡ once_below x n + times x (n ∷ [])
below_more x n = ⊎_elim
    (λ (lt : x < n). let a = below_yes x (n + 1) (omega arith) in let b = below_yes x n lt in let c = times_other x n (λ e. omega arith) in omega (arith, a, b, c))
    (λ (le : n ≤ x). ⊎_elim
    (λ (e : x ≡ n). let a = below_yes x (n + 1) (omega arith) in let b = below_no x n le in let c : times x (n ∷ []) ≡ 1 = subst (λ k. times x (k ∷ []) ≡ 1) e (times_here x) in omega (arith, a, b, c))
    (λ (ne : x ≢ n). let a = below_no x (n + 1) (omega arith) in let b = below_no x n le in let c = times_other x n (λ e. ne (sym e)) in omega (arith, a, b, c))
    (cases_eq x n))
    (cases_lt x n)

pub above_le : (n : ℕ) (xs : List ℕ) → ((x : ℕ) → 1 ≤ times x xs → x < n) → above xs ≤ n
above_le n [] h = omega arith
above_le n (x ∷ xs) h =
    let here = times-append x (x ∷ []) xs in
    let one = times_here x in
    let first : x < n = h x (omega (arith, here, one)) in
    let rest : above xs ≤ n = above_le n xs (λ y seen. h y (omega (arith, times-append y (x ∷ []) xs))) in
    omega arith

-- Of different numbers below n there are at most n: the numbers are counted by value.
abbrev tally : ℕ → List ℕ → ℕ
tally zero xs = 0
tally (suc n) xs = times n xs + tally n xs

tally_none : (n : ℕ) → tally n [] ≡ 0
tally_none zero = refl
tally_none (suc n) = omega (arith, tally_none n)

tally_one : (n y : ℕ) (ys : List ℕ) → tally n (y ∷ ys) ≡ once_below y n + tally n ys
tally_one zero y ys = let e = below_no y 0 (omega arith) in omega (arith, e)
tally_one (suc n) y ys =
    let on : suc n ≡ n + 1 = omega arith in
    let e : once_below y (suc n) ≡ once_below y (n + 1) = ap (once_below y) on in
    let more = below_more y n in
    let swap : times n (y ∷ []) ≡ times y (n ∷ []) = times_both n y in
    omega (arith, tally_one n y ys, times-append n (y ∷ []) ys, e, more, swap)
  where
    times_both : (a b : ℕ) → times a (b ∷ []) ≡ times b (a ∷ [])
    times_both a b = ⊎_elim (λ (e : a ≡ b). ap (λ (p : ℕ × ℕ). times p.0 (p.1 ∷ [])) (λ i. (e i, sym e i))) (λ (ne : a ≢ b). times_other a b (λ e. ne (sym e)) ∙ sym (times_other b a ne)) (cases_eq a b)

tally_all : (n : ℕ) (xs : List ℕ) → ((x : ℕ) → 1 ≤ times x xs → x < n) → tally n xs ≡ length xs
tally_all n [] h = tally_none n
tally_all n (x ∷ xs) h =
    let first : x < n = h x (omega (arith, times-append x (x ∷ []) xs, times_here x)) in
    let rest : tally n xs ≡ length xs = tally_all n xs (λ y seen. h y (omega (arith, times-append y (x ∷ []) xs))) in
    omega (arith, tally_one n x xs, below_yes x n first)

tally_le : (n : ℕ) (xs : List ℕ) → ((x : ℕ) → times x xs ≤ 1) → tally n xs ≤ n
tally_le zero xs h = omega arith
tally_le (suc n) xs h = let a = h n in let b = tally_le n xs h in omega arith

pub few_below : (n : ℕ) (xs : List ℕ) → ((x : ℕ) → times x xs ≤ 1) → ((x : ℕ) → 1 ≤ times x xs → x < n) → length xs ≤ n
few_below n xs once below = omega (arith, tally_all n xs below, tally_le n xs once)

pub above_push : (xs : List ℕ) (n : ℕ) → above xs ≤ n → above (xs ++ n ∷ []) ≡ n + 1
above_push [] n le = omega arith
above_push (x ∷ xs) n le = let rest = above_push xs n (omega arith) in omega (arith, rest)

-- who draws a number below the count comes nearer to the end
pub comes_nearer : (count n : ℕ) (xs ys : List ℕ) → n < count → above xs ≤ n → ys ≡ xs ++ n ∷ [] → left count ys < left count xs
comes_nearer count n xs ys lt le e = omega (arith, above_push xs n le, ap above e)
