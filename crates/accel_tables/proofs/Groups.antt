-- Neighbours of one key in groups.
use Rattle.std.proofs.Common.{◌≡◌, ℕ, suc, ◌+◌, ◌<◌, ◌==◌, Bool, true, false, cond, List, [], ◌∷◌, length, take, drop, get_or, refl, sym, ap, ◌∙◌, arith}
use Rattle.std.specs.List.{prefix_len}
use Rattle.std.proofs.lemmas.Bool.{eq-eqb, eqb-true}
use Rattle.accel_tables.specs.Table.{groups, with_group}

one_more : {A : Type 0} (m : ℕ) (x : A) (xs : List A) → take (1 + m) (x ∷ xs) ≡ x ∷ take m xs
one_more m x xs = let on : 1 + m ≡ suc m = omega arith in ap (λ n. take n (x ∷ xs)) on

one_less : {A : Type 0} (m : ℕ) (x : A) (xs : List A) → drop (1 + m) (x ∷ xs) ≡ drop m xs
one_less m x xs = let on : 1 + m ≡ suc m = omega arith in ap (λ n. drop n (x ∷ xs)) on

-- how many items have the key
abbrev like : {A : Type 0} → (A → ℕ) → ℕ → List A → ℕ
like key k xs = prefix_len (λ y. k == key y) xs

-- the first group of items is the first of them with those behind it up to another key
first_group : {A : Type 0} (key : A → ℕ) (x : A) (xs : List A) → groups key (x ∷ xs) ≡ (x ∷ take (like key (key x) xs) xs) ∷ groups key (drop (like key (key x) xs) xs)
first_group key x [] = refl
first_group {A} key x (y ∷ ys) = ap (with_group key x) (first_group key y ys) ∙ by (key x == key y) refl (first_group key y ys)
  where
    by : (b : Bool) → (key x == key y) ≡ b → groups key (y ∷ ys) ≡ (y ∷ take (like key (key y) ys) ys) ∷ groups key (drop (like key (key y) ys) ys)
        → cond b ((x ∷ y ∷ take (like key (key y) ys) ys) ∷ groups key (drop (like key (key y) ys) ys)) ((x ∷ []) ∷ (y ∷ take (like key (key y) ys) ys) ∷ groups key (drop (like key (key y) ys) ys))
        ≡ (x ∷ take (cond b (1 + like key (key x) ys) 0) (y ∷ ys)) ∷ groups key (drop (cond b (1 + like key (key x) ys) 0) (y ∷ ys))
    by true e behind =
        ap (λ (k : ℕ). (x ∷ y ∷ take (like key k ys) ys) ∷ groups key (drop (like key k ys) ys)) (sym (eqb-true (key x) (key y) e))
        ∙ ap (λ (front : List A). (x ∷ front) ∷ groups key (drop (like key (key x) ys) ys)) (sym (one_more (like key (key x) ys) y ys))
        ∙ ap (λ (more : List A). (x ∷ take (1 + like key (key x) ys) (y ∷ ys)) ∷ groups key more) (sym (one_less (like key (key x) ys) y ys))
    by false e behind = ap (λ (gs : List (List A)). (x ∷ []) ∷ gs) (sym behind)

-- the same of some items, by how many have the key of the first
pub run_of : {A : Type 0} (key : A → ℕ) (rest : List A) (d : A) (n : ℕ) → 0 < length rest → n ≡ prefix_len (λ y. key (get_or rest 0 d) == key y) rest
    → (groups key rest ≡ take n rest ∷ groups key (drop n rest)) × (0 < n)
run_of key [] d n some is = absurd (omega (arith, some))
run_of {A} key (x ∷ xs) d n some is =
    let m : ℕ = like key (key x) xs in
    let full : n ≡ 1 + m = is ∙ ap (λ (b : Bool). cond b (1 + m) 0) (eq-eqb (key x) (key x) refl) in (
      first_group key x xs
          ∙ ap (λ (front : List A). front ∷ groups key (drop m xs)) (sym (one_more m x xs))
          ∙ ap (λ (more : List A). take (1 + m) (x ∷ xs) ∷ groups key more) (sym (one_less m x xs))
          ∙ ap (λ (k : ℕ). take k (x ∷ xs) ∷ groups key (drop k (x ∷ xs))) (sym full),
      omega (arith, full),
    )
