-- Some of the items in order are those items in order, and so are what they are the items of.
use Rattle.std.proofs.Common.{◌≡◌, ℕ, ◌+◌, ◌<◌, ◌≤◌, ◌==◌, Bool, true, false, cond, List, [], ◌∷◌, map, nat_lt, refl, sym, ap, ◌∙◌, arith, ◌⊎◌, inl, inr, true≢false}
use Rattle.std.specs.List.{filter, AllByRecursion}
use Rattle.std.proofs.lemmas.Bool.{eqb-true, eqb-false, ltb-true, lt-ltb, le-ltb, ne_eqb, eq-eqb, cases_lt}
use Rattle.ds_base.specs.InOrder.{in_order, placed}
use Rattle.table_laws.proofs.Rising.{Rise, above, in_order_all, in_order_rise}

pub all_map : {A : Type 0} (P Q : A → Type 0) → ((x : A) → P x → Q x) → (xs : List A) → AllByRecursion P xs → AllByRecursion Q xs
all_map P Q f [] all = tt
all_map P Q f (x ∷ xs) all = (f x all.0, all_map P Q f xs all.1)

-- what holds of all holds of some, which pass besides
pub all_filter : {A : Type 0} (P : A → Type 0) (p : A → Bool) (xs : List A) → AllByRecursion P xs → AllByRecursion (λ x. (p x ≡ true) × P x) (filter p xs)
all_filter P p [] all = tt
all_filter {A} P p (x ∷ xs) all = by (p x) refl (all_filter P p xs all.1)
  where
    by : (b : Bool) → p x ≡ b → AllByRecursion (λ x. (p x ≡ true) × P x) (filter p xs) → AllByRecursion (λ x. (p x ≡ true) × P x) (cond b (x ∷ filter p xs) (filter p xs))
    by true e rest = ((e, all.0), rest)
    by false e rest = rest

some_of : {A : Type 0} (P : A → Type 0) (p : A → Bool) (xs : List A) → AllByRecursion P xs → AllByRecursion P (filter p xs)
some_of P p xs all = all_map (λ x. (p x ≡ true) × P x) P (λ x h. h.1) (filter p xs) (all_filter P p xs all)

first_placed : {A : Type 0} (key : A → ℕ) (item : A) (xs : List A) → AllByRecursion (λ l. key item < key l) xs → placed key item xs ≡ item ∷ xs
first_placed key item [] all = refl
first_placed {A} key item (x ∷ xs) all = ap (λ (b : Bool). cond b (item ∷ x ∷ xs) (cond (key item == key x) (item ∷ xs) (x ∷ placed key item xs))) (lt-ltb (key item) (key x) all.0)

-- an item put among others, seen by those that pass
module _ {A : Type 0} (key : A → ℕ) (p : A → Bool) (P : A → Type 0) (same : (x y : A) → P x → P y → key x ≡ key y → p x ≡ p y) where
  kept : (item : A) → P item → p item ≡ true → (xs : List A) → Rise key xs → AllByRecursion P xs → filter p (placed key item xs) ≡ placed key item (filter p xs)
  kept item its passes [] rise all = rw passes refl
  kept item its passes (x ∷ xs) rise all = by (nat_lt (key item) (key x)) (key item == key x) (p x) (kept item its passes xs rise.1 all.1) refl refl refl
    where
      by : (below equal here : Bool) → filter p (placed key item xs) ≡ placed key item (filter p xs) → nat_lt (key item) (key x) ≡ below → (key item == key x) ≡ equal → p x ≡ here
          → filter p (cond below (item ∷ x ∷ xs) (cond equal (item ∷ xs) (x ∷ placed key item xs))) ≡ placed key item (cond here (x ∷ filter p xs) (filter p xs))
      by true equal true more b e h = rw (passes, h, b) refl
      by true equal false more b e h =
          rw (passes, h) (sym (first_placed key item (filter p xs) (some_of (λ l. key item < key l) p xs (above key (key item) (key x) (let lt : key item < key x = ltb-true (key item) (key x) b in omega arith) xs rise.0))))
      by false true true more b e h = rw (passes, b, e) refl
      by false true false more b e h = absurd (true≢false (sym passes ∙ same item x its all.0 (eqb-true (key item) (key x) e) ∙ h))
      by false false true more b e h = rw (h, b, e) (ap (λ (ys : List A). x ∷ ys) more)
      by false false false more b e h = rw h more

  left_out : (item : A) → P item → p item ≡ false → (xs : List A) → AllByRecursion P xs → filter p (placed key item xs) ≡ filter p xs
  left_out item its fails [] all = rw fails refl
  left_out item its fails (x ∷ xs) all = by (nat_lt (key item) (key x)) (key item == key x) (left_out item its fails xs all.1) refl
    where
      by : (below equal : Bool) → filter p (placed key item xs) ≡ filter p xs → (key item == key x) ≡ equal
          → filter p (cond below (item ∷ x ∷ xs) (cond equal (item ∷ xs) (x ∷ placed key item xs))) ≡ cond (p x) (x ∷ filter p xs) (filter p xs)
      by true equal more e = rw fails refl
      by false true more e = rw (fails, sym (same item x its all.0 (eqb-true (key item) (key x) e)) ∙ fails) refl
      by false false more e = ap (λ (ys : List A). cond (p x) (x ∷ ys) ys) more

  pub sifted : (xs : List A) → AllByRecursion P xs → filter p (in_order key xs) ≡ in_order key (filter p xs)
  sifted [] all = refl
  sifted (x ∷ xs) all = by (p x) refl (sifted xs all.1)
    where
      rest : AllByRecursion P (in_order key xs)
      rest = in_order_all P key xs all.1

      by : (b : Bool) → p x ≡ b → filter p (in_order key xs) ≡ in_order key (filter p xs) → filter p (placed key x (in_order key xs)) ≡ in_order key (cond b (x ∷ filter p xs) (filter p xs))
      by true e more = kept x all.0 e (in_order key xs) (in_order_rise key xs) rest ∙ ap (placed key x) more
      by false e more = left_out x all.0 e (in_order key xs) rest ∙ more

-- ---- what the items are items of, in the same order

-- keys that are so much more
shifted_lt : (c m n : ℕ) → nat_lt (c + m) (c + n) ≡ nat_lt m n
shifted_lt c m n = by (cases_lt m n)
  where
    by : (m < n) ⊎ (n ≤ m) → nat_lt (c + m) (c + n) ≡ nat_lt m n
    by (inl lt) = lt-ltb (c + m) (c + n) (omega (arith, lt)) ∙ sym (lt-ltb m n lt)
    by (inr le) = le-ltb (c + m) (c + n) (omega (arith, le)) ∙ sym (le-ltb m n le)

shifted_eq : (c m n : ℕ) → (c + m == c + n) ≡ (m == n)
shifted_eq c m n = by (m == n) refl
  where
    by : (b : Bool) → (m == n) ≡ b → (c + m == c + n) ≡ b
    by true e = let same : m ≡ n = eqb-true m n e in eq-eqb (c + m) (c + n) (ap (λ (k : ℕ). c + k) same)
    by false e = ne_eqb (c + m) (c + n) (λ same. eqb-false m n e (omega (arith, same)))

placed_seen : {A : Type 0} (key f : A → ℕ) (c : ℕ) (item : A) (xs : List A) → key item ≡ c + f item → AllByRecursion (λ x. key x ≡ c + f x) xs → map f (placed key item xs) ≡ placed (λ n. n) (f item) (map f xs)
placed_seen key f c item [] its all = refl
placed_seen {A} key f c item (x ∷ xs) its all = by (nat_lt (f item) (f x)) (f item == f x) (placed_seen key f c item xs its all.1) below same
  where
    below : nat_lt (key item) (key x) ≡ nat_lt (f item) (f x)
    below = ap (λ (k : ℕ). nat_lt k (key x)) its ∙ ap (λ (k : ℕ). nat_lt (c + f item) k) all.0 ∙ shifted_lt c (f item) (f x)

    same : (key item == key x) ≡ (f item == f x)
    same = ap (λ (k : ℕ). k == key x) its ∙ ap (λ (k : ℕ). c + f item == k) all.0 ∙ shifted_eq c (f item) (f x)

    by : (b e : Bool) → map f (placed key item xs) ≡ placed (λ n. n) (f item) (map f xs) → nat_lt (key item) (key x) ≡ b → (key item == key x) ≡ e → map f (placed key item (x ∷ xs)) ≡ cond b (f item ∷ f x ∷ map f xs) (cond e (f item ∷ map f xs) (f x ∷ placed (λ n. n) (f item) (map f xs)))
    by true e more p q = rw p refl
    by false true more p q = rw (p, q) refl
    by false false more p q = rw (p, q) (ap (λ (ys : List ℕ). f x ∷ ys) more)

pub seen_in_order : {A : Type 0} (key f : A → ℕ) (c : ℕ) (xs : List A) → AllByRecursion (λ x. key x ≡ c + f x) xs → map f (in_order key xs) ≡ in_order (λ n. n) (map f xs)
seen_in_order key f c [] all = refl
seen_in_order key f c (x ∷ xs) all = placed_seen key f c x (in_order key xs) all.0 (in_order_all (λ x. key x ≡ c + f x) key xs all.1) ∙ ap (placed (λ n. n) (f x)) (seen_in_order key f c xs all.1)
