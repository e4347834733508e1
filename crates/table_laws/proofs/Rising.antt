-- Items in order rise, and what holds of items holds of them in order.
use Rattle.std.proofs.Common.{◌≡◌, ℕ, ◌<◌, ◌≤◌, ◌==◌, Bool, true, false, cond, List, [], ◌∷◌, nat_lt, refl, arith}
use Rattle.std.specs.Bool.{⊤}
use Rattle.std.specs.List.{AllByRecursion}
use Rattle.std.proofs.lemmas.Bool.{eqb-true, eqb-false, ltb-true, ltb-false}
use Rattle.ds_base.specs.InOrder.{in_order, placed}

-- each key is less than those behind it
abbrev pub Rise : {A : Type 0} → (A → ℕ) → List A → Type 0
Rise key [] = ⊤
Rise key (x ∷ xs) = AllByRecursion (λ later. key x < key later) xs × Rise key xs

all_if : {A : Type 0} (P : A → Type 0) (below same : Bool) (a b c : List A) → AllByRecursion P a → AllByRecursion P b → AllByRecursion P c → AllByRecursion P (cond below a (cond same b c))
all_if P true same a b c p q r = p
all_if P false true a b c p q r = q
all_if P false false a b c p q r = r

placed_all : {A : Type 0} (P : A → Type 0) (key : A → ℕ) (item : A) (xs : List A) → P item → AllByRecursion P xs → AllByRecursion P (placed key item xs)
placed_all P key item [] p all = (p, tt)
placed_all P key item (x ∷ xs) p all = all_if P (nat_lt (key item) (key x)) (key item == key x) _ _ _ (p, all) (p, all.1) (all.0, placed_all P key item xs p all.1)

pub in_order_all : {A : Type 0} (P : A → Type 0) (key : A → ℕ) (xs : List A) → AllByRecursion P xs → AllByRecursion P (in_order key xs)
in_order_all P key [] all = tt
in_order_all P key (x ∷ xs) all = placed_all P key x (in_order key xs) all.0 (in_order_all P key xs all.1)

rise_if : {A : Type 0} (key : A → ℕ) (below same : Bool) (a b c : List A) → (below ≡ true → Rise key a) → (same ≡ true → Rise key b) → (below ≡ false → same ≡ false → Rise key c) → Rise key (cond below a (cond same b c))
rise_if key true same a b c p q r = p refl
rise_if key false true a b c p q r = q refl
rise_if key false false a b c p q r = r refl refl

larger : (m n : ℕ) → nat_lt m n ≡ false → (m == n) ≡ false → n < m
larger m n not_below differs = let le : n ≤ m = ltb-false m n not_below in let ne : m ≡ n → ⊥ = eqb-false m n differs in omega arith

pub above : {A : Type 0} (key : A → ℕ) (m n : ℕ) → m ≤ n → (xs : List A) → AllByRecursion (λ l. n < key l) xs → AllByRecursion (λ l. m < key l) xs
above key m n le [] all = tt
above key m n le (x ∷ xs) all = let h : n < key x = all.0 in (omega arith, above key m n le xs all.1)

placed_rise : {A : Type 0} (key : A → ℕ) (item : A) (xs : List A) → Rise key xs → Rise key (placed key item xs)
placed_rise key item [] rise = (tt, tt)
placed_rise key item (x ∷ xs) rise = rise_if key (nat_lt (key item) (key x)) (key item == key x) _ _ _
    (λ below. let lt : key item < key x = ltb-true (key item) (key x) below in ((lt, above key (key item) (key x) (omega arith) xs rise.0), rise))
    (λ same. let e : key item ≡ key x = eqb-true (key item) (key x) same in (above key (key item) (key x) (omega arith) xs rise.0, rise.1))
    (λ not_below differs. (placed_all (λ l. key x < key l) key item xs (larger (key item) (key x) not_below differs) rise.0, placed_rise key item xs rise.1))

pub in_order_rise : {A : Type 0} (key : A → ℕ) (xs : List A) → Rise key (in_order key xs)
in_order_rise key [] = tt
in_order_rise key (x ∷ xs) = placed_rise key x (in_order key xs) (in_order_rise key xs)
