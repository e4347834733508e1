-- Items by rising keys, kept in a map of their keys.
use Rattle.std.proofs.Common.{◌≡◌, ℕ, ◌<◌, ◌≤◌, ◌==◌, Bool, true, false, cond, List, [], ◌∷◌, map, nat_lt, Option, Some, None, refl, sym, ap, ◌∙◌, arith, Less, Equal, Greater}
use Rattle.std.specs.Bool.{⊤}
use Rattle.std.specs.BTreeMap.{insert_entry}
use Rattle.std.specs.List.{AllByRecursion, AllPairs, cons_option, filter_map}
use Rattle.std.specs.Ordering.{match_ordering, nat_cmp}
use Rattle.std.proofs.lemmas.Bool.{eqb-true, eqb-false, ltb-true, ltb-false}
use Rattle.std.proofs.lemmas.List.Elements.{All-from_recursion}
use Rattle.std.proofs.lemmas.List.Kept.{AllPairs-cons}
use Rattle.ds_base.specs.InOrder.{in_order, placed}

-- ---- the map of the keys

-- items with their keys
abbrev pub by_key : {A : Type 0} → (A → ℕ) → List A → List (ℕ × A)
by_key key items = map (λ x. (key x, x)) items

joined : {A : Type 0} (key : A → ℕ) (below same : Bool) (a b c : List (ℕ × A)) (d e f : List A) → a ≡ by_key key d → (same ≡ true → b ≡ by_key key e) → c ≡ by_key key f
    → match_ordering (cond below Less (cond same Equal Greater)) a b c ≡ by_key key (cond below d (cond same e f))
joined key true same a b c d e f p q r = p
joined key false true a b c d e f p q r = q refl
joined key false false a b c d e f p q r = r

placed_put : {A : Type 0} (key : A → ℕ) (item : A) (xs : List A) → insert_entry nat_cmp (by_key key xs) (key item) item ≡ by_key key (placed key item xs)
placed_put key item [] = refl
placed_put {A} key item (x ∷ xs) = joined key (nat_lt (key item) (key x)) (key item == key x) _ _ _ _ _ _ refl
    (λ same. ap (λ (n : ℕ). (n, item) ∷ by_key key xs) (sym (eqb-true (key item) (key x) same)))
    (ap (λ (es : List (ℕ × A)). (key x, x) ∷ es) (placed_put key item xs))

-- one more before the others, whose item is put in
pub put_more : {G A : Type 0} (key : A → ℕ) (part : G → Option A) (entries : List (ℕ × A)) (g : G) (gs : List G) (item : A) → part g ≡ Some item
    → entries ≡ by_key key (in_order key (filter_map part gs)) → insert_entry nat_cmp entries (key item) item ≡ by_key key (in_order key (filter_map part (g ∷ gs)))
put_more {G} {A} key part entries g gs item is so_far =
    ap (λ (es : List (ℕ × A)). insert_entry nat_cmp es (key item) item) so_far ∙ placed_put key item (in_order key (filter_map part gs))
    ∙ ap (λ (o : Option A). by_key key (in_order key (cons_option o (filter_map part gs)))) (sym is)

-- one more before the others, without an item
pub put_none : {G A : Type 0} (key : A → ℕ) (part : G → Option A) (entries : List (ℕ × A)) (g : G) (gs : List G) → part g ≡ None
    → entries ≡ by_key key (in_order key (filter_map part gs)) → entries ≡ by_key key (in_order key (filter_map part (g ∷ gs)))
put_none {G} {A} key part entries g gs is so_far = so_far ∙ ap (λ (o : Option A). by_key key (in_order key (cons_option o (filter_map part gs)))) (sym is)

pub values : {A : Type 0} (key : A → ℕ) (xs : List A) → map (λ e. e.1) (by_key key xs) ≡ xs
values key [] = refl
values {A} key (x ∷ xs) = ap (λ (ys : List A). x ∷ ys) (values key xs)

-- ---- rising keys

abbrev pub Rise : {A : Type 0} → (A → ℕ) → List A → Type 0
Rise key [] = ⊤
Rise key (x ∷ xs) = AllByRecursion (λ later. key x < key later) xs × Rise key xs

all_if : {A : Type 0} (P : A → Type 0) (below same : Bool) (a b c : List A) → AllByRecursion P a → AllByRecursion P b → AllByRecursion P c → AllByRecursion P (cond below a (cond same b c))
all_if P true same a b c p q r = p
all_if P false true a b c p q r = q
all_if P false false a b c p q r = r

-- what holds of the items holds of them in order
placed_all : {A : Type 0} (P : A → Type 0) (key : A → ℕ) (item : A) (xs : List A) → P item → AllByRecursion P xs → AllByRecursion P (placed key item xs)
placed_all P key item [] p all = (p, tt)
placed_all P key item (x ∷ xs) p all = all_if P (nat_lt (key item) (key x)) (key item == key x) _ _ _ (p, all) (p, all.1) (all.0, placed_all P key item xs p all.1)

pub in_order_all : {A : Type 0} (P : A → Type 0) (key : A → ℕ) (xs : List A) → AllByRecursion P xs → AllByRecursion P (in_order key xs)
in_order_all P key [] all = tt
in_order_all P key (x ∷ xs) all = placed_all P key x (in_order key xs) all.0 (in_order_all P key xs all.1)

rise_if : {A : Type 0} (key : A → ℕ) (below same : Bool) (a b c : List A) → (below ≡ true → Rise key a) → (same ≡ true → Rise key b) → (below ≡ false → same ≡ false → Rise key c) → Rise key (cond below a (cond same b c))
rise_if key true same a b c p q r = p refl
rise_if key false true a b c p q r = q refl
rise_if key false false a b c p q r = r refl refl

larger : (m n : ℕ) → nat_lt m n ≡ false → (m == n) ≡ false → n < m
larger m n not_below differs = let le : n ≤ m = ltb-false m n not_below in let ne : m ≡ n → ⊥ = eqb-false m n differs in omega arith

above : {A : Type 0} (key : A → ℕ) (m n : ℕ) → m ≤ n → (xs : List A) → AllByRecursion (λ l. n < key l) xs → AllByRecursion (λ l. m < key l) xs
above key m n le [] all = tt
above key m n le (x ∷ xs) all = let h : n < key x = all.0 in (omega arith, above key m n le xs all.1)

placed_rise : {A : Type 0} (key : A → ℕ) (item : A) (xs : List A) → Rise key xs → Rise key (placed key item xs)
placed_rise key item [] rise = (tt, tt)
placed_rise key item (x ∷ xs) rise = rise_if key (nat_lt (key item) (key x)) (key item == key x) _ _ _
    (λ below. let lt : key item < key x = ltb-true (key item) (key x) below in ((lt, above key (key item) (key x) (omega arith) xs rise.0), rise))
    (λ same. let e : key item ≡ key x = eqb-true (key item) (key x) same in (above key (key item) (key x) (omega arith) xs rise.0, rise.1))
    (λ not_below differs. (placed_all (λ l. key x < key l) key item xs (larger (key item) (key x) not_below differs) rise.0, placed_rise key item xs rise.1))

pub in_order_rise : {A : Type 0} (key : A → ℕ) (xs : List A) → Rise key (in_order key xs)
in_order_rise key [] = tt
in_order_rise key (x ∷ xs) = placed_rise key x (in_order key xs) (in_order_rise key xs)

pub rise_pairs : {A : Type 0} (key : A → ℕ) (xs : List A) → Rise key xs → AllPairs (λ x later. key x < key later) xs
rise_pairs key [] rise = λ i j d lt within. absurd (omega arith)
rise_pairs key (x ∷ xs) rise = AllPairs-cons (λ x later. key x < key later) x xs (All-from_recursion (λ later. key x < key later) xs rise.0) (rise_pairs key xs rise.1)
