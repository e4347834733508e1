-- Items by rising keys, kept in a map of their keys.
use Rattle.std.proofs.Common.{◌≡◌, ℕ, ◌<◌, ◌==◌, Bool, true, false, cond, List, [], ◌∷◌, length, map, nat_lt, refl, sym, ap, ◌∙◌, arith, Less, Equal, Greater}
use Rattle.std.specs.BTreeMap.{insert_entry}
use Rattle.std.specs.Ordering.{match_ordering, nat_cmp}
use Rattle.std.proofs.lemmas.Bool.{eqb-true}
use Rattle.std.proofs.lemmas.List.{length-map}
use Rattle.ds_base.specs.InOrder.{in_order, placed}
use Rattle.accel_tables.specs.declared.rows.Row.{Row}
use Rattle.accel_tables.specs.Table.{hash_count}

-- items with their keys
abbrev pub by_key : {A : Type 0} → (A → ℕ) → List A → List (ℕ × A)
by_key key items = map (λ x. (key x, x)) items

joined : {A : Type 0} (key : A → ℕ) (below same : Bool) (a b c : List (ℕ × A)) (d e f : List A) → a ≡ by_key key d → (same ≡ true → b ≡ by_key key e) → c ≡ by_key key f
    → match_ordering (cond below Less (cond same Equal Greater)) a b c ≡ by_key key (cond below d (cond same e f))
joined key true same a b c d e f p q r = p
joined key false true a b c d e f p q r = q refl
joined key false false a b c d e f p q r = r

placed_put : {A : Type 0} (key : A → ℕ) (item : A) (xs : List A) → insert_entry nat_cmp (by_key key xs) (key item) item ≡ by_key key (placed key item xs)
placed_put key item [] = refl
placed_put {A} key item (x ∷ xs) = joined key (nat_lt (key item) (key x)) (key item == key x) _ _ _ _ _ _ refl
    (λ same. ap (λ (n : ℕ). (n, item) ∷ by_key key xs) (sym (eqb-true (key item) (key x) same)))
    (ap (λ (es : List (ℕ × A)). (key x, x) ∷ es) (placed_put key item xs))

-- one more before the others is put in
pub put_more : {G A : Type 0} (key : A → ℕ) (part : G → A) (entries : List (ℕ × A)) (k : ℕ) (item : A) (g : G) (gs : List G) → k ≡ key (part g) → item ≡ part g
    → entries ≡ by_key key (in_order key (map part gs)) → insert_entry nat_cmp entries k item ≡ by_key key (in_order key (map part (g ∷ gs)))
put_more {G} {A} key part entries k item g gs its is so_far =
    ap (λ (es : List (ℕ × A)). insert_entry nat_cmp es k item) so_far ∙ ap (λ (n : ℕ). insert_entry nat_cmp (by_key key (in_order key (map part gs))) n item) its
    ∙ ap (λ (x : A). insert_entry nat_cmp (by_key key (in_order key (map part gs))) (key (part g)) x) is ∙ placed_put key (part g) (in_order key (map part gs))

pub values : {A : Type 0} (key : A → ℕ) (xs : List A) → map (λ e. e.1) (by_key key xs) ≡ xs
values key [] = refl
values {A} key (x ∷ xs) = ap (λ (ys : List A). x ∷ ys) (values key xs)

pub as_many : {A : Type 0} (key : A → ℕ) (xs : List A) → length (by_key key xs) ≡ length xs
as_many key xs = length-map xs (λ x. (key x, x))

pub itself : {A : Type 0} (xs : List A) → map (λ x. x) xs ≡ xs
itself [] = refl
itself {A} (x ∷ xs) = ap (λ (ys : List A). x ∷ ys) (itself xs)

-- ---- some rows have some buckets

some_if : {A : Type 0} (below same : Bool) (a b c : List A) → 0 < length a → 0 < length b → 0 < length c → 0 < length (cond below a (cond same b c))
some_if true same a b c p q r = p
some_if false true a b c p q r = q
some_if false false a b c p q r = r

some_placed : {A : Type 0} (key : A → ℕ) (item : A) (xs : List A) → 0 < length (placed key item xs)
some_placed key item [] = omega arith
some_placed key item (x ∷ xs) = some_if (nat_lt (key item) (key x)) (key item == key x) _ _ _ (omega arith) (omega arith) (omega arith)

some_hashes : (rows : List Row) → 0 < length rows → 0 < hash_count rows
some_hashes [] some = absurd (omega (arith, some))
some_hashes (r ∷ rows) some = some_placed (λ hash. hash) r.hash (in_order (λ hash. hash) (map (λ r. r.hash) rows))

pub some_buckets : (rows : List Row) (hashes buckets : ℕ) → hashes ≡ hash_count rows → (0 < hashes → 0 < buckets) → 0 < length rows → 0 < buckets
some_buckets rows hashes buckets is kept some = let found : 0 < hash_count rows = some_hashes rows some in kept (omega (arith, found, is))
