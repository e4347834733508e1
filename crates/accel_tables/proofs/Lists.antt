-- Data lists put one behind the other, and how many bytes a table has.
use Rattle.std.proofs.Common.{◌≡◌, ℕ, suc, ◌+◌, ◌*◌, ◌<◌, List, [], ◌∷◌, ◌++◌, length, map, get_or, refl, sym, ap, ◌∙◌, arith, append_assoc, append-nil, length-append}
use Rattle.std.specs.List.{flat_map}
use Rattle.std.proofs.lemmas.List.{length-map}
use Rattle.std.proofs.lemmas.List.FromFn.{length-map-range_with_len}
use Rattle.accel_tables.specs.declared.rows.Row.{Row}
use Rattle.accel_tables.specs.DataLists.{AreLists}
use Rattle.accel_tables.specs.Table.{bucket_count, data_place, first_in, firsts, groups, hash_count, header_bytes, key_of, list_bytes, parts_with, rank, starts_from, table_of, table_with, word}
use Rattle.ds_base.specs.InOrder.{in_order}

-- ---- one list more

pub more_of : {A : Type 0} (f : List Row → List A) (done done2 : List A) (g : List Row) (gs more : List (List Row)) (all : List A) → gs ≡ g ∷ more → done2 ≡ done ++ f g
    → done ++ flat_map f gs ≡ all → done2 ++ flat_map f more ≡ all
more_of {A} f done done2 g gs more all is put so_far =
    ap (λ (xs : List A). xs ++ flat_map f more) put ∙ append_assoc done (f g) (flat_map f more) ∙ ap (λ (left : List (List Row)). done ++ flat_map f left) (sym is) ∙ so_far

pub hash_put : (done done2 : List ℕ) (g : List Row) (gs more : List (List Row)) (all : List ℕ) → gs ≡ g ∷ more → done2 ≡ done ++ key_of (λ r. r.hash) g ∷ []
    → done ++ map (key_of (λ r. r.hash)) gs ≡ all → done2 ++ map (key_of (λ r. r.hash)) more ≡ all
hash_put done done2 g gs more all is put so_far =
    ap (λ (xs : List ℕ). xs ++ map (key_of (λ r. r.hash)) more) put ∙ append_assoc done (key_of (λ r. r.hash) g ∷ []) (map (key_of (λ r. r.hash)) more)
    ∙ ap (λ (left : List (List Row)). done ++ map (key_of (λ r. r.hash)) left) (sym is) ∙ so_far

pub start_put : (done done2 bytes bytes2 : List ℕ) (g : List Row) (gs more : List (List Row)) (all : List ℕ) → gs ≡ g ∷ more → done2 ≡ done ++ length bytes ∷ [] → bytes2 ≡ bytes ++ list_bytes g
    → done ++ starts_from (length bytes) (map list_bytes gs) ≡ all → done2 ++ starts_from (length bytes2) (map list_bytes more) ≡ all
start_put done done2 bytes bytes2 g gs more all is put longer so_far =
    ap (λ (n : ℕ). done2 ++ starts_from n (map list_bytes more)) (ap length longer ∙ length-append bytes (list_bytes g))
    ∙ ap (λ (xs : List ℕ). xs ++ starts_from (length bytes + length (list_bytes g)) (map list_bytes more)) put
    ∙ append_assoc done (length bytes ∷ []) (starts_from (length bytes + length (list_bytes g)) (map list_bytes more))
    ∙ ap (λ (left : List (List Row)). done ++ starts_from (length bytes) (map list_bytes left)) (sym is) ∙ so_far

pub key_first : {A : Type 0} (key : A → ℕ) (xs : List A) (d : A) → 0 < length xs → key (get_or xs 0 d) ≡ key_of key xs
key_first key [] d some = absurd (omega (arith, some))
key_first key (x ∷ xs) d some = refl

-- none is left
pub none_left : {A B : Type 0} (f : List B → List A) (left : List B) (done all : List A) → f [] ≡ [] → left ≡ [] → done ++ f left ≡ all → done ≡ all
none_left {A} {B} f left done all nothing none so_far =
    sym (append-nil done) ∙ ap (λ (xs : List A). done ++ xs) (sym (ap f none ∙ nothing)) ∙ so_far

-- ---- lengths

length_words : {A : Type 0} (f : A → ℕ) (xs : List A) → length (flat_map (λ x. word (f x)) xs) ≡ 4 * length xs
length_words f [] = refl
length_words f (x ∷ xs) = let rest : length (flat_map (λ y. word (f y)) xs) ≡ 4 * length xs = length_words f xs in omega (arith, rest, length-append (word (f x)) (flat_map (λ y. word (f y)) xs))

length_starts : (at : ℕ) (lists : List (List ℕ)) → length (starts_from at lists) ≡ length lists
length_starts at [] = refl
length_starts at (x ∷ xs) = ap suc (length_starts (at + length x) xs)

length_header : (buckets hashes : ℕ) → length (header_bytes buckets hashes) ≡ 32
length_header buckets hashes = refl

length_parts : (indices hashes starts bytes : List ℕ) → length starts ≡ length hashes → length (parts_with indices hashes starts bytes) ≡ data_place (length indices) (length hashes) + length bytes
length_parts indices hashes starts bytes same =
    let place : ℕ = data_place (length indices) (length hashes) in
    let heads : List ℕ = header_bytes (length indices) (length hashes) in
    let one : List ℕ = flat_map word indices in
    let two : List ℕ = flat_map word hashes in
    let three : List ℕ = flat_map (λ start. word (place + start)) starts in
    let a : length heads ≡ 32 = length_header (length indices) (length hashes) in
    let b : length one ≡ 4 * length indices = length_words (λ n. n) indices in
    let d : length two ≡ 4 * length hashes = length_words (λ n. n) hashes in
    let e : length three ≡ 4 * length starts = length_words (λ start. place + start) starts in
    omega (arith, a, b, d, e, same, length-append heads (one ++ (two ++ (three ++ bytes))), length-append one (two ++ (three ++ bytes)), length-append two (three ++ bytes), length-append three bytes)

pub length_table : (buckets : ℕ) (hashes starts bytes : List ℕ) → length starts ≡ length hashes → length (table_with buckets hashes starts bytes) ≡ data_place buckets (length hashes) + length bytes
length_table buckets hashes starts bytes same =
    length_parts (firsts buckets hashes) hashes starts bytes same
    ∙ ap (λ (n : ℕ). data_place n (length hashes) + length bytes) (length-map-range_with_len (first_in buckets 0 hashes) 0 buckets)

pub put_after : (old mid new a b : List ℕ) → mid ≡ old ++ a → new ≡ mid ++ b → new ≡ old ++ (a ++ b)
put_after old mid new a b first then_ = then_ ∙ ap (λ (xs : List ℕ). xs ++ b) first ∙ append_assoc old a b

-- ---- the whole table

pub table_is : (rows sorted : List Row) (buckets : ℕ) (hashes starts bytes : List ℕ) → buckets ≡ bucket_count (hash_count rows) → sorted ≡ in_order (rank buckets) rows
    → AreLists (groups (λ r. r.hash) sorted) hashes starts bytes → table_with buckets hashes starts bytes ≡ table_of rows
table_is rows sorted buckets hashes starts bytes count order lists =
    let gs : List (List Row) = groups (λ r. r.hash) sorted in
    ap (λ (hs : List ℕ). table_with buckets hs starts bytes) lists.hashes_are
    ∙ ap (λ (ss : List ℕ). table_with buckets (map (key_of (λ r. r.hash)) gs) ss bytes) lists.starts_are
    ∙ ap (λ (bs : List ℕ). table_with buckets (map (key_of (λ r. r.hash)) gs) (starts_from 0 (map list_bytes gs)) bs) lists.data_is
    ∙ ap (λ (rs : List Row). let us : List (List Row) = groups (λ r. r.hash) rs in table_with buckets (map (key_of (λ r. r.hash)) us) (starts_from 0 (map list_bytes us)) (flat_map list_bytes us)) order
    ∙ ap (λ (n : ℕ). let us : List (List Row) = groups (λ r. r.hash) (in_order (rank n) rows) in table_with n (map (key_of (λ r. r.hash)) us) (starts_from 0 (map list_bytes us)) (flat_map list_bytes us)) count

pub as_many : (gs : List (List Row)) (hashes starts bytes : List ℕ) → AreLists gs hashes starts bytes → length starts ≡ length hashes
as_many gs hashes starts bytes lists =
    ap length lists.starts_are ∙ length_starts 0 (map list_bytes gs) ∙ length-map gs list_bytes ∙ sym (length-map gs (key_of (λ r. r.hash))) ∙ ap length (sym lists.hashes_are)

pub size_is : (rows sorted : List Row) (buckets : ℕ) (hashes starts bytes : List ℕ) → buckets ≡ bucket_count (hash_count rows) → sorted ≡ in_order (rank buckets) rows
    → AreLists (groups (λ r. r.hash) sorted) hashes starts bytes → data_place buckets (length hashes) + length bytes ≡ length (table_of rows)
size_is rows sorted buckets hashes starts bytes count order lists =
    sym (length_table buckets hashes starts bytes (as_many _ hashes starts bytes lists)) ∙ ap length (table_is rows sorted buckets hashes starts bytes count order lists)

pub put_five : (t m1 m2 m3 m4 m5 a b x y z : List ℕ) → m1 ≡ t ++ a → m2 ≡ m1 ++ b → m3 ≡ m2 ++ x → m4 ≡ m3 ++ y → m5 ≡ m4 ++ z → m5 ≡ t ++ (a ++ (b ++ (x ++ (y ++ z))))
put_five t m1 m2 m3 m4 m5 a b x y z e1 e2 e3 e4 e5 =
    e5 ∙ ap (λ (xs : List ℕ). xs ++ z) e4 ∙ append_assoc m3 y z
    ∙ ap (λ (xs : List ℕ). xs ++ (y ++ z)) e3 ∙ append_assoc m2 x (y ++ z)
    ∙ ap (λ (xs : List ℕ). xs ++ (x ++ (y ++ z))) e2 ∙ append_assoc m1 b (x ++ (y ++ z))
    ∙ ap (λ (xs : List ℕ). xs ++ (b ++ (x ++ (y ++ z)))) e1 ∙ append_assoc t a (b ++ (x ++ (y ++ z)))
