-- What is found in the table of rows, and in that of names and places.
use Rattle.std.proofs.Common.{◌≡◌, ℕ, ◌+◌, ◌-◌, ◌*◌, ◌/◌, ◌%◌, ◌<◌, ◌≤◌, ◌^◌, Bool, true, false, cond, List, [], ◌∷◌, length, map, Option, Ok, nat_lt, refl, sym, ap, ◌∙◌, subst, arith, mod-lt}
use Rattle.std.specs.List.{filter, flat_map, fold, All, AllByRecursion}
use Rattle.std.specs.Option.{option_map_or}
use Rattle.std.specs.Str.{bytes_eq}
use Rattle.std.proofs.lemmas.Bool.{ltb-true}
use Rattle.std.proofs.lemmas.List.{length-map}
use Rattle.std.proofs.lemmas.Slice.Eq.{bytes_eq-Decides}
use Rattle.std.proofs.lemmas.List.Elements.{All-from_recursion, recursion_from_All}
use Rattle.ds_base.specs.DwarfNumbers.{DJB_HASH_START}
use Rattle.ds_base.specs.InOrder.{in_order}
use Rattle.accel_tables.specs.declared.rows.Row.{Row}
use Rattle.accel_tables.specs.Found.{found}
use Rattle.accel_tables.specs.Hash.{hash_of, hashed}
use Rattle.accel_tables.specs.Table.{bucket_count, groups, hash_count, list_bytes, rank, table_of}
use Rattle.accel_tables.proofs.Order.{some_buckets}
use Rattle.table_laws.specs.Entries.{IsPair, IsRow, is_spelled, places_of, places_under, rising, row_under}
use Rattle.table_laws.proofs.Rising.{Rise, in_order_all, in_order_rise}
use Rattle.table_laws.proofs.Sifted.{all_filter, all_map, seen_in_order, sifted}
use Rattle.table_laws.proofs.Grouped.{Stays, all_both, all_grouped, groups_are, groups_flat, stays_of_groups}
use Rattle.table_laws.proofs.Hashes.{groups_found, hash_is, hash_key}
use Rattle.table_laws.proofs.Items.{wanted}
use Rattle.table_laws.proofs.Parts.{bucket_read, listed, table_head, table_long}

-- ---- numbers of four bytes

hash_small_from : (name : List ℕ) (hash : ℕ) → hash < 2 ^ 32 → fold hashed hash name < 2 ^ 32
hash_small_from [] hash small = small
hash_small_from (c ∷ name) hash small = hash_small_from name (hashed hash c) (mod-lt (hash * 33 + c) (omega arith))

hash_small : (name : List ℕ) → hash_of name < 2 ^ 32
hash_small name = hash_small_from name DJB_HASH_START (omega arith)

-- a row of which each number has four bytes
pub record IsSmall (r : Row) : Type 0 where
  pub hash : r.hash < 2 ^ 32
  pub text : r.text < 2 ^ 32
  pub entry : r.entry < 2 ^ 32

row_small : (strings : List ℕ) (r : Row) → IsRow strings r → IsSmall r
row_small strings r row = record { hash = subst (λ (n : ℕ). n < 2 ^ 32) (sym row.hashed) (hash_small row.text); text = row.text_fits; entry = row.entry_fits }

-- ---- by bucket

residues : (b : ℕ) (r s : Row) → IsSmall r → IsSmall s → rank b r < rank b s → r.hash % b ≤ s.hash % b
residues b r s small small2 lt =
    let m : ℕ = r.hash % b in
    let n : ℕ = s.hash % b in
    let wide : ((m * 4294967296 + r.hash) * 4294967296 + r.text) * 4294967296 + r.entry < ((n * 4294967296 + s.hash) * 4294967296 + s.text) * 4294967296 + s.entry = lt in
    omega (arith, wide, small.hash, small.text, small.entry, small2.hash, small2.text, small2.entry)

same_rank : (b : ℕ) (r s : Row) → IsSmall r → IsSmall s → rank b r ≡ rank b s → r.text ≡ s.text
same_rank b r s small small2 same =
    let m : ℕ = r.hash % b in
    let n : ℕ = s.hash % b in
    let wide : ((m * 4294967296 + r.hash) * 4294967296 + r.text) * 4294967296 + r.entry ≡ ((n * 4294967296 + s.hash) * 4294967296 + s.text) * 4294967296 + s.entry = same in
    omega (arith, wide, small.hash, small.text, small.entry, small2.hash, small2.text, small2.entry)

later_buckets : (b : ℕ) (r : Row) (rows : List Row) → IsSmall r → AllByRecursion IsSmall rows → AllByRecursion (λ (s : Row). rank b r < rank b s) rows → AllByRecursion (λ (s : Row). r.hash % b ≤ s.hash % b) rows
later_buckets b r [] small all above = tt
later_buckets b r (s ∷ rows) small all above = (residues b r s small all.0 above.0, later_buckets b r rows small all.1 above.1)

by_bucket : (b : ℕ) (rows : List Row) → AllByRecursion IsSmall rows → Rise (rank b) rows → Stays (λ (r : Row). r.hash % b) rows
by_bucket b [] all rise = tt
by_bucket b (r ∷ rows) all rise = (later_buckets b r rows all.0 all.1 rise.0, by_bucket b rows all.1 rise.1)

-- ---- the entries of a name

some_count : (h : ℕ) → 0 < h → 0 < bucket_count h
some_count h some = by (nat_lt 1024 h) (nat_lt 16 h) refl refl
  where
    by : (large middle : Bool) → nat_lt 1024 h ≡ large → nat_lt 16 h ≡ middle → 0 < cond large (h / 4) (cond middle (h / 2) h)
    by true middle e f = let lt : 1024 < h = ltb-true 1024 h e in omega (arith, lt)
    by false true e f = let lt : 16 < h = ltb-true 16 h f in omega (arith, lt)
    by false false e f = some

-- of rows of one name, ranks differ as their entries do
one_name : (strings name : List ℕ) (b place : ℕ) (rows : List Row) → AllByRecursion (λ (r : Row). (is_spelled strings name r.text ≡ true) × (IsRow strings r × (is_spelled strings name r.text ≡ true → r.text ≡ place))) rows
    → AllByRecursion (λ (r : Row). rank b r ≡ (((hash_of name % b) * 2 ^ 32 + hash_of name) * 2 ^ 32 + place) * 2 ^ 32 + r.entry) rows
one_name strings name b place [] all = tt
one_name strings name b place (r ∷ rows) all =
    let hash : r.hash ≡ hash_of name = hash_is strings name r all.0.1.0 all.0.0 in
    let text : r.text ≡ place = all.0.1.1 all.0.0 in (
      ap (λ (h : ℕ). (((h % b) * 2 ^ 32 + h) * 2 ^ 32 + r.text) * 2 ^ 32 + r.entry) hash ∙ ap (λ (t : ℕ). (((hash_of name % b) * 2 ^ 32 + hash_of name) * 2 ^ 32 + t) * 2 ^ 32 + r.entry) text,
      one_name strings name b place rows all.1,
    )

wanted_in_order : (strings name : List ℕ) (b place : ℕ) (rows : List Row) → AllByRecursion (IsRow strings) rows → AllByRecursion (λ (r : Row). is_spelled strings name r.text ≡ true → r.text ≡ place) rows
    → wanted strings name (in_order (rank b) rows) ≡ places_of strings name rows
wanted_in_order strings name b place rows are one =
    let passes : Row → Bool = λ (r : Row). is_spelled strings name r.text in
    ap (λ (rs : List Row). map (λ (r : Row). r.entry) rs)
    (sifted (rank b) passes IsSmall (λ r s small small2 same. ap (is_spelled strings name) (same_rank b r s small small2 same)) rows (all_map (IsRow strings) IsSmall (row_small strings) rows are))
    ∙ seen_in_order (rank b) (λ (r : Row). r.entry) ((((hash_of name % b) * 2 ^ 32 + hash_of name) * 2 ^ 32 + place) * 2 ^ 32) (filter passes rows)
    (one_name strings name b place (filter passes rows) (all_filter (λ (r : Row). IsRow strings r × (is_spelled strings name r.text ≡ true → r.text ≡ place)) passes rows (all_both (IsRow strings) (λ (r : Row). is_spelled strings name r.text ≡ true → r.text ≡ place) rows are one)))

-- ---- the laws

pub rows_found : (rows : List Row) (strings name : List ℕ) (place : ℕ) → 0 < length rows → All (IsRow strings) rows → All (λ (r : Row). is_spelled strings name r.text ≡ true → r.text ≡ place) rows → length (table_of rows) < 2 ^ 32 - 1
    → found (table_of rows) strings name ≡ Ok (places_of strings name rows)
rows_found rows strings name place some are one small =
    let b : ℕ = bucket_count (hash_count rows) in
    let sorted : List Row = in_order (rank b) rows in
    let gs : List (List Row) = groups (λ (r : Row). r.hash) sorted in
    let buckets : 0 < b = some_buckets rows (hash_count rows) b refl (some_count (hash_count rows)) some in
    let all : AllByRecursion (IsRow strings) rows = recursion_from_All (IsRow strings) rows are in
    let all2 : AllByRecursion (IsRow strings) sorted = in_order_all (IsRow strings) (rank b) rows all in
    let few : AllByRecursion IsSmall sorted = all_map (IsRow strings) IsSmall (row_small strings) sorted all2 in
    let grouped : AllByRecursion (AllByRecursion (IsRow strings)) gs = all_grouped (IsRow strings) (λ (r : Row). r.hash) sorted all2 in
    let hashes : AllByRecursion (AllByRecursion (λ (r : Row). r.hash < 2 ^ 32)) gs = all_grouped (λ (r : Row). r.hash < 2 ^ 32) (λ (r : Row). r.hash) sorted (all_map IsSmall (λ (r : Row). r.hash < 2 ^ 32) (λ r s. s.hash) sorted few) in
    let long : length (table_of rows) ≡ 32 + 4 * b + 8 * length gs + length (flat_map list_bytes gs) = table_long (table_of rows) b gs refl in
    let order : Stays (λ (g : List Row). hash_key g % b) gs =
    stays_of_groups (λ (n : ℕ). n % b) (λ (r : Row). r.hash) gs (groups_are (λ (r : Row). r.hash) sorted) (subst (λ (rs : List Row). Stays (λ (r : Row). r.hash % b) rs) (sym (groups_flat (λ (r : Row). r.hash) sorted)) (by_bucket b sorted few (in_order_rise (rank b) rows))) in
    groups_found (table_of rows) strings name (record { buckets = b; hashes = length gs }) gs (table_head (table_of rows) b gs refl buckets (omega (arith, small))) refl (omega (arith, small, long))
    (bucket_read (table_of rows) b (hash_of name % b) gs refl (mod-lt (hash_of name) buckets) (omega (arith, small, long)))
    (listed (table_of rows) strings name b gs refl (omega (arith, small)) grouped hashes) grouped (groups_are (λ (r : Row). r.hash) sorted) order
    ∙ ap (λ (rs : List Row). Ok (wanted strings name rs)) (groups_flat (λ (r : Row). r.hash) sorted)
    ∙ ap Ok (wanted_in_order strings name b place rows all (recursion_from_All (λ (r : Row). is_spelled strings name r.text ≡ true → r.text ≡ place) rows one))

-- ---- names and places

pair_spelled : (text : List ℕ → ℕ) (strings name : List ℕ) (pair : List ℕ × ℕ) → IsPair text strings pair → is_spelled strings name (text pair.0) ≡ bytes_eq pair.0 name
pair_spelled text strings name pair is = ap (λ (o : Option (List ℕ)). option_map_or (λ s. bytes_eq s name) o false) is.spelled

pair_rows : (text : List ℕ → ℕ) (strings : List ℕ) (pairs : List (List ℕ × ℕ)) → AllByRecursion (IsPair text strings) pairs → AllByRecursion (IsRow strings) (map (row_under text) pairs)
pair_rows text strings [] all = tt
pair_rows text strings (p ∷ pairs) all =
    (record { text = p.0; spelled = all.0.spelled; hashed = refl; some = all.0.some; text_fits = all.0.text_fits; entry_fits = all.0.entry_fits }, pair_rows text strings pairs all.1)

pair_places : (text : List ℕ → ℕ) (strings name : List ℕ) (pairs : List (List ℕ × ℕ)) → AllByRecursion (IsPair text strings) pairs → AllByRecursion (λ (r : Row). is_spelled strings name r.text ≡ true → r.text ≡ text name) (map (row_under text) pairs)
pair_places text strings name [] all = tt
pair_places text strings name (p ∷ pairs) all =
    (λ is. ap text ((bytes_eq-Decides p.0 name).0 (sym (pair_spelled text strings name p all.0) ∙ is)), pair_places text strings name pairs all.1)

pair_entries : (text : List ℕ → ℕ) (strings name : List ℕ) (pairs : List (List ℕ × ℕ)) → AllByRecursion (IsPair text strings) pairs → wanted strings name (map (row_under text) pairs) ≡ map (λ (p : List ℕ × ℕ). p.1) (filter (λ (p : List ℕ × ℕ). bytes_eq p.0 name) pairs)
pair_entries text strings name [] all = refl
pair_entries text strings name (p ∷ pairs) all = by (bytes_eq p.0 name) (pair_spelled text strings name p all.0) (pair_entries text strings name pairs all.1)
  where
    by : (b : Bool) → is_spelled strings name (text p.0) ≡ b → wanted strings name (map (row_under text) pairs) ≡ map (λ (p : List ℕ × ℕ). p.1) (filter (λ (p : List ℕ × ℕ). bytes_eq p.0 name) pairs)
        → wanted strings name (map (row_under text) (p ∷ pairs)) ≡ map (λ (p : List ℕ × ℕ). p.1) (cond b (p ∷ filter (λ (p : List ℕ × ℕ). bytes_eq p.0 name) pairs) (filter (λ (p : List ℕ × ℕ). bytes_eq p.0 name) pairs))
    by true e on = rw e (ap (λ (ns : List ℕ). p.1 ∷ ns) on)
    by false e on = rw e on

pub pairs_found : (pairs : List (List ℕ × ℕ)) (text : List ℕ → ℕ) (strings name : List ℕ) → 0 < length pairs → All (IsPair text strings) pairs → length (table_of (map (row_under text) pairs)) < 2 ^ 32 - 1
    → found (table_of (map (row_under text) pairs)) strings name ≡ Ok (places_under name pairs)
pairs_found pairs text strings name some are small =
    let rows : List Row = map (row_under text) pairs in
    let all : AllByRecursion (IsPair text strings) pairs = recursion_from_All (IsPair text strings) pairs are in
    rows_found rows strings name (text name) (omega (arith, some, length-map pairs (row_under text))) (All-from_recursion (IsRow strings) rows (pair_rows text strings pairs all))
    (All-from_recursion (λ (r : Row). is_spelled strings name r.text ≡ true → r.text ≡ text name) rows (pair_places text strings name pairs all)) small
    ∙ ap (λ (ns : List ℕ). Ok (rising ns)) (pair_entries text strings name pairs all)
