-- What stands where in a table that is written.
use Rattle.std.proofs.Common.{◌≡◌, ℕ, suc, ◌+◌, ◌*◌, ◌<◌, ◌≤◌, ◌^◌, ◌%◌, ◌==◌, Bool, true, false, cond, List, [], ◌∷◌, ◌++◌, length, map, take, drop, get_or, Ok, refl, sym, ap, ◌∙◌, subst, arith, append_assoc, length-append, take-append-drop, length-take-le, drop-cons, add-zero}
use Rattle.std.specs.List.{flat_map, AllByRecursion}
use Rattle.std.proofs.lemmas.Grind.{flat_map-append}
use Rattle.std.proofs.lemmas.List.{length-map}
use Rattle.std.proofs.lemmas.List.Folds.{flat_map-map}
use Rattle.std.proofs.lemmas.List.FromFn.{get_or-map-range_with_len, length-map-range_with_len}
use Rattle.accel_tables.specs.declared.header.Counts.{Counts}
use Rattle.accel_tables.specs.declared.rows.Row.{Row}
use Rattle.accel_tables.specs.Found.{bucket_place, hash_place, header_of, list_from, number_in, offset_place}
use Rattle.accel_tables.specs.Table.{data_place, first_in, firsts, header_bytes, list_bytes, starts_from, table_by_hash, word}
use Rattle.table_laws.specs.Entries.{IsRow}
use Rattle.table_laws.proofs.Grouped.{all_behind}
use Rattle.table_laws.proofs.Hashes.{AreListed, hash_key}
use Rattle.table_laws.proofs.Headed.{header_read}
use Rattle.table_laws.proofs.Items.{list_read, wanted}
use Rattle.table_laws.proofs.Words.{length_words, words_at}

-- ---- the parts

-- the places of data lists, and what is before a table's data lists
abbrev starts : List (List Row) → List ℕ
starts gs = starts_from 0 (map list_bytes gs)

abbrev indices : ℕ → List (List Row) → List ℕ
indices buckets gs = firsts buckets (map hash_key gs)

abbrev offsets : ℕ → List (List Row) → List ℕ
offsets buckets gs = flat_map (λ start. word (data_place buckets (length gs) + start)) (starts gs)

abbrev hash_words : List (List Row) → List ℕ
hash_words gs = flat_map (λ g. word (hash_key g)) gs

many_indices : (buckets : ℕ) (gs : List (List Row)) → length (indices buckets gs) ≡ buckets
many_indices buckets gs = length-map-range_with_len (first_in buckets 0 (map hash_key gs)) 0 buckets

table_parts : (buckets : ℕ) (gs : List (List Row)) → table_by_hash buckets gs ≡ header_bytes buckets (length gs) ++ (flat_map word (indices buckets gs) ++ (hash_words gs ++ (offsets buckets gs ++ flat_map list_bytes gs)))
table_parts buckets gs =
    let hashes : List ℕ = map hash_key gs in
    ap (λ (n : ℕ). header_bytes n (length hashes) ++ (flat_map word (indices buckets gs) ++ (flat_map word hashes ++ (flat_map (λ start. word (data_place n (length hashes) + start)) (starts gs) ++ flat_map list_bytes gs)))) (many_indices buckets gs)
    ∙ ap (λ (n : ℕ). header_bytes buckets n ++ (flat_map word (indices buckets gs) ++ (flat_map word hashes ++ (flat_map (λ start. word (data_place buckets n + start)) (starts gs) ++ flat_map list_bytes gs)))) (length-map gs hash_key)
    ∙ ap (λ (xs : List ℕ). header_bytes buckets (length gs) ++ (flat_map word (indices buckets gs) ++ (xs ++ (offsets buckets gs ++ flat_map list_bytes gs)))) (flat_map-map word hash_key gs)

length_starts : (at : ℕ) (gs : List (List Row)) → length (starts_from at (map list_bytes gs)) ≡ length gs
length_starts at [] = refl
length_starts at (g ∷ gs) = ap suc (length_starts (at + length (list_bytes g)) gs)

-- where the data list of a group begins among all
starts_at : (done : List (List Row)) (g : List Row) (more : List (List Row)) (at : ℕ)
    → (behind : List ℕ) × (starts_from at (map list_bytes (done ++ g ∷ more)) ≡ starts_from at (map list_bytes done) ++ (at + length (flat_map list_bytes done)) ∷ behind)
starts_at [] g more at =
    let behind : List ℕ = starts_from (at + length (list_bytes g)) (map list_bytes more) in
    (behind, ap (λ (n : ℕ). n ∷ behind) (sym (add-zero at)))
starts_at (d ∷ done) g more at =
    let on = starts_at done g more (at + length (list_bytes d)) in
    let same : at + length (list_bytes d) + length (flat_map list_bytes done) ≡ at + length (flat_map list_bytes (d ∷ done)) = omega (arith, length-append (list_bytes d) (flat_map list_bytes done)) in
    (on.0, ap (λ (xs : List ℕ). at ∷ xs) (on.1 ∙ ap (λ (n : ℕ). starts_from (at + length (list_bytes d)) (map list_bytes done) ++ n ∷ on.0) same))

-- ---- what is read of them

abbrev before_hashes : ℕ → List (List Row) → List ℕ
before_hashes buckets gs = header_bytes buckets (length gs) ++ flat_map word (indices buckets gs)

abbrev before_lists : ℕ → List (List Row) → List ℕ
before_lists buckets gs = (before_hashes buckets gs ++ hash_words gs) ++ offsets buckets gs

long_before : (buckets : ℕ) (gs : List (List Row)) → length (before_hashes buckets gs) ≡ 32 + 4 * buckets
long_before buckets gs =
    length-append (header_bytes buckets (length gs)) (flat_map word (indices buckets gs)) ∙ ap (λ (n : ℕ). 32 + n) (length_words (λ (n : ℕ). n) (indices buckets gs) ∙ ap (λ (n : ℕ). 4 * n) (many_indices buckets gs))

longer_before : (buckets : ℕ) (gs : List (List Row)) → length (before_hashes buckets gs ++ hash_words gs) ≡ 32 + 4 * buckets + 4 * length gs
longer_before buckets gs = omega (arith, length-append (before_hashes buckets gs) (hash_words gs), long_before buckets gs, length_words hash_key gs)

longest_before : (buckets : ℕ) (gs : List (List Row)) → length (before_lists buckets gs) ≡ data_place buckets (length gs)
longest_before buckets gs =
    omega (arith, length-append (before_hashes buckets gs ++ hash_words gs) (offsets buckets gs), longer_before buckets gs, length_words (λ start. data_place buckets (length gs) + start) (starts gs), length_starts 0 gs)

at_hashes : (table : List ℕ) (buckets : ℕ) (gs : List (List Row)) → table ≡ table_by_hash buckets gs → table ≡ before_hashes buckets gs ++ (hash_words gs ++ (offsets buckets gs ++ flat_map list_bytes gs))
at_hashes table buckets gs is = is ∙ table_parts buckets gs ∙ sym (append_assoc (header_bytes buckets (length gs)) (flat_map word (indices buckets gs)) (hash_words gs ++ (offsets buckets gs ++ flat_map list_bytes gs)))

at_offsets : (table : List ℕ) (buckets : ℕ) (gs : List (List Row)) → table ≡ table_by_hash buckets gs → table ≡ (before_hashes buckets gs ++ hash_words gs) ++ (offsets buckets gs ++ flat_map list_bytes gs)
at_offsets table buckets gs is = at_hashes table buckets gs is ∙ sym (append_assoc (before_hashes buckets gs) (hash_words gs) (offsets buckets gs ++ flat_map list_bytes gs))

at_lists : (table : List ℕ) (buckets : ℕ) (gs : List (List Row)) → table ≡ table_by_hash buckets gs → table ≡ before_lists buckets gs ++ flat_map list_bytes gs
at_lists table buckets gs is = at_offsets table buckets gs is ∙ sym (append_assoc (before_hashes buckets gs ++ hash_words gs) (offsets buckets gs) (flat_map list_bytes gs))

pub table_long : (table : List ℕ) (buckets : ℕ) (gs : List (List Row)) → table ≡ table_by_hash buckets gs → length table ≡ data_place buckets (length gs) + length (flat_map list_bytes gs)
table_long table buckets gs is = ap length (at_lists table buckets gs is) ∙ length-append (before_lists buckets gs) (flat_map list_bytes gs) ∙ ap (λ (n : ℕ). n + length (flat_map list_bytes gs)) (longest_before buckets gs)

first_small : (buckets bucket i : ℕ) (hashes : List ℕ) → i + length hashes ≤ 0xffffffff → first_in buckets i hashes bucket ≤ 0xffffffff
first_small buckets bucket i [] few = omega arith
first_small buckets bucket i (hash ∷ hashes) few = by ((hash % buckets) == bucket) (first_small buckets bucket (i + 1) hashes (omega (arith, few)))
  where
    by : (b : Bool) → first_in buckets (i + 1) hashes bucket ≤ 0xffffffff → cond b i (first_in buckets (i + 1) hashes bucket) ≤ 0xffffffff
    by true on = omega (arith, few)
    by false on = on

pub bucket_read : (table : List ℕ) (buckets bucket : ℕ) (gs : List (List Row)) → table ≡ table_by_hash buckets gs → bucket < buckets → length gs ≤ 0xffffffff → number_in 4 table (bucket_place bucket) ≡ Ok (first_in buckets 0 (map hash_key gs) bucket)
bucket_read table buckets bucket gs is within few =
    let all : List ℕ = indices buckets gs in
    let n : ℕ = get_or all bucket 0 in
    let lt : bucket < length all = omega (arith, within, many_indices buckets gs) in
    let value : n ≡ first_in buckets 0 (map hash_key gs) bucket = get_or-map-range_with_len (first_in buckets 0 (map hash_key gs)) 0 buckets bucket bucket 0 within (omega arith) in
    let le : first_in buckets 0 (map hash_key gs) bucket ≤ 0xffffffff = first_small buckets bucket 0 (map hash_key gs) (omega (arith, few, length-map gs hash_key)) in
    let cut : all ≡ take bucket all ++ n ∷ drop (suc bucket) all = sym (take-append-drop bucket all) ∙ ap (λ (xs : List ℕ). take bucket all ++ xs) (drop-cons all bucket 0 lt) in
    let behind : List ℕ = hash_words gs ++ (offsets buckets gs ++ flat_map list_bytes gs) in
    words_at (λ (m : ℕ). m) (take bucket all) n (drop (suc bucket) all) (bucket_place bucket) table (header_bytes buckets (length gs)) behind
    (is ∙ table_parts buckets gs ∙ ap (λ (xs : List ℕ). header_bytes buckets (length gs) ++ (flat_map word xs ++ behind)) cut)
    (let size : length (take bucket all) ≡ bucket = length-take-le bucket all (omega (arith, lt)) in ap (λ (m : ℕ). 32 + 4 * m) (sym size))
    (omega (arith, value, le))
    ∙ ap Ok value

pub table_head : (table : List ℕ) (buckets : ℕ) (gs : List (List Row)) → table ≡ table_by_hash buckets gs → 0 < buckets → length table < 2 ^ 32 → header_of table ≡ Ok (record { buckets = buckets; hashes = length gs })
table_head table buckets gs is some small =
    header_read table (flat_map word (indices buckets gs) ++ (hash_words gs ++ (offsets buckets gs ++ flat_map list_bytes gs))) buckets (length gs) (is ∙ table_parts buckets gs) some (omega (arith, small, table_long table buckets gs is)) (omega (arith, small, table_long table buckets gs is))

key_small : (g : List Row) → AllByRecursion (λ (r : Row). r.hash < 2 ^ 32) g → hash_key g < 2 ^ 32
key_small [] all = omega arith
key_small (r ∷ rs) all = all.0

pub listed : (table strings name : List ℕ) (buckets : ℕ) (gs : List (List Row)) → table ≡ table_by_hash buckets gs → length table < 2 ^ 32 → AllByRecursion (AllByRecursion (IsRow strings)) gs → AllByRecursion (AllByRecursion (λ (r : Row). r.hash < 2 ^ 32)) gs
    → AreListed table strings name (record { buckets = buckets; hashes = length gs }) gs
listed table strings name buckets gs is small rows few = record { hash_at = hash_at; list_at = list_at }
  where
    counts : Counts
    counts = record { buckets = buckets; hashes = length gs }

    hash_at : (done : List (List Row)) (g : List Row) (more : List (List Row)) → gs ≡ done ++ g ∷ more → number_in 4 table (hash_place counts (length done)) ≡ Ok (hash_key g)
    hash_at done g more split =
        words_at hash_key done g more (hash_place counts (length done)) table (before_hashes buckets gs) (offsets buckets gs ++ flat_map list_bytes gs)
        (at_hashes table buckets gs is ∙ ap (λ (hs : List (List Row)). before_hashes buckets gs ++ (hash_words hs ++ (offsets buckets gs ++ flat_map list_bytes gs))) split)
        (omega (arith, long_before buckets gs))
        (key_small g (all_behind (AllByRecursion (λ (r : Row). r.hash < 2 ^ 32)) done (g ∷ more) (subst (λ (hs : List (List Row)). AllByRecursion (AllByRecursion (λ (r : Row). r.hash < 2 ^ 32)) hs) split few)).0)

    list_at : (done : List (List Row)) (g : List Row) (more : List (List Row)) → gs ≡ done ++ g ∷ more
        → (place : ℕ) × (number_in 4 table (offset_place counts (length done)) ≡ Ok place) × ((before : List ℕ) → list_from table strings name (length table) before place ≡ Ok (before ++ wanted strings name g))
    list_at done g more split =
        let base : ℕ = data_place buckets (length gs) in
        let earlier : List ℕ = flat_map list_bytes done in
        let later : List ℕ = flat_map list_bytes more in
        let start : ℕ = 0 + length earlier in
        let bytes : flat_map list_bytes gs ≡ earlier ++ (list_bytes g ++ later) = ap (flat_map list_bytes) split ∙ flat_map-append list_bytes done (g ∷ more) in
        let long : length (flat_map list_bytes gs) ≡ length earlier + length (list_bytes g ++ later) = ap length bytes ∙ length-append earlier (list_bytes g ++ later) in
        let found = starts_at done g more 0 in
        let cut : starts gs ≡ starts done ++ start ∷ found.0 = ap starts split ∙ found.1 in
        let own : AllByRecursion (IsRow strings) g = (all_behind (AllByRecursion (IsRow strings)) done (g ∷ more) (subst (λ (hs : List (List Row)). AllByRecursion (AllByRecursion (IsRow strings)) hs) split rows)).0 in
        let whole : table ≡ (before_lists buckets gs ++ earlier) ++ (list_bytes g ++ later) =
        at_lists table buckets gs is ∙ ap (λ (xs : List ℕ). before_lists buckets gs ++ xs) bytes ∙ sym (append_assoc (before_lists buckets gs) earlier (list_bytes g ++ later)) in (
          base + start,
          words_at (λ (s : ℕ). base + s) (starts done) start found.0 (offset_place counts (length done)) table (before_hashes buckets gs ++ hash_words gs) (flat_map list_bytes gs)
              (at_offsets table buckets gs is ∙ ap (λ (xs : List ℕ). (before_hashes buckets gs ++ hash_words gs) ++ (flat_map (λ (s : ℕ). word (base + s)) xs ++ flat_map list_bytes gs)) cut)
              (omega (arith, longer_before buckets gs, length_starts 0 done))
              (omega (arith, small, table_long table buckets gs is, long)),
          λ before. list_read table strings name g before (before_lists buckets gs ++ earlier) later (base + start) whole (omega (arith, length-append (before_lists buckets gs) earlier, longest_before buckets gs)) small own,
        )
