-- The hashes of a bucket are read, and the data list of the one that is looked up.
use Rattle.std.proofs.Common.{◌≡◌, ℕ, ◌+◌, ◌-◌, ◌<◌, ◌≤◌, ◌%◌, ◌==◌, ◌⊎◌, inl, inr, Bool, true, false, cond, List, [], ◌∷◌, ◌++◌, length, map, Option, Ok, refl, sym, ap, ◌∙◌, subst, arith, append_assoc, append-nil, length-append}
use Rattle.std.specs.List.{filter, AllByRecursion}
use Rattle.std.specs.Option.{option_map_or}
use Rattle.std.specs.Str.{bytes_eq}
use Rattle.std.proofs.lemmas.Bool.{eqb-true, eqb-false, ne_eqb, false_from_ne_true}
use Rattle.std.proofs.lemmas.Grind.{flat_map-append}
use Rattle.std.proofs.lemmas.List.Elements.{filter-append}
use Rattle.std.proofs.lemmas.Slice.Eq.{bytes_eq-Decides}
use Rattle.accel_tables.specs.declared.header.Counts.{Counts}
use Rattle.accel_tables.specs.declared.rows.Row.{Row}
use Rattle.accel_tables.specs.Found.{bucket_place, found, hash_place, hashes_from, header_of, list_from, lists_from, number_in, offset_place}
use Rattle.accel_tables.specs.Hash.{hash_of}
use Rattle.accel_tables.specs.Table.{first_in, key_of}
use Rattle.accel_tables.proofs.Walking.{hash_more, hash_other, hashes_end, lists_end, lists_more, lists_other}
use Rattle.table_laws.specs.Entries.{IsRow, is_spelled}
use Rattle.table_laws.proofs.Grouped.{IsGroup, Stays, all_before, all_behind, flat}
use Rattle.table_laws.proofs.Items.{none_pass, wanted, wanted_more}

abbrev pub hash_key : List Row → ℕ
hash_key g = key_of (λ r. r.hash) g

-- whether the hash of a group belongs to a bucket
abbrev pub is_in : ℕ → ℕ → List Row → Bool
is_in buckets bucket g = (hash_key g % buckets) == bucket

-- the groups before the first of another bucket, and the others
abbrev pub front : ℕ → ℕ → List (List Row) → List (List Row)
front buckets bucket [] = []
front buckets bucket (g ∷ gs) = cond (is_in buckets bucket g) (g ∷ front buckets bucket gs) []

abbrev pub back : ℕ → ℕ → List (List Row) → List (List Row)
back buckets bucket [] = []
back buckets bucket (g ∷ gs) = cond (is_in buckets bucket g) (back buckets bucket gs) (g ∷ gs)

-- What stands in a table for some groups: their hashes, and places at which their data lists give the entries of a name.
pub record AreListed (table strings name : List ℕ) (counts : Counts) (gs : List (List Row)) : Type 0 where
  pub hash_at : (done : List (List Row)) (g : List Row) (more : List (List Row)) → gs ≡ done ++ g ∷ more → number_in 4 table (hash_place counts (length done)) ≡ Ok (hash_key g)
  pub list_at : (done : List (List Row)) (g : List Row) (more : List (List Row)) → gs ≡ done ++ g ∷ more
      → (place : ℕ) × (number_in 4 table (offset_place counts (length done)) ≡ Ok place) × ((before : List ℕ) → list_from table strings name (length table) before place ≡ Ok (before ++ wanted strings name g))

one_more : (gs done : List (List Row)) (g : List Row) (more : List (List Row)) → gs ≡ done ++ g ∷ more → gs ≡ (done ++ g ∷ []) ++ more
one_more gs done g more is = is ∙ sym (append_assoc done (g ∷ []) more)

after_one : (done : List (List Row)) (g : List Row) (i : ℕ) → i ≡ length done → i + 1 ≡ length (done ++ g ∷ [])
after_one done g i at = omega (arith, at, length-append done (g ∷ []))

hashes_read : (table strings name : List ℕ) (counts : Counts) (gs : List (List Row)) → AreListed table strings name counts gs → (bucket : ℕ) (left done : List (List Row)) (n i : ℕ) (before : List ℕ) → gs ≡ done ++ left → n ≡ length left → i ≡ length done
    → hashes_from table counts bucket n before i ≡ Ok (before ++ map hash_key (front counts.buckets bucket left))
hashes_read table strings name counts gs listed bucket [] done n i before is count at = hashes_end table counts bucket n before i count ∙ ap Ok (sym (append-nil before))
hashes_read table strings name counts gs listed bucket (g ∷ more) done n i before is count at =
    by (is_in counts.buckets bucket g) refl (hashes_read table strings name counts gs listed bucket more (done ++ g ∷ []) (length more) (i + 1) (before ++ hash_key g ∷ []) (one_more gs done g more is) refl (after_one done g i at))
  where
    here : number_in 4 table (hash_place counts i) ≡ Ok (hash_key g)
    here = ap (λ (k : ℕ). number_in 4 table (hash_place counts k)) at ∙ listed.hash_at done g more is

    by : (b : Bool) → is_in counts.buckets bucket g ≡ b → hashes_from table counts bucket (length more) (before ++ hash_key g ∷ []) (i + 1) ≡ Ok ((before ++ hash_key g ∷ []) ++ map hash_key (front counts.buckets bucket more))
        → hashes_from table counts bucket n before i ≡ Ok (before ++ map hash_key (cond b (g ∷ front counts.buckets bucket more) []))
    by true e on = hash_more table counts bucket n (length more) before i (hash_key g) count here e ∙ on ∙ ap Ok (append_assoc before (hash_key g ∷ []) (map hash_key (front counts.buckets bucket more)))
    by false e on = hash_other table counts bucket n (length more) before i (hash_key g) count here e ∙ ap Ok (sym (append-nil before))

-- ---- rows of other names

-- a row of the name has its hash
pub hash_is : (strings name : List ℕ) (r : Row) → IsRow strings r → is_spelled strings name r.text ≡ true → r.hash ≡ hash_of name
hash_is strings name r row is =
    let same : bytes_eq row.text name ≡ true = sym (ap (λ (o : Option (List ℕ)). option_map_or (λ s. bytes_eq s name) o false) row.spelled) ∙ is in
    row.hashed ∙ ap hash_of ((bytes_eq-Decides row.text name).0 same)

no_row : (strings name : List ℕ) (hash : ℕ) (rows : List Row) → (hash ≡ hash_of name → ⊥) → AllByRecursion (IsRow strings) rows → AllByRecursion (λ r. r.hash ≡ hash) rows → AllByRecursion (λ r. is_spelled strings name r.text ≡ false) rows
no_row strings name hash [] other rows all = tt
no_row strings name hash (r ∷ rs) other rows all =
    (false_from_ne_true (is_spelled strings name r.text) (λ is. other (sym all.0 ∙ hash_is strings name r rows.0 is)), no_row strings name hash rs other rows.1 all.1)

none_of : (strings name : List ℕ) (g : List Row) → (hash_key g ≡ hash_of name → ⊥) → AllByRecursion (IsRow strings) g → IsGroup (λ r. r.hash) g → filter (λ r. is_spelled strings name r.text) g ≡ []
none_of strings name g other rows group = none_pass (λ r. is_spelled strings name r.text) g (no_row strings name (hash_key g) g other rows group.1)

-- no group of another bucket has a row of the name
pub none_in : (strings name : List ℕ) (buckets : ℕ) (gs : List (List Row)) → AllByRecursion (λ g. is_in buckets (hash_of name % buckets) g ≡ false) gs → AllByRecursion (AllByRecursion (IsRow strings)) gs → AllByRecursion (IsGroup (λ r. r.hash)) gs
    → filter (λ r. is_spelled strings name r.text) (flat gs) ≡ []
none_in strings name buckets [] other rows groups = refl
none_in strings name buckets (g ∷ gs) other rows groups =
    filter-append (λ r. is_spelled strings name r.text) g (flat gs)
    ∙ ap (λ (rs : List Row). rs ++ filter (λ r. is_spelled strings name r.text) (flat gs)) (none_of strings name g (λ same. eqb-false (hash_key g % buckets) (hash_of name % buckets) other.0 (ap (λ (n : ℕ). n % buckets) same)) rows.0 groups.0)
    ∙ none_in strings name buckets gs other.1 rows.1 groups.1

-- ---- the data lists

lists_read : (table strings name : List ℕ) (counts : Counts) (gs : List (List Row)) → AreListed table strings name counts gs → (hs done more : List (List Row)) (i : ℕ) (before : List ℕ) → gs ≡ done ++ (hs ++ more) → i ≡ length done
    → AllByRecursion (AllByRecursion (IsRow strings)) hs → AllByRecursion (IsGroup (λ r. r.hash)) hs
    → lists_from table strings name counts (map hash_key hs) before i ≡ Ok (before ++ wanted strings name (flat hs))
lists_read table strings name counts gs listed [] done more i before is at rows groups = lists_end table strings name counts [] before i refl ∙ ap Ok (sym (append-nil before))
lists_read table strings name counts gs listed (g ∷ hs) done more i before is at rows groups =
    by (hash_key g == hash_of name) refl (λ (entries : List ℕ). lists_read table strings name counts gs listed hs (done ++ g ∷ []) more (i + 1) entries (one_more gs done g (hs ++ more) is) (after_one done g i at) rows.1 groups.1)
  where
    by : (b : Bool) → (hash_key g == hash_of name) ≡ b → ((entries : List ℕ) → lists_from table strings name counts (map hash_key hs) entries (i + 1) ≡ Ok (entries ++ wanted strings name (flat hs)))
        → lists_from table strings name counts (hash_key g ∷ map hash_key hs) before i ≡ Ok (before ++ wanted strings name (flat (g ∷ hs)))
    by true e on =
        let there = listed.list_at done g (hs ++ more) is in
        lists_more table strings name counts (hash_key g ∷ map hash_key hs) (map hash_key hs) before (before ++ wanted strings name g) i (hash_key g) there.0 refl e
        (ap (λ (k : ℕ). number_in 4 table (offset_place counts k)) at ∙ there.1) (there.2 before)
        ∙ on (before ++ wanted strings name g) ∙ ap Ok (wanted_more strings name before g hs)
    by false e on =
        let none : wanted strings name g ≡ [] = ap (λ (rs : List Row). map (λ r. r.entry) rs) (none_of strings name g (eqb-false (hash_key g) (hash_of name) e) rows.0 groups.0) in
        lists_other table strings name counts (hash_key g ∷ map hash_key hs) (map hash_key hs) before i (hash_key g) refl e ∙ on before
        ∙ ap (λ (xs : List ℕ). Ok (xs ++ wanted strings name (flat hs))) (sym (ap (λ (xs : List ℕ). before ++ xs) none ∙ append-nil before)) ∙ ap Ok (wanted_more strings name before g hs)

-- ---- the first hash of a bucket

pub record Begins (buckets bucket i : ℕ) (gs : List (List Row)) : Type 0 where
  pub done : List (List Row)
  pub g : List Row
  pub more : List (List Row)
  pub split : gs ≡ done ++ g ∷ more
  pub index : first_in buckets i (map hash_key gs) bucket ≡ i + length done
  pub others : AllByRecursion (λ h. is_in buckets bucket h ≡ false) done
  pub belongs : is_in buckets bucket g ≡ true

abbrev pub HasNone : ℕ → ℕ → ℕ → List (List Row) → Type 0
HasNone buckets bucket i gs = (first_in buckets i (map hash_key gs) bucket ≡ 0xffffffff) × AllByRecursion (λ g. is_in buckets bucket g ≡ false) gs

pub first_is : (buckets bucket i : ℕ) (gs : List (List Row)) → Begins buckets bucket i gs ⊎ HasNone buckets bucket i gs
first_is buckets bucket i [] = inr (refl, tt)
first_is buckets bucket i (g ∷ gs) = by (is_in buckets bucket g) refl (first_is buckets bucket (i + 1) gs)
  where
    by : (b : Bool) → is_in buckets bucket g ≡ b → Begins buckets bucket (i + 1) gs ⊎ HasNone buckets bucket (i + 1) gs → Begins buckets bucket i (g ∷ gs) ⊎ HasNone buckets bucket i (g ∷ gs)
    by true e later = inl (record { done = []; g = g; more = gs; split = refl; index = rw e (omega arith); others = tt; belongs = e })
    by false e (inl l) =
        let next : i + 1 + length l.done ≡ i + length (g ∷ l.done) = omega arith in
        inl (record { done = g ∷ l.done; g = l.g; more = l.more; split = ap (λ (hs : List (List Row)). g ∷ hs) l.split; index = rw e (l.index ∙ next); others = (e, l.others); belongs = l.belongs })
    by false e (inr none) = inr (rw e none.0, (e, none.1))

-- ---- the hashes behind those of the bucket

front_back : (buckets bucket : ℕ) (gs : List (List Row)) → gs ≡ front buckets bucket gs ++ back buckets bucket gs
front_back buckets bucket [] = refl
front_back buckets bucket (g ∷ gs) = by (is_in buckets bucket g) (front_back buckets bucket gs)
  where
    by : (b : Bool) → gs ≡ front buckets bucket gs ++ back buckets bucket gs → g ∷ gs ≡ cond b (g ∷ front buckets bucket gs) [] ++ cond b (back buckets bucket gs) (g ∷ gs)
    by true on = ap (λ (hs : List (List Row)). g ∷ hs) on
    by false on = refl

beyond : (buckets bucket n : ℕ) (gs : List (List Row)) → bucket < n → AllByRecursion (λ l. n ≤ hash_key l % buckets) gs → AllByRecursion (λ g. is_in buckets bucket g ≡ false) gs
beyond buckets bucket n [] lt all = tt
beyond buckets bucket n (g ∷ gs) lt all = (let le : n ≤ hash_key g % buckets = all.0 in ne_eqb (hash_key g % buckets) bucket (λ e. omega (arith, e, lt, le)), beyond buckets bucket n gs lt all.1)

back_none : (buckets bucket : ℕ) (gs : List (List Row)) → Stays (λ g. hash_key g % buckets) gs → AllByRecursion (λ l. bucket ≤ hash_key l % buckets) gs → AllByRecursion (λ g. is_in buckets bucket g ≡ false) (back buckets bucket gs)
back_none buckets bucket [] stays all = tt
back_none buckets bucket (g ∷ gs) stays all = by (is_in buckets bucket g) refl (back_none buckets bucket gs stays.1 all.1)
  where
    by : (b : Bool) → is_in buckets bucket g ≡ b → AllByRecursion (λ h. is_in buckets bucket h ≡ false) (back buckets bucket gs) → AllByRecursion (λ h. is_in buckets bucket h ≡ false) (cond b (back buckets bucket gs) (g ∷ gs))
    by true e on = on
    by false e on =
        let ne : hash_key g % buckets ≡ bucket → ⊥ = eqb-false (hash_key g % buckets) bucket e in
        let le : bucket ≤ hash_key g % buckets = all.0 in
        (e, beyond buckets bucket (hash_key g % buckets) gs (omega (arith, ne, le)) stays.0)

-- ---- all of it

found_given : (table strings name : List ℕ) (counts : Counts) (first : ℕ) (hashes entries : List ℕ) → header_of table ≡ Ok counts → number_in 4 table (bucket_place (hash_of name % counts.buckets)) ≡ Ok first
    → hashes_from table counts (hash_of name % counts.buckets) (counts.hashes - first) [] first ≡ Ok hashes → lists_from table strings name counts hashes [] first ≡ Ok entries → found table strings name ≡ Ok entries
unfolding found
found_given table strings name counts first hashes entries head at read lists = rw (head, at, read) lists

stays_after : (f : List Row → ℕ) (done left : List (List Row)) → Stays f (done ++ left) → Stays f left
stays_after f [] left stays = stays
stays_after f (g ∷ done) left stays = stays_after f done left stays.1

pub groups_found : (table strings name : List ℕ) (counts : Counts) (gs : List (List Row)) → header_of table ≡ Ok counts → counts.hashes ≡ length gs → length gs ≤ 0xffffffff
    → number_in 4 table (bucket_place (hash_of name % counts.buckets)) ≡ Ok (first_in counts.buckets 0 (map hash_key gs) (hash_of name % counts.buckets))
    → AreListed table strings name counts gs → AllByRecursion (AllByRecursion (IsRow strings)) gs → AllByRecursion (IsGroup (λ r. r.hash)) gs → Stays (λ g. hash_key g % counts.buckets) gs
    → found table strings name ≡ Ok (wanted strings name (flat gs))
groups_found table strings name counts gs head many few at listed rows groups stays = by (first_is buckets bucket 0 gs)
  where
    buckets : ℕ
    buckets = counts.buckets

    bucket : ℕ
    bucket = hash_of name % buckets

    passes : Row → Bool
    passes = λ r. is_spelled strings name r.text

    by : Begins buckets bucket 0 gs ⊎ HasNone buckets bucket 0 gs → found table strings name ≡ Ok (wanted strings name (flat gs))
    by (inr none) =
        let nothing : wanted strings name (flat gs) ≡ [] = ap (λ (rs : List Row). map (λ r. r.entry) rs) (none_in strings name buckets gs none.1 rows groups) in
        found_given table strings name counts 0xffffffff [] (wanted strings name (flat gs)) head (at ∙ ap Ok none.0)
        (hashes_end table counts bucket (counts.hashes - 0xffffffff) [] 0xffffffff (omega (arith, many, few)))
        (lists_end table strings name counts [] [] 0xffffffff refl ∙ ap Ok (sym nothing))
    by (inl b) =
        let left : List (List Row) = b.g ∷ b.more in
        let mine : List (List Row) = front buckets bucket left in
        let later : List (List Row) = back buckets bucket left in
        let parts : gs ≡ b.done ++ (mine ++ later) = b.split ∙ ap (λ (hs : List (List Row)). b.done ++ hs) (front_back buckets bucket left) in
        let rows2 : AllByRecursion (AllByRecursion (IsRow strings)) (b.done ++ (mine ++ later)) = subst (λ (hs : List (List Row)). AllByRecursion (AllByRecursion (IsRow strings)) hs) parts rows in
        let groups2 : AllByRecursion (IsGroup (λ (r : Row). r.hash)) (b.done ++ (mine ++ later)) = subst (λ (hs : List (List Row)). AllByRecursion (IsGroup (λ (r : Row). r.hash)) hs) parts groups in
        let rows3 : AllByRecursion (AllByRecursion (IsRow strings)) (mine ++ later) = all_behind (AllByRecursion (IsRow strings)) b.done (mine ++ later) rows2 in
        let groups3 : AllByRecursion (IsGroup (λ (r : Row). r.hash)) (mine ++ later) = all_behind (IsGroup (λ (r : Row). r.hash)) b.done (mine ++ later) groups2 in
        let stays2 : Stays (λ (g : List Row). hash_key g % buckets) left = stays_after (λ (g : List Row). hash_key g % buckets) b.done left (subst (λ (hs : List (List Row)). Stays (λ (g : List Row). hash_key g % buckets) hs) b.split stays) in
        let own : hash_key b.g % buckets ≡ bucket = eqb-true (hash_key b.g % buckets) bucket b.belongs in
        let upward : AllByRecursion (λ (l : List Row). bucket ≤ hash_key l % buckets) left = (omega (arith, own), subst (λ (n : ℕ). AllByRecursion (λ (l : List Row). n ≤ hash_key l % buckets) b.more) own stays2.0) in
        let before : filter passes (flat b.done) ≡ [] = none_in strings name buckets b.done b.others (all_before (AllByRecursion (IsRow strings)) b.done (mine ++ later) rows2) (all_before (IsGroup (λ (r : Row). r.hash)) b.done (mine ++ later) groups2) in
        let behind : filter passes (flat later) ≡ [] = none_in strings name buckets later (back_none buckets bucket left stays2 upward) (all_behind (AllByRecursion (IsRow strings)) mine later rows3) (all_behind (IsGroup (λ (r : Row). r.hash)) mine later groups3) in
        let whole : filter passes (flat gs) ≡ filter passes (flat mine) =
        ap (λ (hs : List (List Row)). filter passes (flat hs)) parts ∙ ap (filter passes) (flat_map-append (λ (g : List Row). g) b.done (mine ++ later) ∙ ap (λ (rs : List Row). flat b.done ++ rs) (flat_map-append (λ (g : List Row). g) mine later))
        ∙ filter-append passes (flat b.done) (flat mine ++ flat later) ∙ ap (λ (rs : List Row). rs ++ filter passes (flat mine ++ flat later)) before ∙ filter-append passes (flat mine) (flat later)
        ∙ ap (λ (rs : List Row). filter passes (flat mine) ++ rs) behind ∙ append-nil (filter passes (flat mine)) in
        let count : counts.hashes - length b.done ≡ length left = omega (arith, many, ap length b.split, length-append b.done left) in
        let first : first_in buckets 0 (map hash_key gs) bucket ≡ length b.done = omega (arith, b.index) in
        found_given table strings name counts (length b.done) (map hash_key mine) (wanted strings name (flat gs)) head (at ∙ ap Ok first)
        (hashes_read table strings name counts gs listed bucket left b.done (counts.hashes - length b.done) (length b.done) [] b.split count refl)
        (lists_read table strings name counts gs listed mine b.done later (length b.done) [] parts refl (all_before (AllByRecursion (IsRow strings)) mine later rows3) (all_before (IsGroup (λ (r : Row). r.hash)) mine later groups3)
        ∙ ap (λ (rs : List Row). Ok (map (λ (r : Row). r.entry) rs)) (sym whole))
