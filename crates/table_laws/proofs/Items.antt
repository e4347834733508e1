-- A data list that is written is read: the entries of its items of a name.
use Rattle.std.proofs.Common.{◌≡◌, ℕ, ◌+◌, ◌-◌, ◌*◌, ◌<◌, ◌≤◌, ◌^◌, Bool, true, false, cond, List, [], ◌∷◌, ◌++◌, length, map, Option, Some, Ok, Result, refl, sym, ap, ap₂, add-zero, ◌∙◌, arith, append_assoc, append-nil, length-append}
use Rattle.std.specs.List.{filter, flat_map, AllByRecursion}
use Rattle.std.specs.Option.{option_map_or}
use Rattle.std.specs.Str.{bytes_eq}
use Rattle.std.proofs.lemmas.Bool.{ne_eqb}
use Rattle.std.proofs.lemmas.List.{map-append}
use Rattle.std.proofs.lemmas.List.Elements.{filter-append}
use Rattle.ds_base.specs.Reading.{text_of}
use Rattle.ds_base.specs.declared.fault.Fault.{Fault}
use Rattle.accel_tables.specs.declared.rows.Row.{Row}
use Rattle.accel_tables.specs.Found.{entries_from, item_from, list_from, number_in, with_entry}
use Rattle.accel_tables.specs.Table.{item_bytes, key_of, list_bytes, groups, word}
use Rattle.accel_tables.proofs.Walking.{entry_more, entries_end, item_more, list_zero}
use Rattle.table_laws.specs.Entries.{IsRow, is_spelled}
use Rattle.table_laws.proofs.Grouped.{IsGroup, all_grouped, flat, groups_are, groups_flat}
use Rattle.table_laws.proofs.Words.{length_words, word_at}

abbrev pub chosen : Bool → List Row → List ℕ
chosen b rows = cond b (map (λ r. r.entry) rows) []

-- the entries of a name among rows
abbrev pub wanted : List ℕ → List ℕ → List Row → List ℕ
wanted strings name rows = map (λ r. r.entry) (filter (λ r. is_spelled strings name r.text) rows)

-- ---- entries

one_chosen : (b : Bool) (before : List ℕ) (r : Row) (rows : List Row) → with_entry b before r.entry ++ chosen b rows ≡ before ++ chosen b (r ∷ rows)
one_chosen true before r rows = append_assoc before (r.entry ∷ []) (map (λ s. s.entry) rows)
one_chosen false before r rows = refl

none_chosen : (b : Bool) (before : List ℕ) (place : ℕ) → ◌≡◌ {A = Result (List ℕ × ℕ) Fault} (Ok (before, place)) (Ok (before ++ chosen b [], place + 4 * 0))
none_chosen true before place = ap₂ (λ (xs : List ℕ) (p : ℕ). Ok (xs, p)) (sym (append-nil before)) (sym (add-zero place))
none_chosen false before place = ap₂ (λ (xs : List ℕ) (p : ℕ). Ok (xs, p)) (sym (append-nil before)) (sym (add-zero place))

entries_read : (table : List ℕ) (b : Bool) (rows : List Row) (before front after : List ℕ) (place n : ℕ) → table ≡ front ++ (flat_map (λ r. word r.entry) rows ++ after) → place ≡ length front → n ≡ length rows → AllByRecursion (λ r. r.entry < 2 ^ 32) rows
    → entries_from table b n before place ≡ Ok (before ++ chosen b rows, place + 4 * length rows)
entries_read table b [] before front after place n is here count small =
    entries_end table b n before place count ∙ none_chosen b before place
entries_read table b (r ∷ rows) before front after place n is here count small =
    let behind : List ℕ = flat_map (λ s. word s.entry) rows in
    let next : place + 4 + 4 * length rows ≡ place + 4 * length (r ∷ rows) = omega arith in
    entry_more table b n (length rows) before place r.entry count (word_at r.entry place table front (behind ++ after) is here small.0)
    ∙ entries_read table b rows (with_entry b before r.entry) (front ++ word r.entry) after (place + 4) (length rows) (is ∙ sym (append_assoc front (word r.entry) (behind ++ after))) (omega (arith, here, length-append front (word r.entry))) refl small.1
    ∙ ap (λ (xs : List ℕ). Ok (xs, place + 4 + 4 * length rows)) (one_chosen b before r rows) ∙ ap (λ (p : ℕ). Ok (before ++ chosen b (r ∷ rows), p)) next

-- ---- items

item_given : (table strings name : List ℕ) (text count place : ℕ) (before spelled : List ℕ) (read : List ℕ × ℕ) → text_of strings text ≡ Some spelled → number_in 4 table (place + 4) ≡ Ok count
    → entries_from table (bytes_eq spelled name) count before (place + 8) ≡ Ok read → item_from table strings name text before place ≡ Ok read
unfolding item_from
item_given table strings name text count place before spelled read is counted all = rw (is, counted) all

filter_alike : {A : Type 0} (p : A → Bool) (b : Bool) (xs : List A) → AllByRecursion (λ x. p x ≡ b) xs → filter p xs ≡ cond b xs []
filter_alike p true [] all = refl
filter_alike p false [] all = refl
filter_alike {A} p true (x ∷ xs) all = rw all.0 (ap (λ (ys : List A). x ∷ ys) (filter_alike p true xs all.1))
filter_alike p false (x ∷ xs) all = rw all.0 (filter_alike p false xs all.1)

pub none_pass : {A : Type 0} (p : A → Bool) (xs : List A) → AllByRecursion (λ x. p x ≡ false) xs → filter p xs ≡ []
none_pass p xs all = filter_alike p false xs all

chosen_is : (b : Bool) (p : Row → Bool) (rows : List Row) → filter p rows ≡ cond b rows [] → chosen b rows ≡ map (λ r. r.entry) (filter p rows)
chosen_is true p rows e = ap (λ (rs : List Row). map (λ r. r.entry) rs) (sym e)
chosen_is false p rows e = ap (λ (rs : List Row). map (λ r. r.entry) rs) (sym e)

-- the rows of one text are all those of the name, or none is
of_one_text : (strings name : List ℕ) (text : ℕ) (b : Bool) (rows : List Row) → is_spelled strings name text ≡ b → AllByRecursion (λ r. r.text ≡ text) rows → AllByRecursion (λ r. is_spelled strings name r.text ≡ b) rows
of_one_text strings name text b [] is all = tt
of_one_text strings name text b (r ∷ rows) is all = (ap (is_spelled strings name) all.0 ∙ is, of_one_text strings name text b rows is all.1)

small_entries : (strings : List ℕ) (rows : List Row) → AllByRecursion (IsRow strings) rows → AllByRecursion (λ r. r.entry < 2 ^ 32) rows
small_entries strings [] all = tt
small_entries strings (r ∷ rows) all = (all.0.entry_fits, small_entries strings rows all.1)

pub length_item : (t : List Row) → length (item_bytes t) ≡ 8 + 4 * length t
length_item t =
    let entries : List ℕ = flat_map (λ r. word r.entry) t in
    omega (arith, length-append (word (key_of (λ r. r.text) t)) (word (length t) ++ entries), length-append (word (length t)) entries, length_words (λ r. r.entry) t)

item_read : (table strings name : List ℕ) (t : List Row) (before front after : List ℕ) (place : ℕ) → table ≡ front ++ (item_bytes t ++ after) → place ≡ length front → length table < 2 ^ 32 → IsGroup (λ r. r.text) t → AllByRecursion (IsRow strings) t
    → item_from table strings name (key_of (λ r. r.text) t) before place ≡ Ok (before ++ wanted strings name t, place + length (item_bytes t))
item_read table strings name [] before front after place is here small group rows = absurd (let none : 0 < 0 = group.0 in omega (arith, none))
item_read table strings name (r ∷ rs) before front after place is here small group rows =
    let t : List Row = r ∷ rs in
    let entries : List ℕ = flat_map (λ s. word s.entry) t in
    let long : length table ≡ length front + (length (item_bytes t) + length after) = ap length is ∙ length-append front (item_bytes t ++ after) ∙ ap (λ (n : ℕ). length front + n) (length-append (item_bytes t) after) in
    let count : length t < 2 ^ 32 = omega (arith, long, length_item t, small) in
    let text : List ℕ = rows.0.text in
    let b : Bool = bytes_eq text name in
    let front1 : List ℕ = front ++ word r.text in
    let front2 : List ℕ = front1 ++ word (length t) in
    let is1 : table ≡ front1 ++ (word (length t) ++ (entries ++ after)) = is ∙ sym (append_assoc front (word r.text) (word (length t) ++ (entries ++ after))) in
    let is2 : table ≡ front2 ++ (entries ++ after) = is1 ∙ sym (append_assoc front1 (word (length t)) (entries ++ after)) in
    let spelled : is_spelled strings name r.text ≡ b = ap (λ (o : Option (List ℕ)). option_map_or (λ s. bytes_eq s name) o false) rows.0.spelled in
    let whole : chosen b t ≡ wanted strings name t = chosen_is b (λ s. is_spelled strings name s.text) t (filter_alike (λ s. is_spelled strings name s.text) b t (of_one_text strings name r.text b t spelled group.1)) in
    let next : place + 8 + 4 * length t ≡ place + length (item_bytes t) = omega (arith, length_item t) in
    item_given table strings name r.text (length t) place before text (before ++ wanted strings name t, place + length (item_bytes t)) rows.0.spelled
    (word_at (length t) (place + 4) table front1 (entries ++ after) is1 (omega (arith, here, length-append front (word r.text))) count)
    (entries_read table b t before front2 after (place + 8) (length t) is2 (omega (arith, here, length-append front (word r.text), length-append front1 (word (length t)))) refl (small_entries strings t rows)
    ∙ ap (λ (xs : List ℕ). Ok (before ++ xs, place + 8 + 4 * length t)) whole ∙ ap (λ (p : ℕ). Ok (before ++ wanted strings name t, p)) next)

-- ---- the list

pub wanted_more : (strings name : List ℕ) (before : List ℕ) (t : List Row) (ts : List (List Row)) → (before ++ wanted strings name t) ++ wanted strings name (flat ts) ≡ before ++ wanted strings name (flat (t ∷ ts))
wanted_more strings name before t ts =
    let p : Row → Bool = λ r. is_spelled strings name r.text in
    append_assoc before (wanted strings name t) (wanted strings name (flat ts))
    ∙ ap (λ (xs : List ℕ). before ++ xs) (sym (map-append (λ (r : Row). r.entry) (filter p t) (filter p (flat ts))) ∙ ap (λ (rs : List Row). map (λ r. r.entry) rs) (sym (filter-append p t (flat ts))))

items_read : (table strings name : List ℕ) (ts : List (List Row)) (n : ℕ) (before front after : List ℕ) (place : ℕ) → table ≡ front ++ (flat_map item_bytes ts ++ (word 0 ++ after)) → place ≡ length front → length table < 2 ^ 32 → length ts < n
    → AllByRecursion (IsGroup (λ r. r.text)) ts → AllByRecursion (AllByRecursion (IsRow strings)) ts
    → list_from table strings name n before place ≡ Ok (before ++ wanted strings name (flat ts))
items_read table strings name [] n before front after place is here small more groups rows =
    list_zero table strings name n (n - 1) before place 0 (omega (arith, more)) (word_at 0 place table front after is here (omega arith)) refl ∙ ap Ok (sym (append-nil before))
items_read table strings name ([] ∷ ts) n before front after place is here small more groups rows = absurd (let none : 0 < 0 = groups.0.0 in omega (arith, none))
items_read table strings name ((r ∷ rs) ∷ ts) n before front after place is here small more groups rows =
    let t : List Row = r ∷ rs in
    let behind : List ℕ = flat_map item_bytes ts ++ (word 0 ++ after) in
    let is1 : table ≡ front ++ (item_bytes t ++ behind) = is ∙ ap (λ (xs : List ℕ). front ++ xs) (append_assoc (item_bytes t) (flat_map item_bytes ts) (word 0 ++ after)) in
    let rest : List ℕ = (word (length t) ++ flat_map (λ s. word s.entry) t) ++ behind in
    item_more table strings name n (n - 1) before (before ++ wanted strings name t) place r.text (place + length (item_bytes t)) (omega (arith, more))
    (word_at r.text place table front rest is1 here rows.0.0.text_fits)
    (ne_eqb r.text 0 (λ e. let some : 0 < r.text = rows.0.0.some in omega (arith, e, some)))
    (item_read table strings name t before front behind place is1 here small groups.0 rows.0)
    ∙ items_read table strings name ts (n - 1) (before ++ wanted strings name t) (front ++ item_bytes t) after (place + length (item_bytes t)) (is1 ∙ sym (append_assoc front (item_bytes t) behind)) (omega (arith, here, length-append front (item_bytes t))) small
    (omega (arith, more)) groups.1 rows.1
    ∙ ap Ok (wanted_more strings name before t ts)

items_long : (ts : List (List Row)) → length ts ≤ length (flat_map item_bytes ts)
items_long [] = omega arith
items_long (t ∷ ts) = omega (arith, items_long ts, length-append (item_bytes t) (flat_map item_bytes ts), length_item t)

-- a data list in a table: it has more bytes than items
pub list_read : (table strings name : List ℕ) (g : List Row) (before front after : List ℕ) (place : ℕ) → table ≡ front ++ (list_bytes g ++ after) → place ≡ length front → length table < 2 ^ 32 → AllByRecursion (IsRow strings) g
    → list_from table strings name (length table) before place ≡ Ok (before ++ wanted strings name g)
list_read table strings name g before front after place is here small rows =
    let ts : List (List Row) = groups (λ r. r.text) g in
    let items : List ℕ = flat_map item_bytes ts in
    let is1 : table ≡ front ++ (items ++ (word 0 ++ after)) = is ∙ ap (λ (xs : List ℕ). front ++ xs) (append_assoc items (word 0) after) in
    let long : length table ≡ length front + (length items + (4 + length after)) = ap length is1 ∙ length-append front (items ++ (word 0 ++ after)) ∙ ap (λ (n : ℕ). length front + n) (length-append items (word 0 ++ after) ∙ ap (λ (n : ℕ). length items + n) (length-append (word 0) after)) in
    items_read table strings name ts (length table) before front after place is1 here small (omega (arith, long, items_long ts)) (groups_are (λ r. r.text) g) (all_grouped (IsRow strings) (λ r. r.text) g rows)
    ∙ ap (λ (rs : List Row). Ok (before ++ wanted strings name rs)) (groups_flat (λ r. r.text) g)
