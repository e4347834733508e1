-- The rows of one sequence, range by range.
use Rattle.std.proofs.Common.{◌≡◌, ℕ, zero, suc, ◌+◌, ◌<◌, ◌≤◌, ◌==◌, nat_le, true, false, List, [], ◌∷◌, ◌++◌, length, get_or, take, drop, Option, Some, None, refl, sym, ap, subst, ◌∙◌, arith, inl, inr, append-nil}
use Rattle.std.specs.Prelude.{if◌then◌else◌}
use Rattle.std.specs.Bool.{⊤}
use Rattle.std.specs.List.{AllPairs, AllByRecursion, cons_option, filter_map, find, position_or_len}
use Rattle.std.specs.Option.{IfSome, option_and_then, option_map, option_map_or, option_to_list, unwrap_or}
use Rattle.std.proofs.lemmas.Bool.{cases_Bool, leb-true, leb-false, lt-leb, ne_eqb}
use Rattle.std.proofs.lemmas.List.{drop_more, drop_all, take-append-drop, drop-drop, append_assoc}
use Rattle.std.proofs.lemmas.List.Elements.{filter_map-append, recursion_from_All}
use Rattle.dwarf_types.specs.declared.address.Addr.{Addr}
use Rattle.dwarf_types.specs.declared.lines.RawRow.{RawRow}
use Rattle.dwarf_types.specs.declared.lines.RawSequence.{RawSequence}
use Rattle.dwarf_types.specs.declared.lines.Row.{Row}
use Rattle.dwarf_types.specs.declared.lines.Sequence.{Sequence}
use Rattle.addr_map.specs.declared.map.MapRange.{MapRange}
use Rattle.addr_map.specs.Moved.{holds, moved_by}
use Rattle.addr_map.specs.Sound.{IsSoundRange}
use Rattle.line_read.specs.Rising.{placed, DoesNotFall}
use Rattle.moved_parts.specs.Lines.{end_by, linked_end, row_by}
use Rattle.moved_parts.specs.Parts.{MovedPart, is_behind, parts_of, range_of}
use Rattle.moved_parts.proofs.Held.{Apart, over, not_begun, held_parts, found_holds, found_has, none_holds}
use Rattle.moved_parts.proofs.Orders.{all_weaker, all_append}

abbrev InOrder : List MapRange → Type 0
InOrder [] = ⊤
InOrder (r ∷ rs) = AllByRecursion (λ later. r.end ≤ later.start) rs × InOrder rs

in_order : (rs : List MapRange) → Apart rs → InOrder rs
in_order [] apart = tt
in_order (r ∷ rs) apart = (recursion_from_All (λ later. r.end ≤ later.start) rs (λ k d within. apart 0 (suc k) d (omega arith) (omega arith)), in_order rs (λ i j d lt within. apart (suc i) (suc j) d (omega arith) (omega arith)))

-- ---- rows in a range and out of it

-- P of the row's address, where that is the object's
abbrev Where : (ℕ → Type 0) → RawRow → Type 0
Where P row = IfSome (placed row.at) P

where_weaker : (P Q : ℕ → Type 0) → ((a : ℕ) → P a → Q a) → (p : Option ℕ) → IfSome p P → IfSome p Q
where_weaker P Q gives None h = tt
where_weaker P Q gives (Some a) h = gives a h

all_where : (P Q : ℕ → Type 0) → ((a : ℕ) → P a → Q a) → (rows : List RawRow) → AllByRecursion (Where P) rows → AllByRecursion (Where Q) rows
all_where P Q gives rows all = all_weaker (Where P) (Where Q) (λ row h. where_weaker P Q gives (placed row.at) h) rows all

abbrev moved_row : MapRange → RawRow → ℕ → Option Row
moved_row r row a = if holds a r then Some (record row.row { address = moved_by a r }) else None

out_of : (r : MapRange) (row : RawRow) (p : Option ℕ) → IfSome p (λ a. holds a r ≡ false) → option_and_then (moved_row r row) p ≡ None
out_of r row None h = refl
out_of r row (Some a) h = rw h refl

in_it : (r : MapRange) (row : RawRow) (p : Option ℕ) (a : ℕ) → p ≡ Some a → holds a r ≡ true → option_and_then (moved_row r row) p ≡ Some (record row.row { address = moved_by a r })
in_it r row None a e h = absurd cc
in_it r row (Some b) a e h = let same : b ≡ a = cc in rw (same, h) refl

none_of : (r : MapRange) (rows : List RawRow) → AllByRecursion (Where (λ a. holds a r ≡ false)) rows → filter_map (row_by r) rows ≡ []
none_of r [] all = refl
none_of r (row ∷ rows) all = ap (λ (o : Option Row). cons_option o (filter_map (row_by r) rows)) (out_of r row (placed row.at) all.0) ∙ none_of r rows all.1

none_below : (r : MapRange) (rows : List RawRow) → AllByRecursion (Where (λ a. a < r.start)) rows → filter_map (row_by r) rows ≡ []
none_below r rows all = none_of r rows (all_where (λ a. a < r.start) (λ a. holds a r ≡ false) (λ a lt. not_begun a r lt) rows all)

none_above : (r : MapRange) (rows : List RawRow) → AllByRecursion (Where (λ a. r.end ≤ a)) rows → filter_map (row_by r) rows ≡ []
none_above r rows all = none_of r rows (all_where (λ a. r.end ≤ a) (λ a. holds a r ≡ false) (λ a le. over a r le) rows all)

-- ---- the part of one range

-- by the rows that are in the range
abbrev made : Option Addr → MapRange → List Row → Option Sequence
made end r rows = if length rows == 0 then None else Some (record { rows = rows; end = unwrap_or (option_and_then (end_by r) end) (linked_end r) })

abbrev part_by : Option Addr → MapRange → List Row → Option MovedPart
part_by end r rows = option_map (λ moved. record { range = r; sequence = moved }) (made end r rows)

abbrev of_rows : Option Addr → List RawRow → List MapRange → List MovedPart
of_rows end rows rs = parts_of rs (record { rows = rows; end = end })

-- ---- a row that no range holds

no_range : (rs : List MapRange) (row : RawRow) (p : Option ℕ) → option_and_then (λ a. find (holds a) rs) p ≡ None → AllByRecursion (λ r. option_and_then (moved_row r row) p ≡ None) rs
no_range rs row None e = nothing rs
  where
    nothing : (rs : List MapRange) → AllByRecursion (λ r. option_and_then (moved_row r row) None ≡ None) rs
    nothing [] = tt
    nothing (r ∷ rs) = (refl, nothing rs)
no_range rs row (Some a) e = all_weaker (λ r. holds a r ≡ false) (λ r. moved_row r row a ≡ None) (λ r no. out_of r row (Some a) no) rs (none_holds a rs e)

skip : (rs : List MapRange) (end : Option Addr) (row : RawRow) (rows : List RawRow) → AllByRecursion (λ r. row_by r row ≡ None) rs → of_rows end (row ∷ rows) rs ≡ of_rows end rows rs
skip [] end row rows all = refl
skip (r ∷ rs) end row rows all =
    ap (λ (o : Option Row). cons_option (part_by end r (cons_option o (filter_map (row_by r) rows))) (of_rows end (row ∷ rows) rs)) all.0
    ∙ ap (λ (ps : List MovedPart). cons_option (part_by end r (filter_map (row_by r) rows)) ps) (skip rs end row rows all.1)

-- ---- rows that one range holds, before those behind it

-- ranges that hold none of the first rows
without : (rs : List MapRange) (end : Option Addr) (xs ys : List RawRow) → AllByRecursion (λ r. filter_map (row_by r) xs ≡ []) rs → of_rows end (xs ++ ys) rs ≡ of_rows end ys rs
without [] end xs ys all = refl
without (r ∷ rs) end xs ys all =
    ap (λ (rows : List Row). cons_option (part_by end r rows) (of_rows end (xs ++ ys) rs)) (filter_map-append (row_by r) xs ys ∙ ap (λ (rows : List Row). rows ++ filter_map (row_by r) ys) all.0)
    ∙ ap (λ (ps : List MovedPart). cons_option (part_by end r (filter_map (row_by r) ys)) ps) (without rs end xs ys all.1)

abbrev Within : MapRange → List RawRow → Type 0
Within r rows = AllByRecursion (Where (λ a. (r.start ≤ a) × (a < r.end))) rows

abbrev Behind : MapRange → List RawRow → Type 0
Behind r rows = AllByRecursion (Where (λ a. r.end ≤ a)) rows

first_run : (r : MapRange) (rs : List MapRange) (end : Option Addr) (xs ys : List RawRow) (p : MovedPart) → AllByRecursion (λ later. r.end ≤ later.start) rs → Within r xs → Behind r ys
    → part_by end r (filter_map (row_by r) xs) ≡ Some p → of_rows end (xs ++ ys) (r ∷ rs) ≡ p ∷ of_rows end ys (r ∷ rs)
first_run r rs end xs ys p apart within behind is =
    let none = none_above r ys behind in
    let whole : filter_map (row_by r) (xs ++ ys) ≡ filter_map (row_by r) xs =
    filter_map-append (row_by r) xs ys ∙ ap (λ (rows : List Row). filter_map (row_by r) xs ++ rows) none ∙ append-nil (filter_map (row_by r) xs) in
    let others : of_rows end (xs ++ ys) rs ≡ of_rows end ys rs =
    without rs end xs ys (all_weaker (λ later. r.end ≤ later.start) (λ later. filter_map (row_by later) xs ≡ [])
    (λ later le. none_below later xs (all_where (λ a. (r.start ≤ a) × (a < r.end)) (λ a. a < later.start) (λ a h. omega (arith, h.1)) xs within)) rs apart) in
    ap (λ (rows : List Row). cons_option (part_by end r rows) (of_rows end (xs ++ ys) rs)) whole
    ∙ ap (λ (o : Option MovedPart). cons_option o (of_rows end (xs ++ ys) rs)) is
    ∙ ap (λ (ps : List MovedPart). p ∷ ps) (others ∙ sym (ap (λ (rows : List Row). cons_option (part_by end r rows) (of_rows end ys rs)) none))

run : (rs : List MapRange) (end : Option Addr) (a : ℕ) (r : MapRange) (xs ys : List RawRow) (p : MovedPart) → r.start < r.end → InOrder rs → find (holds a) rs ≡ Some r → Within r xs → Behind r ys
    → part_by end r (filter_map (row_by r) xs) ≡ Some p → of_rows end (xs ++ ys) rs ≡ p ∷ of_rows end ys rs
run [] end a r xs ys p some order found within behind is = absurd cc
run (q ∷ qs) end a r xs ys p some order found within behind is = elim (cases_Bool (holds a q)) [
  | inl here ↦
      let same : Some q ≡ Some r = rw here at found in
      let one : q ≡ r = cc in
      let apart : AllByRecursion (λ later. r.end ≤ later.start) qs = subst (λ (x : MapRange). AllByRecursion (λ later. x.end ≤ later.start) qs) one order.0 in
      subst (λ (x : MapRange). of_rows end (xs ++ ys) (x ∷ qs) ≡ p ∷ of_rows end ys (x ∷ qs)) (sym one) (first_run r qs end xs ys p apart within behind is)
  | inr other ↦
      let later : find (holds a) qs ≡ Some r = rw other at found in
      let before : q.end ≤ r.start = found_has (λ x. q.end ≤ x.start) a qs r order.0 later in
      let over_xs : AllByRecursion (Where (λ b. q.end ≤ b)) xs = all_where (λ b. (r.start ≤ b) × (b < r.end)) (λ b. q.end ≤ b) (λ b h. omega (arith, h.0)) xs within in
      let over_ys : AllByRecursion (Where (λ b. q.end ≤ b)) ys = all_where (λ b. r.end ≤ b) (λ b. q.end ≤ b) (λ b h. omega arith) ys behind in
      let none_ys : filter_map (row_by q) ys ≡ [] = none_above q ys over_ys in
      let none_both : filter_map (row_by q) (xs ++ ys) ≡ [] = none_above q (xs ++ ys) (all_append (Where (λ b. q.end ≤ b)) xs ys over_xs over_ys) in
      ap (λ (rows : List Row). cons_option (part_by end q rows) (of_rows end (xs ++ ys) qs)) none_both
      ∙ run qs end a r xs ys p some order.1 later within behind is
      ∙ ap (λ (ps : List MovedPart). p ∷ ps) (sym (ap (λ (rows : List Row). cons_option (part_by end q rows) (of_rows end ys qs)) none_ys))
]

-- ---- rows whose addresses do not fall

abbrev Rising : List RawRow → Type 0
Rising [] = ⊤
Rising (row ∷ rows) = IfSome (placed row.at) (λ a. AllByRecursion (Where (λ later. a ≤ later)) rows) × Rising rows

above_row : (a : ℕ) (p : Option ℕ) (others more : List ℕ) (rows : List RawRow) → AllByRecursion (λ b. a ≤ b) (cons_option p others ++ more)
    → (AllByRecursion (λ b. a ≤ b) (others ++ more) → AllByRecursion (Where (λ b. a ≤ b)) rows) → IfSome p (λ b. a ≤ b) × AllByRecursion (Where (λ b. a ≤ b)) rows
above_row a None others more rows all so_far = (tt, so_far all)
above_row a (Some b) others more rows all so_far = (all.0, so_far all.1)

above_rows : (a : ℕ) (rows : List RawRow) (more : List ℕ) → AllByRecursion (λ b. a ≤ b) (filter_map (λ row. placed row.at) rows ++ more) → AllByRecursion (Where (λ b. a ≤ b)) rows
above_rows a [] more all = tt
above_rows a (row ∷ rows) more all = above_row a (placed row.at) (filter_map (λ row. placed row.at) rows) more rows all (above_rows a rows more)

rising_row : (p : Option ℕ) (more : List ℕ) (rows : List RawRow) → AllPairs (λ a later. a ≤ later) (cons_option p (filter_map (λ row. placed row.at) rows) ++ more)
    → (AllPairs (λ a later. a ≤ later) (filter_map (λ row. placed row.at) rows ++ more) → Rising rows) → IfSome p (λ a. AllByRecursion (Where (λ later. a ≤ later)) rows) × Rising rows
rising_row None more rows up so_far = (tt, so_far up)
rising_row (Some a) more rows up so_far = (
  above_rows a rows more (recursion_from_All (λ b. a ≤ b) (filter_map (λ row. placed row.at) rows ++ more) (λ k d within. up 0 (suc k) d (omega arith) (omega arith))),
  so_far (λ i j d lt within. up (suc i) (suc j) d (omega arith) (omega arith)),
)

rising_rows : (rows : List RawRow) (more : List ℕ) → AllPairs (λ a later. a ≤ later) (filter_map (λ row. placed row.at) rows ++ more) → Rising rows
rising_rows [] more up = tt
rising_rows (row ∷ rows) more up = rising_row (placed row.at) more rows up (rising_rows rows more)

rising_drop : (i : ℕ) (rows : List RawRow) → Rising rows → Rising (drop i rows)
rising_drop zero rows up = up
rising_drop (suc i) [] up = tt
rising_drop (suc i) (row ∷ rows) up = rising_drop i rows up.1

-- ---- as many as stand before the range's end

abbrev before_end : MapRange → List RawRow → ℕ
before_end r rows = position_or_len (λ row. is_behind r row.at) rows

one_more : (r : MapRange) (row : RawRow) (rows : List RawRow) → is_behind r row.at ≡ false → before_end r (row ∷ rows) ≡ suc (before_end r rows)
one_more r row rows e = rw e (omega arith)

no_more : (r : MapRange) (row : RawRow) (rows : List RawRow) → is_behind r row.at ≡ true → before_end r (row ∷ rows) ≡ 0
no_more r row rows e = rw e refl

where_before : (r : MapRange) (p : Option ℕ) → option_map_or (λ a. nat_le r.end a) p false ≡ false → IfSome p (λ a. r.start ≤ a) → IfSome p (λ a. (r.start ≤ a) × (a < r.end))
where_before r None e from = tt
where_before r (Some a) e from = (from, leb-false r.end a e)

within_run : (r : MapRange) (rows : List RawRow) → AllByRecursion (Where (λ a. r.start ≤ a)) rows → Within r (take (before_end r rows) rows)
within_run r [] all = tt
within_run r (row ∷ rows) all = elim (cases_Bool (is_behind r row.at)) [
  | inl behind ↦ rw (no_more r row rows behind) tt
  | inr before ↦ rw (one_more r row rows before) (where_before r (placed row.at) before all.0, within_run r rows all.1)
]

where_behind : (r : MapRange) (p : Option ℕ) (rows : List RawRow) → option_map_or (λ a. nat_le r.end a) p false ≡ true → IfSome p (λ a. AllByRecursion (Where (λ later. a ≤ later)) rows)
    → IfSome p (λ a. r.end ≤ a) × Behind r rows
where_behind r None rows e up = absurd cc
where_behind r (Some a) rows e up = let le : r.end ≤ a = leb-true r.end a e in (le, all_where (λ later. a ≤ later) (λ later. r.end ≤ later) (λ later h. omega arith) rows up)

behind_run : (r : MapRange) (rows : List RawRow) → Rising rows → Behind r (drop (before_end r rows) rows)
behind_run r [] up = tt
behind_run r (row ∷ rows) up = elim (cases_Bool (is_behind r row.at)) [
  | inl behind ↦ rw (no_more r row rows behind) (where_behind r (placed row.at) rows behind up.0)
  | inr before ↦ rw (one_more r row rows before) (behind_run r rows up.1)
]

-- ---- on from one row

found_in : (rs : List MapRange) (at : Addr) (r : MapRange) → range_of rs at ≡ Some r → (a : ℕ) × (placed at ≡ Some a) × (find (holds a) rs ≡ Some r)
found_in rs at r e = by (placed at) e
  where
    by : (p : Option ℕ) → option_and_then (λ a. find (holds a) rs) p ≡ Some r → (a : ℕ) × (p ≡ Some a) × (find (holds a) rs ≡ Some r)
    by None e = absurd cc
    by (Some a) e = (a, refl, e)

first_above : (m a : ℕ) (p : Option ℕ) (rows : List RawRow) → p ≡ Some a → m ≤ a → IfSome p (λ b. AllByRecursion (Where (λ later. b ≤ later)) rows) → IfSome p (λ b. m ≤ b) × AllByRecursion (Where (λ b. m ≤ b)) rows
first_above m a None rows e le up = absurd cc
first_above m a (Some b) rows e le up = let same : b ≡ a = cc in (omega arith, all_where (λ later. b ≤ later) (λ later. m ≤ later) (λ later h. omega arith) rows up)

not_behind : (r : MapRange) (a : ℕ) (p : Option ℕ) → p ≡ Some a → a < r.end → option_map_or (λ b. nat_le r.end b) p false ≡ false
not_behind r a None e lt = refl
not_behind r a (Some b) e lt = let same : b ≡ a = cc in lt-leb r.end b (omega arith)

part_with : (end : Option Addr) (r : MapRange) (first : Option Row) (row : Row) (rows : List Row) → first ≡ Some row
    → part_by end r (cons_option first rows) ≡ Some (record { range = r; sequence = record { rows = cons_option first rows; end = unwrap_or (option_and_then (end_by r) end) (linked_end r) } })
part_with end r None row rows e = absurd cc
part_with end r (Some x) row rows e = rw (ne_eqb (length (x ∷ rows)) 0 (λ e. omega arith)) refl

-- the part that the next rows make, of the range that holds the first
abbrev run_part : Option Addr → MapRange → ℕ → List RawRow → MovedPart
run_part end r n rows = record { range = r; sequence = record { rows = filter_map (row_by r) (take n rows); end = unwrap_or (option_and_then (end_by r) end) (linked_end r) } }

run_first : (rs : List MapRange) (end : Option Addr) (row : RawRow) (rows : List RawRow) (r : MapRange) (a : ℕ) → r.start < r.end → InOrder rs → Rising (row ∷ rows) → placed row.at ≡ Some a → find (holds a) rs ≡ Some r
    → of_rows end (row ∷ rows) rs ≡ run_part end r (before_end r (row ∷ rows)) (row ∷ rows) ∷ of_rows end (drop (before_end r (row ∷ rows)) (row ∷ rows)) rs
run_first rs end row rows r a some order up is found =
    let holds_it = found_holds a rs r found in
    let bounds = held_parts a r holds_it in
    let from : AllByRecursion (Where (λ b. r.start ≤ b)) (row ∷ rows) = first_above r.start a (placed row.at) rows is bounds.0 up.0 in
    let n = before_end r (row ∷ rows) in
    let more : n ≡ suc (before_end r rows) = one_more r row rows (not_behind r a (placed row.at) is bounds.1) in
    let one : part_by end r (filter_map (row_by r) (take n (row ∷ rows))) ≡ Some (run_part end r n (row ∷ rows)) =
    subst (λ (k : ℕ). part_by end r (filter_map (row_by r) (take k (row ∷ rows))) ≡ Some (run_part end r k (row ∷ rows))) (sym more)
    (part_with end r (row_by r row) (record row.row { address = moved_by a r }) (filter_map (row_by r) (take (before_end r rows) rows)) (in_it r row (placed row.at) a is holds_it)) in
    ap (λ (xs : List RawRow). of_rows end xs rs) (sym (take-append-drop n (row ∷ rows)))
    ∙ run rs end a r (take n (row ∷ rows)) (drop n (row ∷ rows)) (run_part end r n (row ∷ rows)) some order found (within_run r (row ∷ rows) from) (behind_run r (row ∷ rows) up) one

-- the rows from one on
abbrev pub from_row : RawSequence → ℕ → List MapRange → List MovedPart
from_row s i rs = of_rows s.end (drop i s.rows) rs

next_rows : (rs : List MapRange) (s : RawSequence) (i : ℕ) (r : MapRange) → IsSoundRange r → Apart rs → DoesNotFall s → (d : RawRow) → i < length s.rows → range_of rs (get_or s.rows i d).at ≡ Some r
    → from_row s i rs ≡ run_part s.end r (before_end r (drop i s.rows)) (drop i s.rows) ∷ from_row s (i + before_end r (drop i s.rows)) rs
next_rows rs s i r sound apart falls d within is =
    let row = get_or s.rows i d in
    let found = found_in rs row.at r is in
    let whole : drop i s.rows ≡ row ∷ drop (i + 1) s.rows = drop_more s.rows i d within in
    let up : Rising (row ∷ drop (i + 1) s.rows) = subst Rising whole (rising_drop i s.rows (rising_rows s.rows (filter_map placed (option_to_list s.end)) falls)) in
    let one = run_first rs s.end row (drop (i + 1) s.rows) r found.0 sound.not_empty (in_order rs apart) up found.1 found.2 in
    subst (λ (xs : List RawRow). of_rows s.end xs rs ≡ run_part s.end r (before_end r xs) xs ∷ of_rows s.end (drop (before_end r xs) xs) rs) (sym whole) one
    ∙ ap (λ (xs : List RawRow). run_part s.end r (before_end r (drop i s.rows)) (drop i s.rows) ∷ of_rows s.end xs rs) (drop-drop (before_end r (drop i s.rows)) i s.rows)

-- ---- the loop over the rows: the parts so far, and those of the rows from one on

-- no range holds this row
pub skip_row : (rs : List MapRange) (s : RawSequence) (rows : List RawRow) (i : ℕ) (before total : List MovedPart) → rows ≡ s.rows → (d : RawRow) → i < length rows → None ≡ range_of rs (get_or rows i d).at
    → before ++ from_row s i rs ≡ total → before ++ from_row s (i + 1) rs ≡ total
skip_row rs s rows i before total are d within none so_far =
    let row = get_or s.rows i d in
    let same : get_or rows i d ≡ row = ap (λ (xs : List RawRow). get_or xs i d) are in
    let long : i < length s.rows = subst (λ (xs : List RawRow). i < length xs) are within in
    let one : from_row s i rs ≡ from_row s (i + 1) rs =
    ap (λ (xs : List RawRow). of_rows s.end xs rs) (drop_more s.rows i d long)
    ∙ skip rs s.end row (drop (i + 1) s.rows) (no_range rs row (placed row.at) (sym (none ∙ ap (λ (x : RawRow). range_of rs x.at) same))) in
    ap (λ (ps : List MovedPart). before ++ ps) (sym one) ∙ so_far

-- a range holds this row, and those up to its end
pub run_rows : (rs : List MapRange) (s : RawSequence) (rows rest : List RawRow) (i n : ℕ) (r : MapRange) (moved : List Row) (end : ℕ) (before after total : List MovedPart) → IsSoundRange r → Apart rs → DoesNotFall s
    → rows ≡ s.rows → rest ≡ drop i rows → (d : RawRow) → i < length rows → Some r ≡ range_of rs (get_or rows i d).at → n ≡ position_or_len (λ row. is_behind r row.at) rest
    → moved ≡ filter_map (row_by r) (take n rest) → end ≡ unwrap_or (option_and_then (end_by r) s.end) (linked_end r)
    → after ≡ before ++ record { range = r; sequence = record { rows = moved; end = end } } ∷ [] → before ++ from_row s i rs ≡ total → after ++ from_row s (i + n) rs ≡ total
run_rows rs s rows rest i n r moved end before after total sound apart falls are left d within is count rows_are end_is pushed so_far =
    let row = get_or s.rows i d in
    let same : get_or rows i d ≡ row = ap (λ (xs : List RawRow). get_or xs i d) are in
    let long : i < length s.rows = subst (λ (xs : List RawRow). i < length xs) are within in
    let m = before_end r (drop i s.rows) in
    let one = next_rows rs s i r sound apart falls d long (sym (is ∙ ap (λ (x : RawRow). range_of rs x.at) same)) in
    let others : rest ≡ drop i s.rows = left ∙ ap (λ (xs : List RawRow). drop i xs) are in
    let as_many : n ≡ m = count ∙ ap (before_end r) others in
    let moved_are : moved ≡ filter_map (row_by r) (take m (drop i s.rows)) =
    rows_are ∙ ap (λ (xs : List RawRow). filter_map (row_by r) (take n xs)) others ∙ ap (λ (k : ℕ). filter_map (row_by r) (take k (drop i s.rows))) as_many in
    let part : MovedPart = record { range = r; sequence = record { rows = moved; end = end } } in
    let made_is : part ≡ run_part s.end r m (drop i s.rows) =
    ap (λ (xs : List Row). record { range = r; sequence = record { rows = xs; end = end } }) moved_are
    ∙ ap (λ (k : ℕ). record { range = r; sequence = record { rows = filter_map (row_by r) (take m (drop i s.rows)); end = k } }) end_is in
    ap (λ (ps : List MovedPart). ps ++ from_row s (i + n) rs) pushed
    ∙ append_assoc before (part ∷ []) (from_row s (i + n) rs)
    ∙ ap (λ (p : MovedPart). before ++ p ∷ from_row s (i + n) rs) made_is
    ∙ ap (λ (k : ℕ). before ++ run_part s.end r m (drop i s.rows) ∷ from_row s (i + k) rs) as_many
    ∙ ap (λ (ps : List MovedPart). before ++ ps) (sym one)
    ∙ so_far

no_rows : (rs : List MapRange) (end : Option Addr) → of_rows end [] rs ≡ []
no_rows [] end = refl
no_rows (r ∷ rs) end = no_rows rs end

-- no row is left
pub rows_end : (rs : List MapRange) (s : RawSequence) (rows : List RawRow) (i : ℕ) (before total : List MovedPart) → rows ≡ s.rows → length rows ≤ i → before ++ from_row s i rs ≡ total → before ≡ total
rows_end rs s rows i before total are behind so_far =
    let none : from_row s i rs ≡ [] = ap (λ (xs : List RawRow). of_rows s.end xs rs) (drop_all i s.rows (subst (λ (xs : List RawRow). length xs ≤ i) are behind)) ∙ no_rows rs s.end in
    sym (append-nil before) ∙ ap (λ (ps : List MovedPart). before ++ ps) (sym none) ∙ so_far

-- a run has a row
pub run_goes_on : (rs : List MapRange) (rows rest : List RawRow) (i n : ℕ) (r : MapRange) → rest ≡ drop i rows → (d : RawRow) → i < length rows → Some r ≡ range_of rs (get_or rows i d).at
    → n ≡ position_or_len (λ row. is_behind r row.at) rest → 0 < n
run_goes_on rs rows rest i n r left d within is count =
    let row = get_or rows i d in
    let found = found_in rs row.at r (sym is) in
    let bounds = held_parts found.0 r (found_holds found.0 rs r found.2) in
    let more : before_end r (drop i rows) ≡ suc (before_end r (drop (i + 1) rows)) = ap (before_end r) (drop_more rows i d within) ∙ one_more r row (drop (i + 1) rows) (not_behind r found.0 (placed row.at) found.1 bounds.1) in
    let many : n ≡ suc (before_end r (drop (i + 1) rows)) = count ∙ ap (before_end r) left ∙ more in
    omega arith
