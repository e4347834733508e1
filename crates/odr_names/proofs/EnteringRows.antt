-- Rows entered one after the other.
use Rattle.std.proofs.Common.{suc, zero, ◌≡◌, inl, inr, ℕ, ◌+◌, ◌-◌, ◌<◌, ◌≤◌, ◌^◌, Bool, true, false, List, [], ◌∷◌, ◌++◌, length, map, take, Option, Some, None, slice_get, get_or, refl, sym, ap, ◌∙◌, arith, subst, append_assoc, append-nil}
use Rattle.std.specs.Prelude.{IfSome, ◌||◌, is_some, if◌then◌else◌}
use Rattle.std.specs.List.{cons_option, enumerate_from, filter_map}
use Rattle.std.specs.Option.{ForSome, option_and_then, option_map, option_map_or}
use Rattle.std.proofs.lemmas.Bool.{both_ways, cases_eq, cases_lt}
use Rattle.std.proofs.lemmas.List.{get_or_append_left, get_or_past, get_or_push, take_all, length-take-le, length_push, map_push, take_more}
use Rattle.std.proofs.lemmas.List.Elements.{filter_map-append}
use Rattle.std.proofs.lemmas.Option.{get_or_from_slice_get, none-some, same_Some, slice_get_within}
use Rattle.dwarf_types.specs.declared.entry.Entry.{Entry}
use Rattle.dwarf_types.specs.Tree.{ParentsStandBefore}
use Rattle.odr_names.specs.declared.path_book.Row.{Row}
use Rattle.odr_names.specs.Book.{AreRows, IsLinked, IsRowOf, IsRowOfParent, path_above, row_above, row_name, row_parent, row_path}
use Rattle.odr_names.specs.Entering.{AreEntered, AreLiveParents, IsEntered, IsEnteredTo, IsEntering, IsRowOfEntry, hash_above, names_to, new_row, piece_at, private_above}
use Rattle.odr_names.specs.Innermost.{innermost}
use Rattle.odr_names.proofs.Innermost.{private_more}
use Rattle.type_names.specs.Heads.{Object, entries_of, is_pooled}
use Rattle.type_names.specs.Names.{Named, bid_of, named_of}
use Rattle.type_names.specs.Paths.{Piece, path_of, piece_of}
use Rattle.type_names.specs.Start.{hash_from, path_hash, piece_bytes}
use Rattle.type_names.specs.Tree.{parent_of}
use Rattle.type_names.proofs.HeadTests.{enumerated_more}
use Rattle.type_names.proofs.Lineages.{parent_before}
use Rattle.odr_names.proofs.BookPaths.{above_found, get_before, get_last, hash_is, link_before, private_is, row_in, up_within}
use Rattle.odr_names.proofs.Closed.{path_below, path_top, pooled_parent, spelled_pooled, unit_is_plain}
use Rattle.odr_names.proofs.Counting.{entry_at}
use Rattle.odr_names.proofs.Hashes.{path_hash_more}

-- ---- names

name_at : ℕ → Object → ℕ × Entry → Option Named
name_at n o e = if is_pooled o e.0 then Some (named_of n o e.0 e.1) else None

one_name : (n : ℕ) (o : Object) (k : ℕ) (e : Entry) → slice_get (entries_of o) k ≡ Some e → names_to n o (k + 1) ≡ names_to n o k ++ cons_option (if is_pooled o k then Some (named_of n o k e) else None) []
unfolding name_at
one_name n o k e at =
    let entries = entries_of o in
    let within = slice_get_within entries k e at in
    let one : take (k + 1) entries ≡ take k entries ++ e ∷ [] = take_more entries k e within ∙ ap (λ (x : Entry). take k entries ++ x ∷ []) (get_or_from_slice_get entries k e e at) in
    let len : 0 + length (take k entries) ≡ k = omega (arith, length-take-le k entries (omega arith)) in
    ap (λ (es : List Entry). filter_map (name_at n o) (enumerate_from 0 es)) one
    ∙ ap (filter_map (name_at n o)) (enumerated_more 0 (take k entries) e)
    ∙ filter_map-append (name_at n o) (enumerate_from 0 (take k entries)) ((0 + length (take k entries), e) ∷ [])
    ∙ ap (λ (m : ℕ). names_to n o k ++ filter_map (name_at n o) ((m, e) ∷ [])) len

names_skip : (n : ℕ) (o : Object) (k : ℕ) (e : Entry) → slice_get (entries_of o) k ≡ Some e → is_pooled o k ≡ false → names_to n o (k + 1) ≡ names_to n o k ++ []
names_skip n o k e at plain = one_name n o k e at ∙ ap (λ (b : Bool). names_to n o k ++ cons_option (if b then Some (named_of n o k e) else None) []) plain

names_more : (n : ℕ) (o : Object) (k : ℕ) (e : Entry) → slice_get (entries_of o) k ≡ Some e → is_pooled o k ≡ true → names_to n o (k + 1) ≡ names_to n o k ++ named_of n o k e ∷ []
names_more n o k e at pooled = one_name n o k e at ∙ ap (λ (b : Bool). names_to n o k ++ cons_option (if b then Some (named_of n o k e) else None) []) pooled

-- none of them, where no entry is pooled
pub no_names : (n : ℕ) (o : Object) (k : ℕ) → k ≤ length (entries_of o) → ((j : ℕ) → j < k → is_pooled o j ≡ false) → names_to n o k ≡ []
no_names n o zero le plain = refl
no_names n o (suc k) le plain =
    let e = entry_at (entries_of o) k (omega (arith, le)) in
    ap (names_to n o) (let next : suc k ≡ k + 1 = omega arith in next) ∙ names_skip n o k e.0 e.1 (plain k (omega arith)) ∙ append-nil (names_to n o k) ∙ no_names n o k (omega (arith, le)) (λ j lt. plain j (omega arith))

-- ---- rows

pub rows_more : (objects : List Object) (rows : List Row) (row : Row) → AreRows objects rows → IsRowOf objects row → IsLinked objects rows (length rows) row → AreRows objects (rows ++ row ∷ [])
rows_more objects rows row sound of_entry link = record {
  of_entries = λ x r at. elim (cases_lt x (length rows)) [
    | inl earlier ↦ sound.of_entries x r (sym (get_before rows (row ∷ []) x earlier) ∙ at)
    | inr later ↦ subst (IsRowOf objects) (last x r later at).1 of_entry
  ];
  linked = λ x r at. elim (cases_lt x (length rows)) [
    | inl earlier ↦ link_before objects rows (row ∷ []) r x (omega arith) (sound.linked x r (sym (get_before rows (row ∷ []) x earlier) ∙ at))
    | inr later ↦ (let it = last x r later at in subst (λ (y : ℕ). IsLinked objects (rows ++ row ∷ []) y r) (sym it.0) (subst (IsLinked objects (rows ++ row ∷ []) (length rows)) it.1 (link_before objects rows (row ∷ []) row (length rows) (omega arith) link)))
  ];
} where
  last : (x : ℕ) (r : Row) → length rows ≤ x → slice_get (rows ++ row ∷ []) x ≡ Some r → (x ≡ length rows) × (row ≡ r)
  last x r later at = (
      let end : x ≡ length rows = omega (arith, slice_get_within (rows ++ row ∷ []) x r at, length_push rows row) in
      (end, same_Some row r (sym (ap (slice_get (rows ++ row ∷ [])) end ∙ get_last rows row) ∙ at)))

none_hashed : 0 ≡ path_hash []
unfolding hash_from
none_hashed = refl

hash_above_is : (objects : List Object) (rows : List Row) (parent : Option ℕ) → AreRows objects rows → ForSome parent (λ p. p < length rows) → hash_above rows parent ≡ path_hash (path_above objects rows parent)
hash_above_is objects rows None sound within = none_hashed
hash_above_is objects rows (Some p) sound within = let row = row_in rows p (within p refl) in ap (λ (o : Option Row). option_map_or (λ row. row.hash) o 0) row.1 ∙ hash_is objects rows p row.0 sound row.1

private_above_is : (objects : List Object) (rows : List Row) (parent : Option ℕ) → AreRows objects rows → ForSome parent (λ p. p < length rows) → private_above rows parent ≡ is_some (innermost (path_above objects rows parent))
private_above_is objects rows None sound within = refl
private_above_is objects rows (Some p) sound within = let row = row_in rows p (within p refl) in ap (λ (o : Option Row). option_map_or (λ row. row.private) o false) row.1 ∙ private_is objects rows p row.0 sound row.1

-- the row above that of a pooled entry
pub above_is : (objects : List Object) (n : ℕ) (o : Object) (before rows : List Row) (numbers : List (Option ℕ)) (k : ℕ) → ParentsStandBefore (entries_of o) → AreLiveParents o → is_pooled o k ≡ true → IsEnteredTo objects n o before rows numbers k
    → (p : ℕ) × (parent_of (entries_of o) k ≡ Some p) × (path_above objects rows (option_and_then (λ (p : ℕ). get_or numbers p None) (parent_of (entries_of o) k)) ≡ path_of n o p)
    × ForSome (option_and_then (λ (p : ℕ). get_or numbers p None) (parent_of (entries_of o) k)) (λ x. x < length rows)
    × ForSome (option_and_then (λ (p : ℕ). get_or numbers p None) (parent_of (entries_of o) k)) (IsRowOfEntry n p rows)
above_is objects n o before rows numbers k stand live pooled so_far =
    let up = pooled_parent o k stand live pooled in
    let lower = parent_before (entries_of o) k up.0 stand up.1 in
    let number : option_and_then (λ (p : ℕ). get_or numbers p None) (parent_of (entries_of o) k) ≡ get_or numbers up.0 None = ap (option_and_then (λ (p : ℕ). get_or numbers p None)) up.1 in
    elim up.2 [
      | inl above ↦ (
          let it = so_far.some up.0 lower above in
          let is = number ∙ it.1 in (
            up.0,
            up.1,
            ap (path_above objects rows) is ∙ it.3,
            λ x same. (let one = same_Some it.0 x (sym is ∙ same) in omega (arith, it.2)),
            λ x same. subst (IsRowOfEntry n up.0 rows) (same_Some it.0 x (sym is ∙ same)) it.4,
          ))
      | inr top ↦ (
          let is = number ∙ so_far.none up.0 lower (unit_is_plain o up.0 top) in
          (up.0, up.1, ap (path_above objects rows) is ∙ sym (path_top n o up.0 top), λ x same. absurd (none-some x (sym is ∙ same)), λ x same. absurd (none-some x (sym is ∙ same))))
    ]

-- ---- one entry more

pub skipped : (objects : List Object) (n : ℕ) (o : Object) (before rows : List Row) (numbers : List (Option ℕ)) (k : ℕ) (e : Entry) → slice_get (entries_of o) k ≡ Some e → is_pooled o k ≡ false
    → IsEnteredTo objects n o before rows numbers k → IsEnteredTo objects n o before rows (numbers ++ None ∷ []) (k + 1)
skipped objects n o before rows numbers k e at plain so_far = record {
  are_rows = so_far.are_rows;
  names = so_far.names ∙ ap (λ (xs : List Named). map (row_name objects) before ++ xs) (sym (names_skip n o k e at plain ∙ append-nil (names_to n o k)));
  len = length_push numbers None ∙ ap (λ m. m + 1) so_far.len;
  some = λ j lt pooled. elim (cases_eq j k) [
    | inl same ↦ absurd (both_ways _ plain (ap (is_pooled o) (sym same) ∙ pooled))
    | inr other ↦ (let it = so_far.some j (omega arith) pooled in (it.0, get_or_append_left numbers (None ∷ []) None j (omega (arith, so_far.len)) ∙ it.1, it.2, it.3, it.4))
  ];
  none = λ j lt is. elim (cases_eq j k) [
    | inl same ↦ get_or_push numbers None None j (so_far.len ∙ sym same)
    | inr other ↦ get_or_append_left numbers (None ∷ []) None j (omega (arith, so_far.len)) ∙ so_far.none j (omega arith) is
  ];
}

pub entered : (objects : List Object) (n : ℕ) (o : Object) (before rows : List Row) (numbers : List (Option ℕ)) (k : ℕ) (e : Entry) (parent : Option ℕ) → ParentsStandBefore (entries_of o) → AreLiveParents o
    → slice_get objects (n - 1) ≡ Some o → 1 ≤ n → n < 2 ^ 16 → k < 2 ^ 24 → slice_get (entries_of o) k ≡ Some e → is_pooled o k ≡ true
    → parent ≡ option_and_then (λ (p : ℕ). get_or numbers p None) (parent_of (entries_of o) k) → IsEnteredTo objects n o before rows numbers k
    → IsEnteredTo objects n o before (rows ++ new_row n o k e rows parent ∷ []) (numbers ++ Some (length rows) ∷ []) (k + 1)
entered objects n o before rows numbers k e parent stand live its counted small few at pooled is so_far =
    let row : Row = new_row n o k e rows parent in
    let piece : Piece = piece_at n o k e in
    let above = above_is objects n o before rows numbers k stand live pooled so_far in
    let within : ForSome parent (λ x. x < length rows) = λ x same. above.3 x (sym is ∙ same) in
    let up : row_above (length rows) row ≡ parent = above_found (length rows) row parent refl within in
    let over : path_above objects rows (row_above (length rows) row) ≡ path_of n o above.0 = ap (path_above objects rows) (up ∙ is) ∙ above.2 in
    let own : row_path objects row ≡ path_of n o k = ap (λ (x : Option Object). option_map_or (λ (o : Object). path_of n o k) x []) its in
    let its_piece : piece_of n o k ≡ Some piece = ap (option_map (λ (e : Entry). piece_at n o k e)) at in
    let path : row_path objects row ≡ path_above objects rows (row_above (length rows) row) ++ piece ∷ [] = own ∙ path_below n o k above.0 piece stand above.1 its_piece ∙ ap (λ (path : List Piece). path ++ piece ∷ []) (sym over) in
    let parent_is : row_parent objects row ≡ parent_of (entries_of o) k = ap (option_and_then (λ (o : Object). parent_of (entries_of o) k)) its in
    let of_parent : ForSome (row_above (length rows) row) (IsRowOfParent objects rows row) = λ p same r at_p. (
    let it = above.4 p (sym (up ∙ is) ∙ same) r at_p in
    (it.0, parent_is ∙ above.1 ∙ ap (λ (q : ℕ). Some q) (sym it.1))) in
    let hash : row.hash ≡ path_hash (row_path objects row) = ap (λ (h : ℕ). hash_from h (piece_bytes piece)) (hash_above_is objects rows parent so_far.are_rows within) ∙ sym (path_hash_more (path_above objects rows parent) piece)
    ∙ ap path_hash (sym (path ∙ ap (λ (above : Option ℕ). path_above objects rows above ++ piece ∷ []) up)) in
    let private : row.private ≡ is_some (innermost (row_path objects row)) = ap (λ (above : Bool). is_some piece.parts.private || above) (private_above_is objects rows parent so_far.are_rows within) ∙ sym (private_more (path_above objects rows parent) piece)
    ∙ ap (λ (path : List Piece). is_some (innermost path)) (sym (path ∙ ap (λ (above : Option ℕ). path_above objects rows above ++ piece ∷ []) up)) in
    let of_entry : IsRowOf objects row = record { object = o; entry = e; its_object = its; stands = at; counted = (counted, small); few = few; declared = refl; spelled = spelled_pooled o k stand pooled; ordinal = refl } in
    let link : IsLinked objects rows (length rows) row = record { piece = piece; its_piece = ap (option_and_then (λ (o : Object). piece_of n o k)) its ∙ its_piece; before = up_within (length rows) parent; above = of_parent; path = path; hash = hash; private = private } in
    let name : row_name objects row ≡ named_of n o k e =
    ap (λ (path : List Piece). record { object = n; entry = k; parent = row_parent objects row; path = path; bid = bid_of n k e }) own
    ∙ ap (λ (parent : Option ℕ). record { object = n; entry = k; parent = parent; path = path_of n o k; bid = bid_of n k e }) parent_is in
    record {
      are_rows = rows_more objects rows row so_far.are_rows of_entry link;
      names = map_push (row_name objects) rows row ∙ ap (λ (xs : List Named). xs ++ row_name objects row ∷ []) so_far.names ∙ append_assoc (map (row_name objects) before) (names_to n o k) (row_name objects row ∷ [])
          ∙ ap (λ (name : Named). map (row_name objects) before ++ (names_to n o k ++ name ∷ [])) name ∙ ap (λ (xs : List Named). map (row_name objects) before ++ xs) (sym (names_more n o k e at pooled));
      len = length_push numbers (Some (length rows)) ∙ ap (λ m. m + 1) so_far.len;
      some = λ j lt is_pooled_j. elim (cases_eq j k) [
        | inl same ↦ (
          length rows,
          get_or_push numbers (Some (length rows)) None j (so_far.len ∙ sym same),
          omega (arith, length_push rows row),
          ap (λ (o : Option Row). option_map_or (row_path objects) o []) (get_last rows row) ∙ own ∙ ap (path_of n o) (sym same),
          λ r at_r. (let one = same_Some row r (sym (get_last rows row) ∙ at_r) in (sym (ap (λ (r : Row). r.object) one), sym (ap (λ (r : Row). r.entry) one) ∙ sym same)),
        )
        | inr other ↦ (
            let it = so_far.some j (omega arith) is_pooled_j in (
              it.0,
              get_or_append_left numbers (Some (length rows) ∷ []) None j (omega (arith, so_far.len)) ∙ it.1,
              omega (arith, it.2, length_push rows row),
              ap (λ (o : Option Row). option_map_or (row_path objects) o []) (get_before rows (row ∷ []) it.0 it.2) ∙ it.3,
              λ r at_r. it.4 r (sym (get_before rows (row ∷ []) it.0 it.2) ∙ at_r),
            ))
      ];
      none = λ j lt plain. elim (cases_eq j k) [
        | inl same ↦ absurd (both_ways _ plain (ap (is_pooled o) same ∙ pooled))
        | inr other ↦ get_or_append_left numbers (Some (length rows) ∷ []) None j (omega (arith, so_far.len)) ∙ so_far.none j (omega arith) plain
      ];
    }

pub begun : (n : ℕ) (o : Object) (rows : List Row) → IsEntering n o rows rows [] 0
begun n o rows = record {
  few = omega arith;
  len = refl;
  bounded = λ j x is. absurd (none-some x is);
  state = λ objects its sound. record {
    are_rows = sound;
    names = sym (append-nil (map (row_name objects) rows));
    len = refl;
    some = λ j lt pooled. absurd (omega arith);
    none = λ j lt plain. absurd (omega arith);
  };
}

pub entering : (n : ℕ) (o : Object) (before old new : List Row) (numbers : List (Option ℕ)) (k : ℕ) (e : Entry) (number : Option ℕ) → ParentsStandBefore (entries_of o) → AreLiveParents o → 1 ≤ n → n < 2 ^ 16 → k < 2 ^ 24 → slice_get (entries_of o) k ≡ Some e
    → IsEntered (is_pooled o k) (new_row n o k e old (option_and_then (λ (p : ℕ). get_or numbers p None) (parent_of (entries_of o) k))) old new number
    → length numbers ≡ k → IsEntering n o before old numbers k → IsEntering n o before new (numbers ++ number ∷ []) (k + 1)
entering n o before old new numbers k e number stand live counted small few at step len so_far = go (is_pooled o k) refl step where
  parent : Option ℕ
  parent = option_and_then (λ (p : ℕ). get_or numbers p None) (parent_of (entries_of o) k)

  row : Row
  row = new_row n o k e old parent

  bound : (number : Option ℕ) → length old ≤ length new → ((x : ℕ) → number ≡ Some x → x < length new) → (j x : ℕ) → get_or (numbers ++ number ∷ []) j None ≡ Some x → x < length new
  bound number grown own j x is = elim (cases_lt j (length numbers)) [
    | inl earlier ↦ (let it = so_far.bounded j x (sym (get_or_append_left numbers (number ∷ []) None j earlier) ∙ is) in omega (arith, it))
    | inr later ↦ elim (cases_eq j (length numbers)) [
      | inl last ↦ own x (sym (get_or_push numbers number None j (sym last)) ∙ is)
      | inr past ↦ absurd (none-some x (sym (get_or_past (numbers ++ number ∷ []) j None (omega (arith, length_push numbers number))) ∙ is))
    ]
  ]

  go : (b : Bool) → is_pooled o k ≡ b → IsEntered b row old new number → IsEntering n o before new (numbers ++ number ∷ []) (k + 1)
  go true pooled is = (
      let grown : length new ≡ length old + 1 = ap length is.1 ∙ length_push old row in
      record {
        few = omega (arith, grown, so_far.few);
        len = length_push numbers number ∙ ap (λ m. m + 1) len;
        bounded = bound number (omega arith) (λ x same. (let one = same_Some (length old) x (sym is.0 ∙ same) in omega arith));
        state = λ objects its sound. subst (λ (rows : List Row). IsEnteredTo objects n o before rows (numbers ++ number ∷ []) (k + 1)) (sym is.1)
            (subst (λ (x : Option ℕ). IsEnteredTo objects n o before (old ++ row ∷ []) (numbers ++ x ∷ []) (k + 1)) (sym is.0) (entered objects n o before old numbers k e parent stand live its counted small few at pooled refl (so_far.state objects its sound)));
      })
  go false plain is = (
      let same_len : length new ≡ length old = ap length is.1 in
      record {
        few = omega (arith, same_len, so_far.few);
        len = length_push numbers number ∙ ap (λ m. m + 1) len;
        bounded = bound number (omega arith) (λ x same. absurd (none-some x (sym is.0 ∙ same)));
        state = λ objects its sound. subst (λ (rows : List Row). IsEnteredTo objects n o before rows (numbers ++ number ∷ []) (k + 1)) (sym is.1)
            (subst (λ (x : Option ℕ). IsEnteredTo objects n o before old (numbers ++ x ∷ []) (k + 1)) (sym is.0) (skipped objects n o before old numbers k e at plain (so_far.state objects its sound)));
      })

pub all_entered : (n : ℕ) (o : Object) (before rows : List Row) (numbers : List (Option ℕ)) (k : ℕ) (objects : List Object) → length (entries_of o) ≤ k → slice_get objects (n - 1) ≡ Some o → AreRows objects before
    → IsEntering n o before rows numbers k → AreEntered objects n o before rows
all_entered n o before rows numbers k objects whole its sound so_far =
    let it = so_far.state objects its sound in
    record {
      are_rows = it.are_rows;
      names = it.names ∙ ap (λ (es : List Entry). map (row_name objects) before ++ filter_map (λ (e : ℕ × Entry). if is_pooled o e.0 then Some (named_of n o e.0 e.1) else None) (enumerate_from 0 es)) (take_all k (entries_of o) whole);
    }

pub bounded_above : (o : Object) (numbers : List (Option ℕ)) (m k : ℕ) → ((j x : ℕ) → get_or numbers j None ≡ Some x → x < m) → (x : ℕ) → option_and_then (λ (p : ℕ). get_or numbers p None) (parent_of (entries_of o) k) ≡ Some x → x < m
bounded_above o numbers m k bounded x is = go (parent_of (entries_of o) k) is where
  go : (parent : Option ℕ) → option_and_then (λ (p : ℕ). get_or numbers p None) parent ≡ Some x → x < m
  go None is = absurd (none-some x is)
  go (Some p) is = bounded p x is

-- a row that is entered has a small number
pub number_small : (pooled : Bool) (row : Row) (old new : List Row) (number : Option ℕ) → length old < 2 ^ 25 → IsEntered pooled row old new number → IfSome number (λ x. x < 2 ^ 25)
number_small true row old new number few is = subst (λ (x : Option ℕ). IfSome x (λ x. x < 2 ^ 25)) (sym is.0) few
number_small false row old new number few is = subst (λ (x : Option ℕ). IfSome x (λ x. x < 2 ^ 25)) (sym is.0) tt

-- no entry is pooled, so no row stands for one
pub none_entered : (n : ℕ) (o : Object) (objects : List Object) → ((k : ℕ) → k < length (entries_of o) → is_pooled o k ≡ false) → AreEntered objects n o [] []
none_entered n o objects plain = record {
  are_rows = record { of_entries = λ x row at. absurd (none-some row at); linked = λ x row at. absurd (none-some row at) };
  names = sym (ap (λ (es : List Entry). filter_map (λ (e : ℕ × Entry). if is_pooled o e.0 then Some (named_of n o e.0 e.1) else None) (enumerate_from 0 es)) (sym (take_all (length (entries_of o)) (entries_of o) (omega arith))) ∙ no_names n o (length (entries_of o)) (omega arith) plain);
}
