-- The rows of one object put behind those of others.
use Rattle.std.proofs.Common.{suc, zero, ◌≡◌, inl, inr, ℕ, ◌+◌, ◌-◌, ◌<◌, ◌≤◌, ◌^◌, List, [], ◌∷◌, ◌++◌, length, map, take, Option, Some, None, slice_get, get_or, refl, sym, ap, ◌∙◌, arith, subst, append_assoc, length-append}
use Rattle.std.specs.List.{All, sum_by}
use Rattle.std.specs.Option.{option_map, option_map_or}
use Rattle.std.proofs.Math.Numerals.{add-one}
use Rattle.std.proofs.lemmas.Bool.{cases_lt}
use Rattle.std.proofs.lemmas.List.{length_push, map-append, take_all, take_more}
use Rattle.std.proofs.lemmas.List.Sums.{sum_by_push}
use Rattle.std.proofs.lemmas.Option.{get_or_from_slice_get, none-some, same_Some, slice_get-get_or, slice_get_cases, slice_get_within}
use Rattle.odr_names.specs.declared.one_object.ObjectNames.{ObjectNames}
use Rattle.odr_names.specs.declared.path_book.Objects.{Objects}
use Rattle.odr_names.specs.declared.path_book.Row.{Row}
use Rattle.odr_names.specs.Book.{AreRows, AreTold, IsLinked, objects_in, path_above, row_above, row_name, row_path}
use Rattle.odr_names.specs.Entering.{AreEntered}
use Rattle.odr_names.specs.Joining.{AreAllNames, AreJoinedTo, AreNamesOf, AreNamesTo}
use Rattle.type_names.specs.declared.pooled.TypeNames.{TypeNames}
use Rattle.type_names.specs.Heads.{Object}
use Rattle.type_names.specs.Names.{Named, names, names_in}
use Rattle.type_names.specs.Objects.{object_of}
use Rattle.type_names.specs.Paths.{Piece}
use Rattle.type_names.specs.Pooled.{AreNames}
use Rattle.odr_names.proofs.BookPaths.{above_moved, get_before, get_last, length_names, link_before}
use Rattle.odr_names.proofs.MakingBooks.{object_at, object_made, one_object}

-- ---- rows behind others

pub get_behind : {X : Type 0} (xs ys : List X) (k n : ℕ) → n ≡ length xs + k → slice_get (xs ++ ys) n ≡ slice_get ys k
get_behind [] ys k n is = ap (slice_get ys) (let e : n ≡ k = omega (arith, is) in e)
get_behind (x ∷ xs) ys k zero is = absurd (omega (arith, is))
get_behind (x ∷ xs) ys k (suc n) is = get_behind xs ys k n (omega (arith, is))

above_behind : (objects : List Object) (before rows : List Row) (above : Option ℕ) → path_above objects (before ++ rows) (option_map (λ (p : ℕ). length before + p) above) ≡ path_above objects rows above
above_behind objects before rows None = refl
above_behind objects before rows (Some p) = ap (λ (o : Option Row). option_map_or (row_path objects) o []) (get_behind before rows p (length before + p) refl)

link_behind : (objects : List Object) (before rows : List Row) (row : Row) (y : ℕ) → IsLinked objects rows y row → IsLinked objects (before ++ rows) (length before + y) row
link_behind objects before rows row y link = record {
  piece = link.piece;
  its_piece = link.its_piece;
  before = omega (arith, link.before);
  above = λ p is up at. (
      let its = below (row_above y row) p (sym (above_moved (length before) y row link.before) ∙ is) in
      link.above its.0 its.1 up (sym (get_behind before rows its.0 p (sym its.2)) ∙ at));
  path = link.path ∙ ap (λ (path : List Piece). path ++ link.piece ∷ []) (sym (ap (path_above objects (before ++ rows)) (above_moved (length before) y row link.before) ∙ above_behind objects before rows (row_above y row)));
  hash = link.hash;
  private = link.private;
} where
  below : (o : Option ℕ) (p : ℕ) → option_map (λ (p : ℕ). length before + p) o ≡ Some p → (q : ℕ) × (o ≡ Some q) × (length before + q ≡ p)
  below None p is = absurd (none-some p is)
  below (Some q) p is = (q, refl, same_Some (length before + q) p is)

rows_behind : (objects : List Object) (before rows : List Row) → AreRows objects before → AreRows objects rows → AreRows objects (before ++ rows)
rows_behind objects before rows first second = record {
  of_entries = λ x r at. elim (cases_lt x (length before)) [
    | inl earlier ↦ first.of_entries x r (sym (get_before before rows x earlier) ∙ at)
    | inr later ↦ second.of_entries (x - length before) r (its_row x r later at)
  ];
  linked = λ x r at. elim (cases_lt x (length before)) [
    | inl earlier ↦ link_before objects before rows r x (omega (arith, earlier)) (first.linked x r (sym (get_before before rows x earlier) ∙ at))
    | inr later ↦ (
        let here : length before + (x - length before) ≡ x = omega (arith, later) in
        subst (λ (y : ℕ). IsLinked objects (before ++ rows) y r) here (link_behind objects before rows r (x - length before) (second.linked (x - length before) r (its_row x r later at))))
  ];
} where
  its_row : (x : ℕ) (r : Row) → length before ≤ x → slice_get (before ++ rows) x ≡ Some r → slice_get rows (x - length before) ≡ Some r
  its_row x r later at = sym (get_behind before rows (x - length before) x (omega (arith, later))) ∙ at

-- rows that were entered behind none are entered behind any
pub entered_behind : (objects : List Object) (n : ℕ) (o : Object) (before rows : List Row) → AreRows objects before → AreEntered objects n o [] rows → AreEntered objects n o before (before ++ rows)
entered_behind objects n o before rows sound is = record {
  are_rows = rows_behind objects before rows sound is.are_rows;
  names = map-append (row_name objects) before rows ∙ ap (λ (xs : List Named). map (row_name objects) before ++ xs) is.names;
}

pub none_entered : (objects : List Object) → AreRows objects []
none_entered objects = record { of_entries = λ x row at. absurd (none-some row at); linked = λ x row at. absurd (none-some row at) }

-- ---- the names of each object

own_entered : (objects : List Object) (i : ℕ) (o : Object) (one : ObjectNames) → slice_get objects i ≡ Some o → AreNamesOf (i + 1) o one → AreEntered objects (i + 1) o [] one.rows.items
own_entered objects i o one at is = is.entered objects (ap (slice_get objects) (let back : i + 1 - 1 ≡ i = omega arith in back) ∙ at)

own_count : (objects : List Object) (i : ℕ) (o : Object) (one : ObjectNames) → slice_get objects i ≡ Some o → AreNamesOf (i + 1) o one → length one.rows.items ≡ length (names_in (i + 1) o)
own_count objects i o one at is = sym (length_names objects one.rows.items) ∙ ap length (own_entered objects i o one at is).names

pub names_begun : (objects : List Object) → AreNamesTo objects [] 0
names_begun objects = record { len = refl; each = λ i o one at_o at. absurd (none-some one at) }

pub names_more : (objects : List Object) (own : List ObjectNames) (n : ℕ) (o : Object) (one : ObjectNames) → slice_get objects n ≡ Some o → AreNamesOf (n + 1) o one → AreNamesTo objects own n → AreNamesTo objects (own ++ one ∷ []) (n + 1)
names_more objects own n o one at is so_far = record {
  len = length_push own one ∙ ap (λ k. k + 1) so_far.len;
  each = λ i its other its_at other_at. elim (cases_lt i (length own)) [
    | inl earlier ↦ so_far.each i its other its_at (sym (get_before own (one ∷ []) i earlier) ∙ other_at)
    | inr later ↦ (
        let last : i ≡ length own = omega (arith, slice_get_within (own ++ one ∷ []) i other other_at, length_push own one) in
        let here : i ≡ n = last ∙ so_far.len in
        let same : one ≡ other = same_Some one other (sym (ap (slice_get (own ++ one ∷ [])) last ∙ get_last own one) ∙ other_at) in
        let same_o : o ≡ its = same_Some o its (sym (ap (slice_get objects) here ∙ at) ∙ its_at) in
        subst (λ (k : ℕ). AreNamesOf (k + 1) its other) (sym here) (subst (λ (o : Object). AreNamesOf (n + 1) o other) same_o (subst (AreNamesOf (n + 1) o) same is)))
  ];
}

pub names_done : (objects : List Object) (own : List ObjectNames) (n : ℕ) → n ≡ length objects → AreNamesTo objects own n → AreAllNames objects own
names_done objects own n is so_far = subst (AreNamesTo objects own) is so_far

-- ---- how many

abbrev pub row_count : ObjectNames → ℕ
row_count one = length one.rows.items

one_at : (own : List ObjectNames) (i : ℕ) → i < length own → (one : ObjectNames) × (slice_get own i ≡ Some one)
one_at own i within = elim (slice_get_cases own i).1 [ inl some ↦ (some.0, some.2) | inr past ↦ absurd (omega (arith, past.0)) ]

count_to : (objects : List Object) (own : List ObjectNames) → AreAllNames objects own → (i : ℕ) → i ≤ length objects → sum_by row_count (take i own) ≡ length (names (take i objects))
count_to objects own are zero le = refl
count_to objects own are (suc i) le =
    let o = object_at objects i (omega (arith, le)) in
    let within : i < length own = omega (arith, le, are.len) in
    let d : ObjectNames = (one_at own i within).0 in
    let at = (one_at own i within).1 in
    let more = ap (sum_by row_count) (take_more own i d within ∙ ap (λ (x : ObjectNames). take i own ++ x ∷ []) (get_or_from_slice_get own i d d at)) ∙ sum_by_push row_count (take i own) d in
    let named = ap length (one_object objects i o.0 o.1) ∙ length-append (names (take i objects)) (names_in (i + 1) o.0) in
    let here = own_count objects i o.0 d o.1 (are.each i o.0 d o.1 at) in
    let before = count_to objects own are i (omega (arith, le)) in
    let one : sum_by row_count (take (i + 1) own) ≡ length (names (take (i + 1) objects)) = omega (arith, more, named, here, before) in
    subst (λ (k : ℕ). sum_by row_count (take k own) ≡ length (names (take k objects))) (add-one i) one

-- the rows of all objects are as many as the names
pub count_all : (objects : List Object) (own : List ObjectNames) → AreAllNames objects own → sum_by row_count own ≡ length (names objects)
count_all objects own are =
    ap (sum_by row_count) (sym (take_all (length objects) own (omega (arith, are.len))))
    ∙ count_to objects own are (length objects) (omega arith)
    ∙ ap (λ (os : List Object). length (names os)) (take_all (length objects) objects (omega arith))

pub each_few : (objects : List Object) (own : List ObjectNames) → AreAllNames objects own → All (λ (one : ObjectNames). length one.rows.items < 2 ^ 25) own
each_few objects own are = λ i d within. (
    let o = object_at objects i (omega (arith, are.len, within)) in
    (are.each i o.0 (get_or own i d) o.1 (slice_get-get_or own i d within)).few)

-- ---- object by object

pub joined_begun : (objects : List Object) → AreJoinedTo objects [] [] 0
joined_begun objects = record { len = refl; each = λ j o t at_o at. absurd (none-some t at); are_rows = none_entered objects; names = refl }

pub joined_more : (objects : List Object) (told : List TypeNames) (rows : List Row) (i : ℕ) (o : Object) (one : ObjectNames) → slice_get objects i ≡ Some o → AreNamesOf (i + 1) o one
    → AreJoinedTo objects told rows i → AreJoinedTo objects (told ++ one.names ∷ []) (rows ++ one.rows.items) (i + 1)
joined_more objects told rows i o one at is so_far =
    let entered = entered_behind objects (i + 1) o rows one.rows.items so_far.are_rows (own_entered objects i o one at is) in
    record {
      len = length_push told one.names ∙ ap (λ k. k + 1) so_far.len;
      each = λ j its t its_at t_at. elim (cases_lt j (length told)) [
        | inl earlier ↦ so_far.each j its t its_at (sym (get_before told (one.names ∷ []) j earlier) ∙ t_at)
        | inr later ↦ (
            let last : j ≡ length told = omega (arith, slice_get_within (told ++ one.names ∷ []) j t t_at, length_push told one.names) in
            let same : one.names ≡ t = same_Some one.names t (sym (ap (slice_get (told ++ one.names ∷ [])) last ∙ get_last told one.names) ∙ t_at) in
            let same_o : o ≡ its = same_Some o its (sym (ap (slice_get objects) (last ∙ so_far.len) ∙ at) ∙ its_at) in
            subst (λ (o : Object). AreNames o t) same_o (subst (AreNames o) same is.told))
      ];
      are_rows = entered.are_rows;
      names = entered.names ∙ ap (λ (xs : List Named). xs ++ names_in (i + 1) o) so_far.names ∙ sym (one_object objects i o at);
    }

pub joined_names : (objects : List Object) (told : List TypeNames) (rows : List Row) (i : ℕ) → length objects ≤ i → AreJoinedTo objects told rows i → map (row_name objects) rows ≡ names objects
joined_names objects told rows i whole so_far = so_far.names ∙ ap (λ (os : List Object). names os) (take_all i objects whole)

-- ---- the items of a list that are taken from its front

pub goes_on : {A : Type 0} (all front left rest : List A) (x : A) → front ++ left ≡ all → left ≡ x ∷ rest → (front ++ x ∷ []) ++ rest ≡ all
goes_on {A} all front left rest x whole next = append_assoc front (x ∷ []) rest ∙ sym (ap (λ (l : List A). front ++ l) next) ∙ whole

pub all_taken : {A : Type 0} (all front left : List A) → front ++ left ≡ all → length left ≡ 0 → length front ≡ length all
all_taken all front left whole none = omega (arith, none, ap length whole, length-append front left)

module _ (objects : List Object) (all front left rest : List ObjectNames) (one : ObjectNames) (whole : front ++ left ≡ all) (next : left ≡ one ∷ rest) (are : AreAllNames objects all) where
  taken_here : slice_get all (length front) ≡ Some one
  taken_here =
      sym (ap (λ (l : List ObjectNames). slice_get l (length front)) (sym (ap (λ (l : List ObjectNames). front ++ l) next) ∙ whole))
      ∙ get_behind front (one ∷ rest) 0 (length front) (omega arith)

  pub inside_here : length front < length objects
  inside_here = omega (arith, are.len, slice_get_within all (length front) one taken_here)

  -- the object of the names at hand
  pub object_here : (o : Object) × (slice_get objects (length front) ≡ Some o) × AreNamesOf (length front + 1) o one
  object_here = (let o = object_at objects (length front) inside_here in (o.0, o.1, are.each (length front) o.0 one o.1 taken_here))

  pub joined_next : (told new_told : List TypeNames) (rows given new_rows : List Row) → given ≡ one.rows.items → new_told ≡ told ++ one.names ∷ [] → new_rows ≡ rows ++ given
      → AreJoinedTo objects told rows (length front) → AreJoinedTo objects new_told new_rows (length (front ++ one ∷ []))
  joined_next told new_told rows given new_rows same e f so_far =
      let o = object_here in
      let more = joined_more objects told rows (length front) o.0 one o.1 o.2 so_far in
      subst (AreJoinedTo objects new_told new_rows) (sym (length_push front one))
      (subst (λ (rs : List Row). AreJoinedTo objects new_told rs (length front + 1)) (sym (f ∙ ap (λ (rs : List Row). rows ++ rs) same))
      (subst (λ (ts : List TypeNames). AreJoinedTo objects ts (rows ++ one.rows.items) (length front + 1)) (sym e) more))

-- ---- all objects

pub joined_told : (os : Objects) (rows : List Row) → length os.live.now ≡ length os.seen.now → AreJoinedTo (objects_in os) os.names.items rows (length os.seen.now) → AreTold os
joined_told os rows live are = record {
  live_len = live;
  names_len = are.len;
  each = λ i seen row told at_seen at_live at. are.each i (object_of seen row) told (object_made os.seen.now os.live.now i seen row at_seen at_live) at;
}
