-- Heads whose cells follow one another, and what their entries are as columns grow.
use Rattle.std.proofs.Common.{◌≡◌, ℕ, zero, suc, ◌+◌, ◌-◌, ◌<◌, ◌≤◌, ◌||◌, List, [], ◌∷◌, ◌++◌, Bool, cond, not, nat_lt, Some, None, map, length, drop, get_or, slice_get, All, refl, ap, ap₂, subst, sym, ◌∙◌, arith}
use Rattle.std.specs.List.{find, list_any, position, position_or_len, prefix_len}
use Rattle.std.specs.Option.{option_map}
use Rattle.std.proofs.lemmas.Grind.{common_steps}
use Rattle.std.proofs.lemmas.List.{map_push, length-drop, length-map, length_push, take_all}
use Rattle.std.proofs.lemmas.List.Elements.{All-take, All-drop, All-head, All-tail, All-push, All-weaker}
use Rattle.std.proofs.lemmas.List.Folds.{find_at}
use Rattle.std.proofs.lemmas.List.Sums.{sum_by-cons}
use Rattle.std.proofs.lemmas.Option.{get_or_from_slice_get, slice_get-get_or, slice_get-map, slice_get_past}
use Rattle.dwarf_types.specs.declared.columns.Head.{Head}
use Rattle.dwarf_types.specs.Cells.{Begins}
use Rattle.dwarf_types.specs.Columns.{Follow, IsFlat, cell_count, cells_of, row}
use Rattle.dwarf_types.proofs.Kept.{range_begins}

follow_push : (at : ℕ) (heads : List Head) (h : Head) (end : ℕ) → Follow at heads h.first → h.first + h.count ≡ end → Follow at (heads ++ h ∷ []) end
follow_push at [] h end f le = (f, le)
follow_push at (g ∷ heads) h end f le = (f.0, follow_push (g.first + g.count) heads h end f.1 le)

-- no head begins before where they begin
pub follow_over : (at : ℕ) (heads : List Head) (end : ℕ) → Follow at heads end → at ≤ end
follow_over at [] end f = omega arith
follow_over at (h ∷ heads) end f =
    let over = follow_over (h.first + h.count) heads end f.1 in
    let here : at ≡ h.first = f.0 in
    omega arith

follow_within : (at : ℕ) (heads : List Head) (end i : ℕ) (d : Head) → Follow at heads end → i < length heads → (get_or heads i d).first + (get_or heads i d).count ≤ end
follow_within at [] end i d f lt = absurd (omega arith)
follow_within at (h ∷ heads) end zero d f lt = follow_over (h.first + h.count) heads end f.1
follow_within at (h ∷ heads) end (suc i) d f lt = follow_within (h.first + h.count) heads end i d f.1 (omega arith)

pub follow_begins : (at : ℕ) (heads : List Head) (end i : ℕ) (d : Head) → Follow at heads end → i < length heads → at ≤ (get_or heads i d).first
follow_begins at [] end i d f lt = absurd (omega arith)
follow_begins at (h ∷ heads) end zero d f lt =
    let here : at ≡ h.first = f.0 in
    omega arith
follow_begins at (h ∷ heads) end (suc i) d f lt =
    let later = follow_begins (h.first + h.count) heads end i d f.1 (omega arith) in
    let here : at ≡ h.first = f.0 in
    omega arith

-- they end behind all cells that they have
pub follow_ends : (at : ℕ) (heads : List Head) (end : ℕ) → Follow at heads end → at + cell_count heads ≡ end
follow_ends at [] end f = omega arith
follow_ends at (h ∷ heads) end f =
    let later = follow_ends (h.first + h.count) heads end f.1 in
    let here : at ≡ h.first = f.0 in
    omega (arith, later, sum_by-cons (λ (x : Head). x.count) h heads)

pub head_read : {X : Type 0} (Within : X → Type 0) (heads : List Head) (cells : List X) (at i : ℕ) (h : Head) → IsFlat Within heads cells at → i < length heads → h ≡ get_or heads i h → h.first + h.count ≤ length cells
head_read Within heads cells at i h f lt is =
    let within = follow_within 0 heads at i h f.follow lt in
    let few : at ≤ length cells = f.few in
    let here : h.first + h.count ≤ at = rw (← is) at within in
    omega arith

pub part_within : {X : Type 0} (Within : X → Type 0) (cells : List X) (h : Head) → All Within cells → All Within (cells_of cells h)
part_within Within cells h all = All-take Within (h.first + h.count - h.first) (drop h.first cells) (All-drop Within h.first cells all)

-- cells that stand for the same, each by what it keeps to
pub maps_same : {X A : Type 0} (Within : X → Type 0) (f g : X → A) → ((x : X) → Within x → g x ≡ f x) → (xs : List X) → All Within xs → map g xs ≡ map f xs
maps_same Within f g same [] all = refl
maps_same Within f g same (x ∷ xs) all = ap₂ ◌∷◌ (same x (All-head Within x xs all)) (maps_same Within f g same xs (All-tail Within x xs all))

-- what an entry is made of, of a head and what its cells stand for
module _ {X A E : Type 0} (Within : X → Type 0) (with_attrs : Head → List A → E) where
  -- more cells behind leave the entries, where each cell stands for the same
  row_kept : (f g : X → A) → ((x : X) → Within x → g x ≡ f x) → (cells more : List X) → All Within cells → (h : Head) → h.first + h.count ≤ length cells → row g with_attrs (cells ++ more) h ≡ row f with_attrs cells h
  row_kept f g same cells more all h le =
      let b : Begins cells (cells ++ more) = (more, refl) in
      let part : cells_of (cells ++ more) h ≡ cells_of cells h = range_begins cells (cells ++ more) h.first (h.first + h.count) b (omega arith) le in
      ap (with_attrs h) (ap (map g) part ∙ maps_same Within f g same (cells_of cells h) (part_within Within cells h all))

  pub rows_kept : (f g : X → A) → ((x : X) → Within x → g x ≡ f x) → (cells more : List X) → All Within cells → (at : ℕ) (heads : List Head) (end : ℕ) → Follow at heads end → end ≤ length cells → map (row g with_attrs (cells ++ more)) heads ≡ map (row f with_attrs cells) heads
  rows_kept f g same cells more all at [] end follow le = refl
  rows_kept f g same cells more all at (h ∷ heads) end follow le =
      let over = follow_over (h.first + h.count) heads end follow.1 in
      ap₂ ◌∷◌ (row_kept f g same cells more all h (omega arith)) (rows_kept f g same cells more all (h.first + h.count) heads end follow.1 le)

  -- the entry of the cells behind all heads
  pub rows_close : (f : X → A) (heads : List Head) (cells : List X) (at : ℕ) (h : Head) → h.first ≡ at → at + h.count ≡ length cells → map (row f with_attrs cells) (heads ++ h ∷ []) ≡ map (row f with_attrs cells) heads ++ with_attrs h (map f (drop at cells)) ∷ []
  rows_close f heads cells at h first count =
      let last : cells_of cells h ≡ drop at cells = rw first (take_all (at + h.count - at) (drop at cells) (omega (arith, length-drop at cells))) in
      map_push (row f with_attrs cells) heads h ∙ ap (λ (cs : List X). map (row f with_attrs cells) heads ++ with_attrs h (map f cs) ∷ []) last

  -- the entry of a head
  pub row_read : (f : X → A) (heads : List Head) (cells : List X) (i : ℕ) (h : Head) → i < length heads → h ≡ get_or heads i h → slice_get (map (row f with_attrs cells) heads) i ≡ Some (row f with_attrs cells h)
  row_read f heads cells i h lt is =
      slice_get-map (row f with_attrs cells) heads i ∙ ap (option_map (row f with_attrs cells)) (slice_get-get_or heads i h lt ∙ ap Some (sym is))

  pub row_item : (f : X → A) (heads : List Head) (cells : List X) (i : ℕ) (h : Head) → i < length heads → h ≡ get_or heads i h → row f with_attrs cells h ≡ get_or (map (row f with_attrs cells) heads) i (row f with_attrs cells h)
  row_item f heads cells i h lt is = sym (get_or_from_slice_get (map (row f with_attrs cells) heads) i (row f with_attrs cells h) (row f with_attrs cells h) (row_read f heads cells i h lt is))

-- ---- heads and cells that are put

pub flat_as : {X : Type 0} (Within Later : X → Type 0) → ((x : X) → Within x → Later x) → (heads : List Head) (cells : List X) (at : ℕ) → IsFlat Within heads cells at → IsFlat Later heads cells at
flat_as Within Later weaker heads cells at f = record { follow = f.follow; few = f.few; within = All-weaker Within Later weaker cells f.within }

pub flat_cell : {X : Type 0} (Within : X → Type 0) (heads : List Head) (cells : List X) (at : ℕ) (c : X) → Within c → IsFlat Within heads cells at → IsFlat Within heads (cells ++ c ∷ []) at
flat_cell Within heads cells at c w f =
    let few : at ≤ length cells = f.few in
    record { follow = f.follow; few = omega (arith, length_push cells c); within = All-push Within cells c f.within w }

pub flat_close : {X : Type 0} (Within : X → Type 0) (heads : List Head) (cells : List X) (at : ℕ) (h : Head) → h.first ≡ at → at + h.count ≡ length cells → IsFlat Within heads cells at → IsFlat Within (heads ++ h ∷ []) cells (length cells)
flat_close Within heads cells at h first count f =
    let ends : h.first + h.count ≡ length cells = omega arith in
    record { follow = follow_push 0 heads h (length cells) (rw first f.follow) ends; few = omega arith; within = f.within }

pub flat_whole : {X : Type 0} (Within : X → Type 0) (heads : List Head) (cells : List X) (at : ℕ) → IsFlat Within heads cells at → IsFlat Within heads cells (cell_count heads)
flat_whole Within heads cells at f =
    let ends : at ≡ cell_count heads = omega (arith, follow_ends 0 heads at f.follow) in
    subst (IsFlat Within heads cells) ends f

-- ---- cells of a name

pub any_map : {A B : Type 0} (f : A → B) (p : B → Bool) (xs : List A) → list_any p (map f xs) ≡ list_any (λ x. p (f x)) xs
any_map f p [] = refl
any_map f p (x ∷ xs) = ap (λ b. p (f x) || b) (any_map f p xs)

prefix_map : {A B : Type 0} (f : A → B) (p : B → Bool) (xs : List A) → prefix_len p (map f xs) ≡ prefix_len (λ x. p (f x)) xs
prefix_map f p [] = refl
prefix_map f p (x ∷ xs) = ap (λ n. cond (p (f x)) (1 + n) 0) (prefix_map f p xs)

pub position_map : {A B : Type 0} (f : A → B) (p : B → Bool) (xs : List A) → position p (map f xs) ≡ position (λ x. p (f x)) xs
position_map f p xs = ap₂ (λ i n. cond (nat_lt i n) (Some i) None) (prefix_map f (λ y. not (p y)) xs) (length-map xs f)

-- what is found stands at the position of the first that passes
at_position : {A : Type 0} (p : A → Bool) (xs : List A) (j : ℕ) → position p xs ≡ Some j → position_or_len p xs ≡ j
at_position p xs j e = grind (arith, common_steps)

pub position_within : {A : Type 0} (p : A → Bool) (xs : List A) (j : ℕ) → position p xs ≡ Some j → j < length xs
position_within p xs j e = grind (arith, common_steps)

past_position : {A : Type 0} (p : A → Bool) (xs : List A) → position p xs ≡ None → length xs ≤ position_or_len p xs
past_position p xs e = grind (arith, common_steps)

pub find_there : {A : Type 0} (p : A → Bool) (xs : List A) (j : ℕ) → position p xs ≡ Some j → find p xs ≡ slice_get xs j
find_there p xs j e = find_at p xs ∙ ap (slice_get xs) (at_position p xs j e)

pub find_none : {A : Type 0} (p : A → Bool) (xs : List A) → position p xs ≡ None → find p xs ≡ None
find_none p xs e = find_at p xs ∙ slice_get_past xs (position_or_len p xs) (past_position p xs e)
