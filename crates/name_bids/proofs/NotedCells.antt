-- What is noted of names, for the names of one object and another, and as seats learn more.
use Rattle.std.proofs.Common.{◌≡◌, ℕ, ◌+◌, ◌-◌, ◌<◌, ◌≤◌, ◌⊎◌, inl, inr, ⊎_elim, List, [], ◌∷◌, ◌++◌, length, take, drop, get_or, Option, Some, None, slice_get, sym, refl, ap, ◌∙◌, subst, arith}
use Rattle.std.specs.List.{Contains}
use Rattle.std.specs.Option.{option_map}
use Rattle.std.proofs.lemmas.Bool.{cases_lt}
use Rattle.std.proofs.lemmas.List.{get_or-append_right, get_or-drop, get_or-take, get_or_append_left, length-map, length-take-le, length_push}
use Rattle.std.proofs.lemmas.List.Elements.{All-append, All-cons, All-contains, All-nil, All-weaker, Contains-append_left, Contains-append_right, Contains-push, Contains-push_cases}
use Rattle.std.proofs.lemmas.Option.{none-some, same_Some, slice_get-get_or, slice_get-map, slice_get_within}
use Rattle.ds_base.specs.Room.{put}
use Rattle.ds_base.proofs.Adding.{length-put}
use Rattle.odr_names.specs.Numbered.{SamePath}
use Rattle.odr_names.proofs.BookPaths.{get_before, get_last}
use Rattle.pool_core.specs.declared.state.PoolState.{PoolState}
use Rattle.type_names.specs.Names.{Named}
use Rattle.type_pool.specs.declared.view.View.{View}
use Rattle.type_pool.specs.declared.placing.Placing.TheVariants.{Cell}
use Rattle.type_pool.specs.Ends.{Closes}
use Rattle.type_pool.specs.Pairs.{Has}
use Rattle.type_pool.specs.Seats.{Placed}
use Rattle.type_pool.specs.Standing.{IsIn, probes}
use Rattle.type_pool.specs.Views.{bidden}
use Rattle.type_pool.proofs.Places.{not_behind_others, others_on, stands_on}
use Rattle.name_bids.specs.declared.bidding.ObjectCells.{ObjectCells}
use Rattle.name_bids.specs.Bids.{IsNotedAt}
use Rattle.name_bids.specs.Noting.{AreCellsFrom, AreCellsOf, AreJoined, AreNoted, IsNotedIn, IsOneOf, IsPlacedAt, IsWithin, cell_in, cells_in}
use Rattle.name_bids.specs.Reading.{AreCells, IsCellOf}
use Rattle.name_bids.specs.Tables.{first_cell}
use Rattle.name_bids.proofs.Bids.{crowded_on, noted_on}

-- the cell at which a name was placed, as the notes show behind its bid
pub placed_cell : (names : List Named) (cells : ℕ) (mid new : View) (x cell number : ℕ) → Placed (SamePath names) mid.notes (first_cell names x cells) cells x (Cell cell) → new ≡ bidden mid cell number
    → IsNotedAt names cells new.notes x cell
placed_cell names cells mid new x cell number placed is = subst (λ (v : View). IsNotedAt names cells v.notes x cell) (sym is) placed

-- what notes show of a name's place, more notes show
pub placed_on : (names : List Named) (cells : ℕ) (old new : List (ℕ × ℕ)) → ((c n : ℕ) → Has old c n → Has new c n) → (x : ℕ) (cell : Option ℕ) → IsPlacedAt names cells old x cell → IsPlacedAt names cells new x cell
placed_on names cells old new more x None placed = crowded_on names cells old new x more placed
placed_on names cells old new more x (Some cell) placed = noted_on names cells old new x cell more placed

-- what a seat noted of a name's place is so in the table that it closed
pub placed_in : (names : List Named) (v : View) (state : PoolState) → Closes (length state.cells) v state → (x : ℕ) (cell : Option ℕ) → IsPlacedAt names (length state.cells) v.notes x cell → IsCellOf names state.cells x cell
placed_in names v state closes x None placed = λ cell at.
    not_behind_others (SamePath names) state.cells (first_cell names x (length state.cells)) (length state.cells) x cell
    (others_on (SamePath names) (Has v.notes) (IsIn state.cells) (first_cell names x (length state.cells)) (length state.cells) x probes (λ c n has. (closes.noted c n has).1) placed) at
placed_in names v state closes x (Some cell) placed = stands_on (SamePath names) (Has v.notes) (IsIn state.cells) (first_cell names x (length state.cells)) (length state.cells) x cell (λ c n has. (closes.noted c n has).1) placed

-- ---- the names of an object, one after the other

pub cells_none : (size : ℕ) (Is : ℕ → Option ℕ → Type 0) (first : ℕ) → first ≤ size → AreCellsFrom size Is first []
cells_none size Is first within = record { within = omega (arith, within); each = λ i word at. absurd (none-some word at) }

pub cells_more : (size : ℕ) (Is Js : ℕ → Option ℕ → Type 0) (first : ℕ) (words : List ℕ) (x word : ℕ) → ((y : ℕ) (cell : Option ℕ) → Is y cell → Js y cell) → first + length words ≡ x → x < size → Js x (cell_in word)
    → AreCellsFrom size Is first words → AreCellsFrom size Js first (words ++ word ∷ [])
cells_more size Is Js first words x word more long within is so_far = record {
  within = omega (arith, long, within, length_push words word);
  each = λ i other at. elim (cases_lt i (length words)) [
    | inl earlier ↦ more (first + i) (cell_in other) (so_far.each i other (sym (get_before words (word ∷ []) i earlier) ∙ at))
    | inr later ↦ (
        let last : i ≡ length words = omega (arith, later, slice_get_within (words ++ word ∷ []) i other at, length_push words word) in
        let same : word ≡ other = same_Some word other (sym (ap (slice_get (words ++ word ∷ [])) last ∙ get_last words word) ∙ at) in
        subst (λ (y : ℕ). Js y (cell_in other)) (let e : x ≡ first + i = omega (arith, long, last) in e) (subst (λ (w : ℕ). Js x (cell_in w)) same is))
  ];
}

-- ---- those of one object and another

module _ (size : ℕ) where
  pub noted_none : (Is : ℕ → Option ℕ → Type 0) (For : ℕ → Type 0) → ((x : ℕ) → For x → ⊥) → AreNoted size Is [] For
  noted_none Is For none = record {
    right = All-nil (AreCellsOf size Is);
    each = λ x is. absurd (none x is);
  }

  pub noted_one : (Is : ℕ → Option ℕ → Type 0) (own : ObjectCells) (For : ℕ → Type 0) → AreCellsOf size Is own → ((x : ℕ) → For x → IsOneOf own x) → AreNoted size Is (own ∷ []) For
  noted_one Is own For are whole = record {
    right = All-cons (AreCellsOf size Is) own [] are (All-nil (AreCellsOf size Is));
    each = λ x is. (own, Contains-push [] own, whole x is);
  }

  pub noted_both : (Is : ℕ → Option ℕ → Type 0) (left right : List ObjectCells) (D E : ℕ → Type 0) → AreNoted size Is left D → AreNoted size Is right E → AreNoted size Is (left ++ right) (λ x. D x ⊎ E x)
  noted_both Is left right D E first second = record {
    right = All-append (AreCellsOf size Is) left right first.right second.right;
    each = λ x is. ⊎_elim
        (λ (d : D x). (let its = first.each x d in (its.0, Contains-append_left left right its.0 its.1, its.2)))
        (λ (e : E x). (let its = second.each x e in (its.0, Contains-append_right left right its.0 its.1, its.2)))
        is;
  }

  -- no more names
  pub noted_as : (Is : ℕ → Option ℕ → Type 0) (noted : List ObjectCells) (D E : ℕ → Type 0) → ((x : ℕ) → E x → D x) → AreNoted size Is noted D → AreNoted size Is noted E
  noted_as Is noted D E back are = record {
    right = are.right;
    each = λ x is. are.each x (back x is);
  }

  -- what is so of each cell is said otherwise
  pub noted_more : (Is Js : ℕ → Option ℕ → Type 0) (noted : List ObjectCells) (For : ℕ → Type 0) → ((x : ℕ) (cell : Option ℕ) → Is x cell → Js x cell) → AreNoted size Is noted For → AreNoted size Js noted For
  noted_more Is Js noted For more are = record {
    right = All-weaker (AreCellsOf size Is) (AreCellsOf size Js) (λ own its. record { within = its.within; each = λ i word at. more (own.first + i) (cell_in word) (its.each i word at) }) noted are.right;
    each = are.each;
  }

-- ---- the cells of all names

put_here : (room xs : List ℕ) (at x : ℕ) → at + length xs ≤ length room → at ≤ x → x < at + length xs → get_or (put room at xs) x 0 ≡ get_or xs (x - at) 0
put_here room xs at x fits low high =
    get_or-append_right (take at room) (xs ++ drop (at + length xs) room) at x 0 (length-take-le at room (omega (arith, fits))) low ∙ get_or_append_left xs (drop (at + length xs) room) 0 (x - at) (omega (arith, low, high))

put_before : (room xs : List ℕ) (at x : ℕ) → at + length xs ≤ length room → x < at → get_or (put room at xs) x 0 ≡ get_or room x 0
put_before room xs at x fits before =
    get_or_append_left (take at room) (xs ++ drop (at + length xs) room) 0 x (omega (arith, before, length-take-le at room (omega (arith, fits)))) ∙ get_or-take at room x 0 before

put_behind : (room xs : List ℕ) (at x : ℕ) → at + length xs ≤ length room → at + length xs ≤ x → get_or (put room at xs) x 0 ≡ get_or room x 0
put_behind room xs at x fits behind =
    let rest : at + length xs + (x - at - length xs) ≡ x = omega (arith, behind) in
    get_or-append_right (take at room) (xs ++ drop (at + length xs) room) at x 0 (length-take-le at room (omega (arith, fits))) (omega (arith, behind))
    ∙ get_or-append_right xs (drop (at + length xs) room) (length xs) (x - at) 0 refl (omega (arith, behind))
    ∙ get_or-drop (at + length xs) room (x - at - length xs) 0
    ∙ ap (λ (i : ℕ). get_or room i 0) rest

module _ (size : ℕ) where
  pub joined_none : (words : List ℕ) → length words ≡ size → AreJoined size [] words
  joined_none words len = record {
    len = len;
    each = λ x own there is. absurd (omega (arith, there.1));
  }

  -- the cells of one object more
  pub joined_more : (noted : List ObjectCells) (words : List ℕ) (own : ObjectCells) → IsWithin size own → AreJoined size noted words → AreJoined size (noted ++ own ∷ []) (put words own.first own.cells.items)
  joined_more noted words own within so_far = record {
    len = length-put words own.cells.items own.first fits ∙ so_far.len;
    each = λ x other there is. elim (cases_lt x own.first) [
      | inl before ↦ old x other there is (λ it. absurd (omega (arith, before, it.0))) (put_before words own.cells.items own.first x fits before)
      | inr low ↦ elim (cases_lt x (own.first + length own.cells.items)) [
        | inl high ↦ record {
          own = own;
          there = Contains-push noted own;
          behind = omega (arith, low);
          cell = slice_get-get_or own.cells.items (x - own.first) 0 (omega (arith, low, high)) ∙ ap (λ (w : ℕ). Some w) (sym (put_here words own.cells.items own.first x fits (omega (arith, low)) high));
        }
        | inr behind ↦ old x other there is (λ it. absurd (omega (arith, behind, it.1))) (put_behind words own.cells.items own.first x fits (omega (arith, behind)))
      ]
    ];
  } where
    fits : own.first + length own.cells.items ≤ length words
    fits = omega (arith, within, so_far.len)

    old : (x : ℕ) (other : ObjectCells) → Contains (noted ++ own ∷ []) other → IsOneOf other x → (IsOneOf own x → ⊥) → get_or (put words own.first own.cells.items) x 0 ≡ get_or words x 0
        → IsNotedIn (noted ++ own ∷ []) x (get_or (put words own.first own.cells.items) x 0)
    old x other there is off same = ⊎_elim
        (λ (before : Contains noted other).
        let its = so_far.each x other before is in
        let kept : IsNotedIn (noted ++ own ∷ []) x (get_or words x 0) = record {
          own = its.own;
          there = Contains-append_left noted (own ∷ []) its.own its.there;
          behind = its.behind;
          cell = its.cell;
        } in
        subst (IsNotedIn (noted ++ own ∷ []) x) (sym same) kept)
        (λ (last : own ≡ other). absurd (off (subst (λ (o : ObjectCells). IsOneOf o x) (sym last) is)))
        (Contains-push_cases noted own other there)

-- each name has the cell that is noted for it
pub joined_all : (names : List Named) (words : List ℕ) (noted : List ObjectCells) (cells : List ℕ) → AreNoted (length names) (IsCellOf names words) noted (λ x. x < length names) → AreJoined (length names) noted cells → AreCells names words (cells_in cells)
joined_all names words noted cells are joined = record {
  len = length-map cells cell_in ∙ joined.len;
  each = λ x cell at.
      let within : x < length cells = omega (arith, slice_get_within (cells_in cells) x cell at, length-map cells cell_in) in
      let some = are.each x (omega (arith, within, joined.len)) in
      let its = joined.each x some.0 some.1 some.2 in
      let right : AreCellsOf (length names) (IsCellOf names words) its.own = All-contains (AreCellsOf (length names) (IsCellOf names words)) noted its.own are.right its.there in
      let is : IsCellOf names words (its.own.first + (x - its.own.first)) (cell_in (get_or cells x 0)) = right.each (x - its.own.first) (get_or cells x 0) its.cell in
      let place : its.own.first + (x - its.own.first) ≡ x = omega (arith, its.behind) in
      let same : cell_in (get_or cells x 0) ≡ cell = same_Some (cell_in (get_or cells x 0)) cell (sym (slice_get-map cell_in cells x ∙ ap (option_map cell_in) (slice_get-get_or cells x 0 within)) ∙ at) in
      subst (IsCellOf names words x) same (subst (λ (y : ℕ). IsCellOf names words y (cell_in (get_or cells x 0))) place is);
}
