-- The winners of a book, read from its closed table.
use Rattle.std.proofs.Common.{◌≡◌, ℕ, ◌+◌, ◌-◌, ◌<◌, ◌⊎◌, Bool, cond, slice_index, inl, inr, ⊎_elim, List, [], ◌∷◌, ◌++◌, length, map, Option, Some, None, slice_get, slice_set, get_or, sym, ap, ◌∙◌, subst, arith}
use Rattle.std.specs.List.{All, Contains}
use Rattle.std.specs.Option.{option_map}
use Rattle.std.proofs.lemmas.Bool.{cases_eq, cases_lt, ne_eqb}
use Rattle.std.proofs.lemmas.List.{get_or-set_other, get_or-set_same, get_or_default, length-map, length-set}
use Rattle.std.proofs.lemmas.List.Elements.{Contains-append_left, Contains-push, Contains-push_cases}
use Rattle.std.proofs.lemmas.Option.{get_or_from_slice_get, none-some, same_Some, slice_get-get_or, slice_get-map, slice_get_cases}
use Rattle.odr_names.specs.Numbered.{SamePath, bid_at}
use Rattle.odr_names.specs.Winners.{ArePut, AreWholePaths, AreWinners, IsWinner}
use Rattle.pool_core.specs.declared.state.PoolState.{PoolState}
use Rattle.type_names.specs.Names.{Named}
use Rattle.name_bids.specs.Noting.{cell_in, cells_in}
use Rattle.name_bids.specs.Reading.{AreCells, AreCrowdedTo, AreInside, AreLeast, AreLeastFrom, HasLeast, IsLeastAt, winner_at}
use Rattle.name_bids.specs.Tables.{IsAt, IsLeftOver, IsTable}
use Rattle.name_bids.proofs.Tables.{at_one_cell_of, cell_inside, known_in, one_cell}

-- ---- cells

pub are_inside : (names : List Named) (words : List ℕ) (cells : List (Option ℕ)) → AreCells names words cells → AreInside words cells
are_inside names words cells are = λ x cell at. (
    let its : IsAt names words x cell = are.each x (Some cell) at in
    cell_inside words cell its.name its.there)

pub inside_of : (words winners : List ℕ) (cells : List (Option ℕ)) → length winners ≡ length words → AreInside words cells → AreInside winners cells
inside_of words winners cells len inside = λ x cell at. omega (arith, len, inside x cell at)

-- what is noted at a place
pub noted_at : (words : List ℕ) (n : ℕ) → n < length words → slice_get (cells_in words) n ≡ Some (cell_in (get_or words n 0))
noted_at words n within = slice_get-map cell_in words n ∙ ap (option_map cell_in) (slice_get-get_or words n 0 within)

pub noted_inside : (words table : List ℕ) (n cell : ℕ) → AreInside table (cells_in words) → n < length words → cell_in (get_or words n 0) ≡ Some cell → cell < length table
noted_inside words table n cell inside within is = inside n cell (noted_at words n within ∙ ap (λ (c : Option ℕ). Some c) is)

-- ---- who bid the least

module _ (names : List Named) (least words : List ℕ) where
  -- the name stands at none of the cells, or did not bid the least word of its cell
  pub least_other : (n start : ℕ) (part : List ℕ) → n < length words → ((k : ℕ) → k < length part → cell_in (get_or words n 0) ≡ Some (start + k) → slice_index least (start + k) ≡ bid_at names n → ⊥)
      → AreLeastFrom names least (cells_in words) n start part → AreLeastFrom names least (cells_in words) (n + 1) start part
  least_other n start part there other so_far = λ k inside x lt at bid. elim (cases_lt x n) [
    | inl before ↦ so_far k inside x before at bid
    | inr last ↦ (
        let now : x ≡ n = omega (arith, last, lt) in
        let here : cell_in (get_or words n 0) ≡ Some (start + k) = same_Some (cell_in (get_or words n 0)) (Some (start + k)) (sym (noted_at words n there) ∙ ap (slice_get (cells_in words)) (sym now) ∙ at) in
        absurd (other k inside here (bid ∙ ap (bid_at names) now)))
  ]

  -- it stands at one of them and bid its least word
  pub least_more : (n start k : ℕ) (part : List ℕ) → length words ≡ length names → n < length words → k < length part → cell_in (get_or words n 0) ≡ Some (start + k) → slice_index least (start + k) ≡ bid_at names n
      → AreLeastFrom names least (cells_in words) n start part → AreLeastFrom names least (cells_in words) (n + 1) start (slice_set part k n)
  least_more n start k part len there within is bid so_far = λ j inside x lt at its. elim (cases_eq j k) [
    | inl same ↦ subst (λ (i : ℕ). HasLeast names least (cells_in words) (start + i) (slice_index (slice_set part k n) i)) (sym same)
        (subst (HasLeast names least (cells_in words) (start + k)) (sym (get_or-set_same part k n 0 within)) here)
    | inr other ↦ elim (cases_lt x n) [
      | inl before ↦ subst (HasLeast names least (cells_in words) (start + j)) (sym (get_or-set_other part k j n 0 other)) (so_far j (omega (arith, inside, length-set part k n)) x before at its)
      | inr last ↦ absurd (other (
          let now : n ≡ x = omega (arith, last, lt) in
          let both : start + k ≡ start + j = same_Some (start + k) (start + j) (sym is ∙ same_Some (cell_in (get_or words n 0)) (Some (start + j)) (sym (noted_at words n there) ∙ ap (slice_get (cells_in words)) now ∙ at)) in
          omega (arith, both)))
    ]
  ] where
    here : HasLeast names least (cells_in words) (start + k) n
    here = record {
      within = omega (arith, there, len);
      at = noted_at words n there ∙ ap (λ (c : Option ℕ). Some c) is;
      bid = bid;
    }

-- ---- crowded names

pub crowded_begun : (cells : List (Option ℕ)) → AreCrowdedTo cells [] 0
crowded_begun cells = λ x. ((λ has. absurd (omega (arith, has.1))), (λ is. absurd (omega (arith, is.0))))

pub crowded_more : (cells : List (Option ℕ)) (crowded : List ℕ) (n : ℕ) → slice_get cells n ≡ Some None → AreCrowdedTo cells crowded n → AreCrowdedTo cells (crowded ++ n ∷ []) (n + 1)
crowded_more cells crowded n none so_far = λ x. (
  (λ has. ⊎_elim
      (λ (before : Contains crowded x). (let is = (so_far x).0 before in (omega (arith, is.0), is.1)))
      (λ (same : n ≡ x). (omega (arith, same), ap (slice_get cells) (sym same) ∙ none))
      (Contains-push_cases crowded n x has)),
  (λ is. elim (cases_lt x n) [
    | inl before ↦ Contains-append_left crowded (n ∷ []) x ((so_far x).1 (before, is.1))
    | inr last ↦ subst (Contains (crowded ++ n ∷ [])) (let e : n ≡ x = omega (arith, last, is.0) in e) (Contains-push crowded n)
  ]),
)

pub crowded_other : (cells : List (Option ℕ)) (crowded : List ℕ) (n : ℕ) → (slice_get cells n ≡ Some None → ⊥) → AreCrowdedTo cells crowded n → AreCrowdedTo cells crowded (n + 1)
crowded_other cells crowded n other so_far = λ x. (
  (λ has. (let is = (so_far x).0 has in (omega (arith, is.0), is.1))),
  (λ is. elim (cases_lt x n) [
    | inl before ↦ (so_far x).1 (before, is.1)
    | inr last ↦ absurd (other (ap (slice_get cells) (let e : n ≡ x = omega (arith, last, is.0) in e) ∙ is.1))
  ]),
)

-- a place at which no cell is noted, and one at which one is
pub none_at : (words : List ℕ) (n : ℕ) → n < length words → get_or words n 0 ≡ 0 → slice_get (cells_in words) n ≡ Some None
none_at words n within is = noted_at words n within ∙ ap (λ (w : ℕ). Some (cell_in w)) is

pub some_at : (words : List ℕ) (n : ℕ) → n < length words → (get_or words n 0 ≡ 0 → ⊥) → slice_get (cells_in words) n ≡ Some None → ⊥
some_at words n within some of =
    let is : cell_in (get_or words n 0) ≡ Some (get_or words n 0 - 1) = ap (λ (none : Bool). cond none None (Some (get_or words n 0 - 1))) (ne_eqb (get_or words n 0) 0 some) in
    none-some (get_or words n 0 - 1) (same_Some None (Some (get_or words n 0 - 1)) (sym of ∙ noted_at words n within ∙ ap (λ (c : Option ℕ). Some c) is))

pub crowded_done : (names : List Named) (cells : List (Option ℕ)) (crowded : List ℕ) (n : ℕ) → n ≡ length names → AreCrowdedTo cells crowded n → AreCrowdedTo cells crowded (length names)
crowded_done names cells crowded n is so_far = subst (AreCrowdedTo cells crowded) is so_far

-- ---- all winners

module _ (names : List Named) (state : PoolState) (cells : List (Option ℕ)) (crowded : List ℕ) (table : IsTable names state) (are : AreCells names state.cells cells) (none : AreCrowdedTo cells crowded (length names)) where
  cell_cases : (x : ℕ) → x < length names → (slice_get cells x ≡ Some None) ⊎ ((cell : ℕ) × (slice_get cells x ≡ Some (Some cell)))
  cell_cases x within = elim (slice_get_cases cells x).1 [
    | inl some ↦ go some.0 some.2
    | inr past ↦ absurd (omega (arith, past.0, are.len, within))
  ] where
    go : (o : Option ℕ) → slice_get cells x ≡ Some o → (slice_get cells x ≡ Some None) ⊎ ((cell : ℕ) × (slice_get cells x ≡ Some (Some cell)))
    go None at = inl at
    go (Some cell) at = inr (cell, at)

  -- a name that stands at no cell is crowded, and so are all of its path
  left_over : (x : ℕ) → x < length names → slice_get cells x ≡ Some None → IsLeftOver names state.cells x
  left_over x within at = ⊎_elim
      (λ (its : (cell : ℕ) × IsAt names state.cells x cell). absurd (are.each x None at its.0 its.1))
      (λ (crowded : IsLeftOver names state.cells x). crowded)
      (table.each x within)

  share_cell : (x y cell : ℕ) → x < length names → y < length names → SamePath names x y → slice_get cells x ≡ Some (Some cell) → slice_get cells y ≡ Some (Some cell)
  share_cell x y cell x_in y_in same at =
      let its : IsAt names state.cells x cell = are.each x (Some cell) at in
      let share = one_cell names state.cells x y cell (omega (arith, cell_inside state.cells cell its.name its.there)) (known_in names state table) x_in y_in same its in
      ⊎_elim
      (λ (crowded : slice_get cells y ≡ Some None). absurd (share.1 (left_over y y_in crowded)))
      (λ (other : (c : ℕ) × (slice_get cells y ≡ Some (Some c))). other.1 ∙ ap (λ (c : ℕ). Some (Some c)) (sym (share.0 other.0 (are.each y (Some other.0) other.1))))
      (cell_cases y y_in)

  pub crowded_inside : All (λ (x : ℕ). x < length names) crowded
  crowded_inside k d below = ((none (get_or crowded k d)).0 (k, below, get_or_default crowded k (get_or crowded k d) d below)).0

  pub crowded_whole : AreWholePaths names crowded
  crowded_whole x y has y_in same =
      let is = (none x).0 has in
      ⊎_elim
      (λ (at : slice_get cells y ≡ Some None). (none y).1 (y_in, at))
      (λ (other : (c : ℕ) × (slice_get cells y ≡ Some (Some c))). absurd (none-some other.0 (same_Some None (Some other.0) (sym is.1 ∙ share_cell y x other.0 y_in is.0 same other.1))))
      (cell_cases y y_in)

  pub all_win : (by_cell old new : List ℕ) → AreLeast names state.least cells by_cell → old ≡ map (winner_at by_cell) cells → ArePut names crowded old new → AreWinners names new
  all_win by_cell old new least is put = record {
    len = put.len ∙ ap length is ∙ length-map cells (winner_at by_cell) ∙ are.len;
    each = λ x within. ⊎_elim
        (λ (at : slice_get cells x ≡ Some None). put.each x ((none x).1 (within, at)))
        (λ (at : (cell : ℕ) × (slice_get cells x ≡ Some (Some cell))).
        let read : get_or new x 0 ≡ get_or by_cell at.0 0 = put.others x (λ has. none-some at.0 (same_Some None (Some at.0) (sym ((none x).0 has).1 ∙ at.1))) ∙ old_is x at.0 at.1 in
        subst (IsWinner names x) (sym read) (wins x at.0 within at.1))
        (cell_cases x within);
  } where
    old_is : (x cell : ℕ) → slice_get cells x ≡ Some (Some cell) → get_or old x 0 ≡ get_or by_cell cell 0
    old_is x cell at = get_or_from_slice_get old x (get_or by_cell cell 0) 0 (ap (λ (xs : List ℕ). slice_get xs x) is ∙ slice_get-map (winner_at by_cell) cells x ∙ ap (option_map (winner_at by_cell)) at)

    won_at : (cell : ℕ) → cell < length state.least → IsLeastAt names state.least cells (length names) cell (get_or by_cell cell 0)
    won_at cell inside =
        let at : 0 + cell ≡ cell = omega arith in
        subst (λ (c : ℕ). IsLeastAt names state.least cells (length names) c (get_or by_cell cell 0)) at (least.each cell (omega (arith, inside, least.len)))

    wins : (x cell : ℕ) → x < length names → slice_get cells x ≡ Some (Some cell) → IsWinner names x (get_or by_cell cell 0)
    wins x cell within at =
        let its : IsAt names state.cells x cell = are.each x (Some cell) at in
        let best = table.least cell its.name its.there in
        let same : SamePath names x best.0 = sym its.equal ∙ sym best.1.same in
        let won : HasLeast names state.least cells cell (get_or by_cell cell 0) = won_at cell (omega (arith, cell_inside state.cells cell its.name its.there, table.words)) best.0 best.1.within (share_cell x best.0 cell within best.1.within same at) best.2 in
        let w : ℕ = get_or by_cell cell 0 in
        let w_at : IsAt names state.cells w cell = are.each w (Some cell) won.at in
        record {
          within = won.within;
          same = at_one_cell_of names state.cells w x cell w_at its;
          least = λ y y_in y_same. (let low = best.1.least y y_in (y_same ∙ sym its.equal) in omega (arith, low, won.bid, best.2));
        }
