-- The closed table, from what the seat that closed it knew.
use Rattle.std.proofs.Common.{◌≡◌, ℕ, zero, suc, Bool, true, false, cond, ◌&&◌, eqb, ◌+◌, ◌<◌, ◌≤◌, ◌⊎◌, inl, inr, ⊎_elim, List, [], ◌∷◌, length, get_or, sym, refl, ap, ◌∙◌, subst, arith, eqb-true}
use Rattle.std.proofs.lemmas.Bool.{cases_lt}
use Rattle.std.proofs.lemmas.List.{get_or_past}
use Rattle.odr_names.specs.Numbered.{SamePath, bid_at, path_at}
use Rattle.odr_names.specs.Winners.{IsWinner}
use Rattle.pool_core.specs.declared.state.PoolState.{PoolState}
use Rattle.pool_core.specs.Machine.{IsLeast}
use Rattle.type_names.specs.Names.{Named}
use Rattle.type_names.specs.Start.{start_of}
use Rattle.type_pool.specs.declared.view.View.{View}
use Rattle.type_pool.specs.Ends.{Closes}
use Rattle.type_pool.specs.Pairs.{Has, times}
use Rattle.type_pool.specs.Standing.{EqualNamesShareACell, IsIn, no_bid, probes}
use Rattle.type_pool.proofs.Places.{equal_names_share, others_on, stands_on}
use Rattle.type_pool.proofs.Words.{is_word}
use Rattle.name_bids.specs.Bids.{HasBid, IsNotedAt, IsNotedCrowded}
use Rattle.name_bids.specs.Tables.{IsAt, IsLeftOver, IsTable, cell_count, first_cell}

-- what stands in a list of pairs so often stands in it
has_one : (a b : ℕ) (xs : List (ℕ × ℕ)) → 1 ≤ times a b xs → Has xs a b
has_one a b [] some = absurd (omega (arith, some))
has_one a b (x ∷ xs) some = go (eqb x.0 a) (eqb x.1 b) refl refl some (λ rest. has_one a b xs rest) where
  go : (p q : Bool) → eqb x.0 a ≡ p → eqb x.1 b ≡ q → 1 ≤ cond (p && q) 1 0 + times a b xs → (1 ≤ times a b xs → Has xs a b) → Has (x ∷ xs) a b
  go true true first second some rest = inl (eqb-true x.0 a first, eqb-true x.1 b second)
  go true false first second some rest = inr (rest (omega (arith, some)))
  go false q first second some rest = inr (rest (omega (arith, some)))

-- for each way of naming, two equal names have one cell
pub one_cell : (names : List Named) → EqualNamesShareACell (length names) (SamePath names) (first_cell names)
one_cell names = equal_names_share (length names) (SamePath names) (first_cell names)
    (λ a b a_in b_in same. sym same)
    (λ a b c a_in b_in c_in first second. first ∙ second)
    (λ a b cells a_in b_in some same. ap (λ path. start_of path cells) same)

-- two names that stand at one cell have one path
pub at_one_cell_of : (names : List Named) (words : List ℕ) (x y cell : ℕ) → IsAt names words x cell → IsAt names words y cell → SamePath names x y
at_one_cell_of names words x y cell at_x at_y =
    let one : at_x.name ≡ at_y.name = omega (arith, at_x.there, at_y.there) in
    sym at_x.equal ∙ ap (path_at names) one ∙ at_y.equal

-- a filled cell is a cell
pub cell_inside : (words : List ℕ) (cell x : ℕ) → IsIn words cell x → cell < length words
cell_inside words cell x there = elim (cases_lt cell (length words)) [
  | inl lt ↦ lt
  | inr past ↦ absurd (let none = get_or_past words cell 0 past in omega (arith, none, there))
]

-- a word is that of a name of the book, where each filled cell holds one
words_known : (words : List ℕ) (count : ℕ) → ((cell x : ℕ) → IsIn words cell x → x < count) → (i : ℕ) → get_or words i 0 ≤ count
words_known words count filled i = go (get_or words i 0) refl where
  go : (word : ℕ) → get_or words i 0 ≡ word → word ≤ count
  go zero is = omega arith
  go (suc n) is = (let there : IsIn words i n = is ∙ (let e : suc n ≡ n + 1 = omega arith in e) in omega (arith, filled i n there))

pub known_in : (names : List Named) (state : PoolState) → IsTable names state → (i : ℕ) → get_or state.cells i 0 ≤ length names
known_in names state table = words_known state.cells (length names) table.filled

-- all names of a book were bid for by the seat that closed the table
module _ (names : List Named) (old v : View) (state : PoolState) (closes : Closes (length state.cells) v state) (bid : HasBid names (length state.cells) old v (λ x. x < length names))
    (no_bids : old.bids ≡ []) (no_puts : old.puts ≡ []) (some_cells : 1 ≤ length state.cells) (small : (x : ℕ) → x < length names → bid_at names x < no_bid) where
  at_in : (x cell : ℕ) → IsNotedAt names (length state.cells) v.notes x cell → IsAt names state.cells x cell
  at_in x cell at = stands_on (SamePath names) (Has v.notes) (IsIn state.cells) (first_cell names x (length state.cells)) (length state.cells) x cell (λ c n has. (closes.noted c n has).1) at

  crowded_in : (x : ℕ) → IsNotedCrowded names (length state.cells) v.notes x → IsLeftOver names state.cells x
  crowded_in x crowded = others_on (SamePath names) (Has v.notes) (IsIn state.cells) (first_cell names x (length state.cells)) (length state.cells) x probes (λ c n has. (closes.noted c n has).1) crowded

  filled_is : (cell x : ℕ) → IsIn state.cells cell x → (x < length names) × IsAt names state.cells x cell
  filled_is cell x there =
      let put : Has v.puts cell x = has_one cell x v.puts (omega (arith, closes.puts cell x, is_word x (get_or state.cells cell 0) there)) in
      ⊎_elim
      (λ (before : Has old.puts cell x). absurd (subst (λ (puts : List (ℕ × ℕ)). Has puts cell x) no_puts before))
      (λ (at : (x < length names) × IsNotedAt names (length state.cells) v.notes x cell). (at.0, at_in x cell at.1))
      (bid.puts cell x put)

  known : (i : ℕ) → get_or state.cells i 0 ≤ length names
  known = words_known state.cells (length names) (λ cell x there. (filled_is cell x there).0)

  each_is : (x : ℕ) → x < length names → ((cell : ℕ) × IsAt names state.cells x cell) ⊎ IsLeftOver names state.cells x
  each_is x within = ⊎_elim
      (λ (at : (cell : ℕ) × IsNotedAt names (length state.cells) v.notes x cell × Has v.bids cell (bid_at names x)). inl (at.0, at_in x at.0 at.1))
      (λ (crowded : IsNotedCrowded names (length state.cells) v.notes x). inr (crowded_in x crowded))
      (bid.each x within)

  -- a name that stands at a cell has its bid there, and so have all of its path
  bid_there : (x y cell : ℕ) → x < length names → y < length names → SamePath names x y → IsAt names state.cells x cell → Has v.bids cell (bid_at names y)
  bid_there x y cell x_in y_in same at =
      let share = one_cell names state.cells x y cell some_cells known x_in y_in same at in
      ⊎_elim
      (λ (its : (other : ℕ) × IsNotedAt names (length state.cells) v.notes y other × Has v.bids other (bid_at names y)). subst (λ (c : ℕ). Has v.bids c (bid_at names y)) (sym (share.0 its.0 (at_in y its.0 its.1))) its.2)
      (λ (crowded : IsNotedCrowded names (length state.cells) v.notes y). absurd (share.1 (crowded_in y crowded)))
      (bid.each y y_in)

  least_is : (cell x : ℕ) → cell < length state.cells → x < length names → IsAt names state.cells x cell → (w : ℕ) × IsWinner names x w × (get_or state.least cell 0 ≡ bid_at names w)
  least_is cell x inside x_in at =
      let least : IsLeast no_bid (Has v.bids cell) (get_or state.least cell 0) = closes.least cell inside in
      ⊎_elim
      (λ (none : get_or state.least cell 0 ≡ no_bid). absurd (let low = least.each (bid_at names x) (bid_there x x cell x_in x_in refl at) in omega (arith, none, low, small x x_in)))
      (λ (made : Has v.bids cell (get_or state.least cell 0)). ⊎_elim
      (λ (before : Has old.bids cell (get_or state.least cell 0)). absurd (subst (λ (bids : List (ℕ × ℕ)). Has bids cell (get_or state.least cell 0)) no_bids before))
      (λ (of : (w : ℕ) × (w < length names) × IsNotedAt names (length state.cells) v.notes w cell × (get_or state.least cell 0 ≡ bid_at names w)).
      let at_w : IsAt names state.cells of.0 cell = at_in of.0 cell of.2 in (
        of.0,
        record {
          within = of.1;
          same = at_one_cell_of names state.cells of.0 x cell at_w at;
          least = λ y y_in same. (let low = least.each (bid_at names y) (bid_there x y cell x_in y_in (sym same) at) in omega (arith, low, of.3));
        },
        of.3,
      ))
      (bid.only cell (get_or state.least cell 0) made))
      least.one

  empty_is : (cell : ℕ) → cell < length state.cells → get_or state.cells cell 0 ≡ 0 → get_or state.least cell 0 ≡ no_bid
  empty_is cell inside none =
      let least : IsLeast no_bid (Has v.bids cell) (get_or state.least cell 0) = closes.least cell inside in
      ⊎_elim
      (λ (is : get_or state.least cell 0 ≡ no_bid). is)
      (λ (made : Has v.bids cell (get_or state.least cell 0)). ⊎_elim
      (λ (before : Has old.bids cell (get_or state.least cell 0)). absurd (subst (λ (bids : List (ℕ × ℕ)). Has bids cell (get_or state.least cell 0)) no_bids before))
      (λ (of : (w : ℕ) × (w < length names) × IsNotedAt names (length state.cells) v.notes w cell × (get_or state.least cell 0 ≡ bid_at names w)).
      absurd (omega (arith, none, (at_in of.0 cell of.2).there)))
      (bid.only cell (get_or state.least cell 0) made))
      least.one

  pub is_table : length state.cells ≡ cell_count (length names) → IsTable names state
  is_table counted = record {
    cells = counted;
    words = closes.least_length;
    filled = λ cell x there. (filled_is cell x there).0;
    each = each_is;
    least = λ cell x there. (let is = filled_is cell x there in least_is cell x (cell_inside state.cells cell x there) is.0 is.1);
    empty = empty_is;
  }
