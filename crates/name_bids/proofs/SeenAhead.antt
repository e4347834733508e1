-- What is seen of names ahead: as more is noted, for one name more, and for the names that are then bid for.
use Rattle.std.proofs.Common.{◌≡◌, ℕ, ◌+◌, ◌-◌, ◌<◌, ◌≤◌, ◌⊎◌, inl, inr, ⊎_elim, cond, Bool, List, [], ◌∷◌, ◌++◌, length, Option, Some, None, slice_get, sym, refl, ap, ◌∙◌, subst, arith, ne_eqb}
use Rattle.std.specs.Prelude.{IfSome}
use Rattle.std.proofs.lemmas.Bool.{cases_lt}
use Rattle.std.proofs.lemmas.List.{length_push}
use Rattle.std.proofs.lemmas.Option.{same_Some, slice_get_within}
use Rattle.odr_names.specs.Known.{AreKnown}
use Rattle.odr_names.specs.Numbered.{SamePath, bid_at}
use Rattle.odr_names.specs.Stretches.{IsFirstOf}
use Rattle.odr_names.proofs.BookPaths.{get_before, get_last}
use Rattle.type_names.specs.Names.{Named}
use Rattle.type_pool.specs.declared.view.View.{View}
use Rattle.type_pool.specs.declared.placing.Placing.TheVariants.{Cell}
use Rattle.type_pool.specs.Pairs.{Has}
use Rattle.type_pool.specs.Seats.{Learns, Placed}
use Rattle.type_pool.specs.Standing.{probe}
use Rattle.type_pool.specs.Views.{bidden}
use Rattle.name_bids.specs.Ahead.{IsAhead, IsBetween, IsEqualAhead}
use Rattle.name_bids.specs.Bids.{HasBid}
use Rattle.name_bids.specs.Noting.{AreCellsFrom, IsPlacedAt, cell_in}
use Rattle.name_bids.specs.Tables.{first_cell}
use Rattle.name_bids.proofs.Bids.{bid_as, bid_cell, bid_then}
use Rattle.name_bids.proofs.Claiming.{IsOfObjectTo}
use Rattle.name_bids.proofs.NotedCells.{placed_on}

module _ (names : List Named) (cells : ℕ) where
  -- what notes show, more notes show
  pub ahead_on : (old new : List (ℕ × ℕ)) → ((c n : ℕ) → Has old c n → Has new c n) → (x : ℕ) (name : Option ℕ) → IsAhead names cells old x name → IsAhead names cells new x name
  ahead_on old new more x None is = is
  ahead_on old new more x (Some name) is = (is.0, more (probe (first_cell names x cells) cells 0) name is.1)

  pub equal_on : (old new : List (ℕ × ℕ)) → ((c n : ℕ) → Has old c n → Has new c n) → (x : ℕ) (name : Option ℕ) → IsEqualAhead names cells old x name → IsEqualAhead names cells new x name
  equal_on old new more x None is = is
  equal_on old new more x (Some name) is = (ahead_on old new more x (Some name) is.0, is.1)

  pub are_equal_on : (old new : List (ℕ × ℕ)) (first : ℕ) (words : List ℕ) → ((c n : ℕ) → Has old c n → Has new c n) → AreCellsFrom (length names) (IsEqualAhead names cells old) first words → AreCellsFrom (length names) (IsEqualAhead names cells new) first words
  are_equal_on old new first words more are = record { within = are.within; each = λ i word at. equal_on old new more (first + i) (cell_in word) (are.each i word at) }

  pub are_placed_on : (old new : List (ℕ × ℕ)) (first : ℕ) (words : List ℕ) → ((c n : ℕ) → Has old c n → Has new c n) → AreCellsFrom (length names) (IsPlacedAt names cells old) first words → AreCellsFrom (length names) (IsPlacedAt names cells new) first words
  are_placed_on old new first words more are = record { within = are.within; each = λ i word at. placed_on names cells old new more (first + i) (cell_in word) (are.each i word at) }

  -- what a look found
  pub found_ahead : (notes : List (ℕ × ℕ)) (size x : ℕ) (name : Option ℕ) → length names ≡ size → IfSome name (λ n. (n < size) × Has notes (probe (first_cell names x cells) cells 0) n) → IsAhead names cells notes x name
  found_ahead notes size x None same is = is
  found_ahead notes size x (Some name) same is = (omega (arith, is.0, same), is.1)

  -- names that were seen are names of the book
  seen_within : (notes : List (ℕ × ℕ)) (x : ℕ) (name : Option ℕ) → IsAhead names cells notes x name → IfSome name (λ n. n < length names)
  seen_within notes x None is = is
  seen_within notes x (Some name) is = is.0

  pub ahead_within : (notes : List (ℕ × ℕ)) (from : ℕ) (words : List ℕ) → AreCellsFrom (length names) (IsAhead names cells notes) from words → (i word : ℕ) → slice_get words i ≡ Some word → IfSome (cell_in word) (λ name. name < length names)
  ahead_within notes from words are i word at = seen_within notes (from + i) (cell_in word) (are.each i word at)

  -- those with equal paths are known
  pub are_known : (notes : List (ℕ × ℕ)) (first : ℕ) (words : List ℕ) → AreCellsFrom (length names) (IsEqualAhead names cells notes) first words → AreKnown names first words
  are_known notes first words are i x at = (subst (IsEqualAhead names cells notes (first + i)) (noted_as x) (are.each i (x + 1) at)).1 where
    noted_as : (x : ℕ) → cell_in (x + 1) ≡ Some x
    noted_as x = ap (λ (b : Bool). cond b None (Some (x + 1 - 1))) (ne_eqb (x + 1) 0 (λ none. omega arith)) ∙ ap (λ (n : ℕ). Some n) (let e : x + 1 - 1 ≡ x = omega arith in e)

  pub known_more : (first : ℕ) (words : List ℕ) (word : ℕ) → ((name : ℕ) → cell_in word ≡ Some name → SamePath names name (first + length words)) → AreKnown names first words → AreKnown names first (words ++ word ∷ [])
  known_more first words word same so_far i x at = elim (cases_lt i (length words)) [
    | inl earlier ↦ so_far i x (sym (get_before words (word ∷ []) i earlier) ∙ at)
    | inr later ↦ (
        let last : i ≡ length words = omega (arith, later, slice_get_within (words ++ word ∷ []) i (x + 1) at, length_push words word) in
        let is : word ≡ x + 1 = same_Some word (x + 1) (sym (ap (slice_get (words ++ word ∷ [])) last ∙ get_last words word) ∙ at) in
        let named : cell_in word ≡ Some x = ap cell_in is ∙ ap (λ (b : Bool). cond b None (Some (x + 1 - 1))) (ne_eqb (x + 1) 0 (λ none. omega arith)) ∙ ap (λ (n : ℕ). Some n) (let e : x + 1 - 1 ≡ x = omega arith in e) in
        subst (λ (k : ℕ). SamePath names x (first + k)) (sym last) (same x named))
  ]

  -- a seat that looked at names has bid for none
  pub bid_looked : (old new : View) → Learns old new → new.puts ≡ old.puts → HasBid names cells old new (λ x. ⊥)
  bid_looked old new learns puts = record {
    each = λ x is. absurd is;
    only = λ c n has. inl (subst (λ (bids : List (ℕ × ℕ)). Has bids c n) learns.bids has);
    puts = λ c n has. inl (subst (λ (all : List (ℕ × ℕ)). Has all c n) puts has);
    bids = λ c n has. subst (λ (bids : List (ℕ × ℕ)). Has bids c n) (sym learns.bids) has;
    notes = learns.notes;
  }

  pub looked_more : (old mid new : View) → HasBid names cells old mid (λ x. ⊥) → Learns mid new → new.puts ≡ mid.puts → HasBid names cells old new (λ x. ⊥)
  looked_more old mid new so_far learns puts =
      bid_as names cells old new (λ x. ⊥ ⊎ ⊥) (λ x. ⊥) (λ x is. ⊎_elim (λ (a : ⊥). a) (λ (a : ⊥). a) is) (λ x is. absurd is)
      (bid_then names cells old mid new (λ x. ⊥) (λ x. ⊥) so_far (bid_looked mid new learns puts))

  -- a bid at the cell where a name with that path was seen
  pub bid_settled : (old new : View) (x cell number : ℕ) → x < length names → Placed (SamePath names) old.notes (first_cell names x cells) cells x (Cell cell) → new ≡ bidden old cell number → number ≡ bid_at names x → HasBid names cells old new (λ y. y ≡ x)
  bid_settled old new x cell number within placed is its =
      bid_cell names cells old old new x cell number within (record { share = refl; bids = refl; notes = λ c n has. has }) placed (inl refl) is its

  -- ---- names one behind the other

  pub between_more : (old mid new : View) (from x : ℕ) → from ≤ x → HasBid names cells old mid (IsBetween from x) → HasBid names cells mid new (λ y. y ≡ x) → HasBid names cells old new (IsBetween from (x + 1))
  between_more old mid new from x low so_far bid =
      bid_as names cells old new (λ y. IsBetween from x y ⊎ (y ≡ x)) (IsBetween from (x + 1))
      (λ y is. ⊎_elim (λ (before : IsBetween from x y). (before.0, omega (arith, before.1))) (λ (same : y ≡ x). (omega (arith, low, same), omega (arith, same))) is)
      (λ y is. elim (cases_lt y x) [ inl before ↦ inl (is.0, before) | inr behind ↦ inr (omega (arith, is.1, behind)) ])
      (bid_then names cells old mid new (IsBetween from x) (λ y. y ≡ x) so_far bid)

  -- behind those that were only looked at
  pub between_looked : (old mid new : View) (from to : ℕ) → HasBid names cells old mid (λ x. ⊥) → HasBid names cells mid new (IsBetween from to) → HasBid names cells old new (IsBetween from to)
  between_looked old mid new from to looked bid =
      bid_as names cells old new (λ y. ⊥ ⊎ IsBetween from to y) (IsBetween from to)
      (λ y is. ⊎_elim (λ (a : ⊥). absurd a) (λ (b : IsBetween from to y). b) is) (λ y is. inr is)
      (bid_then names cells old mid new (λ x. ⊥) (IsBetween from to) looked bid)

  -- the names of an object further on
  pub object_further : (object first last : ℕ) (old mid new : View) (x to : ℕ) → IsFirstOf names object first → IsFirstOf names (object + 1) last → first ≤ x → x ≤ to → to ≤ last
      → HasBid names cells old mid (IsOfObjectTo names object x) → HasBid names cells mid new (IsBetween x to) → HasBid names cells old new (IsOfObjectTo names object to)
  object_further object first last old mid new x to from end low up high so_far bid =
      bid_as names cells old new (λ y. IsOfObjectTo names object x y ⊎ IsBetween x to y) (IsOfObjectTo names object to)
      (λ y is. ⊎_elim
      (λ (before : IsOfObjectTo names object x y). (omega (arith, before.0, up), before.1))
      (λ (here : IsBetween x to y). (
      let within : y < length names = omega (arith, here.1, high, end.within) in
      let least = from.behind y (omega (arith, low, here.0)) within in
      let most = end.before y (omega (arith, here.1, high)) in
      (here.1, (within, omega (arith, least, most)))))
      is)
      (λ y is. elim (cases_lt y x) [ inl before ↦ inl (before, is.1) | inr behind ↦ inr (behind, is.0) ])
      (bid_then names cells old mid new (IsOfObjectTo names object x) (IsBetween x to) so_far bid)
