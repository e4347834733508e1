-- Winners found in the order by hash, path and bid.
use Rattle.std.proofs.Common.{◌≡◌, ◌<◌, ◌≤◌, ◌+◌, ◌-◌, inl, inr, ℕ, List, [], ◌∷◌, ◌++◌, length, Some, refl, sym, ap, ◌∙◌, arith, subst, slice_get, get_or, set}
use Rattle.std.specs.Ordering.{is_lt}
use Rattle.std.specs.List.{Contains}
use Rattle.std.specs.List.Sorted.{IsPermutation, IsSortedBy}
use Rattle.std.proofs.lemmas.List.Sorted.{Contains-permutation, IsPermutation-sym, ranks_by, sorted_far}
use Rattle.std.proofs.lemmas.Bool.{cases_eq, cases_lt}
use Rattle.std.proofs.lemmas.List.{get_or-set_other, get_or-set_same, length-set, length_push}
use Rattle.std.proofs.lemmas.Option.{get_or_from_slice_get, same_Some, slice_get-get_or, slice_get_read, slice_get_within}
use Rattle.odr_names.specs.declared.winners.Ranked.{Ranked}
use Rattle.odr_names.specs.Innermost.{rank_hash}
use Rattle.type_names.specs.Names.{Named}
use Rattle.odr_names.specs.Numbered.{SamePath, bid_at, path_at}
use Rattle.odr_names.specs.Winners.{ArePut, AreWholePaths, AreWinners, IsWinner}
use Rattle.odr_names.specs.Ranking.{AreFound, AreInOrder, AreOthersKept, AreRanked, AreRankedTo, AreRanksOf, IsAmong, IsRank}
use Rattle.odr_names.specs.PathOrder.{rank_order}
use Rattle.odr_names.proofs.BookPaths.{get_before, get_last}
use Rattle.odr_names.proofs.PathOrder.{between, bids_rise, not_behind, ranks_total}

-- ---- ranks

pub among_moved : (ranks moved : List Ranked) → IsPermutation ranks moved → (x : ℕ) → IsAmong ranks x → IsAmong moved x
among_moved ranks moved same x it =
    let there = Contains-permutation ranks moved it.1 same (it.0, slice_get_within ranks it.0 it.1 it.2, get_or_from_slice_get ranks it.0 it.1 it.1 it.2) in
    (there.0, it.1, slice_get_read moved _ there.0 it.1 refl there.1 (sym there.2), it.3)

pub ranked_more : (names : List Named) (ranks : List Ranked) (n : ℕ) (r : Ranked) → AreRankedTo names ranks n → r.name ≡ n → IsRank names r → AreRankedTo names (ranks ++ r ∷ []) (n + 1)
ranked_more names ranks n r so_far is rank = record {
  len = length_push ranks r ∙ ap (λ k. k + 1) so_far.len;
  each = λ i s at. elim (cases_lt i (length ranks)) [
    | inl earlier ↦ so_far.each i s (sym (get_before ranks (r ∷ []) i earlier) ∙ at)
    | inr later ↦ (
        let last : i ≡ length ranks = omega (arith, slice_get_within (ranks ++ r ∷ []) i s at, length_push ranks r) in
        let same : r ≡ s = same_Some r s (sym (ap (slice_get (ranks ++ r ∷ [])) last ∙ get_last ranks r) ∙ at) in
        subst (λ (s : Ranked). (s.name ≡ i) × IsRank names s) same (is ∙ sym so_far.len ∙ sym last, rank))
  ];
}

pub ranked_all : (names : List Named) (ranks : List Ranked) (n : ℕ) → AreRankedTo names ranks n → length names ≤ n → (x : ℕ) → x < length names → IsAmong ranks x
ranked_all names ranks n so_far whole x within =
    let d : Ranked = record { hash = 0; bid = 0; name = 0 } in
    let at = slice_get-get_or ranks x d (omega (arith, so_far.len)) in
    (x, get_or ranks x d, at, (so_far.each x (get_or ranks x d) at).0)

pub ranked_whole : (names : List Named) (ranks : List Ranked) (n : ℕ) → AreRankedTo names ranks n → length names ≤ n → AreRanked names ranks
ranked_whole names ranks n so_far whole = record { each = λ i r at. (so_far.each i r at).1; whole = λ x y is within same. ranked_all names ranks n so_far whole y within }

pub ranks_more : (names : List Named) (some : List ℕ) (ranks : List Ranked) (n x : ℕ) (r : Ranked) → slice_get some n ≡ Some x → r.name ≡ x → IsRank names r → AreRanksOf names some ranks n → AreRanksOf names some (ranks ++ r ∷ []) (n + 1)
ranks_more names some ranks n x r at_n is rank so_far = record {
  len = length_push ranks r ∙ ap (λ k. k + 1) so_far.len;
  each = λ i s at. elim (cases_lt i (length ranks)) [
    | inl earlier ↦ so_far.each i s (sym (get_before ranks (r ∷ []) i earlier) ∙ at)
    | inr later ↦ (
        let last : i ≡ length ranks = omega (arith, slice_get_within (ranks ++ r ∷ []) i s at, length_push ranks r) in
        let same : r ≡ s = same_Some r s (sym (ap (slice_get (ranks ++ r ∷ [])) last ∙ get_last ranks r) ∙ at) in
        subst (λ (s : Ranked). (slice_get some i ≡ Some s.name) × IsRank names s) same (ap (slice_get some) (last ∙ so_far.len) ∙ at_n ∙ ap (λ (x : ℕ). Some x) (sym is), rank))
  ];
}

-- the names of the ranks are these
pub among_these : (names : List Named) (some : List ℕ) (ranks : List Ranked) → AreRanksOf names some ranks (length some) → (x : ℕ) → Contains some x → IsAmong ranks x
among_these names some ranks are x has =
    let d : Ranked = record { hash = 0; bid = 0; name = 0 } in
    let at = slice_get-get_or ranks has.0 d (omega (arith, are.len, has.1)) in
    let here = slice_get_read some _ has.0 x refl has.1 (sym has.2) in
    (has.0, get_or ranks has.0 d, at, same_Some (get_or ranks has.0 d).name x (sym (are.each has.0 (get_or ranks has.0 d) at).0 ∙ here))

pub these_among : (names : List Named) (some : List ℕ) (ranks : List Ranked) (n : ℕ) → AreRanksOf names some ranks n → (x : ℕ) → IsAmong ranks x → Contains some x
these_among names some ranks n are x is =
    let at = (are.each is.0 is.1 is.2).0 ∙ ap (λ (y : ℕ). Some y) is.3 in
    (is.0, slice_get_within some is.0 x at, get_or_from_slice_get some is.0 x x at)

pub ranks_whole : (names : List Named) (some : List ℕ) (ranks : List Ranked) → AreWholePaths names some → AreRanksOf names some ranks (length some) → AreRanked names ranks
ranks_whole names some ranks whole are = record {
  each = λ i r at. (are.each i r at).1;
  whole = λ x y is within same. among_these names some ranks are y (whole x y (these_among names some ranks (length some) are x is) within same);
}

-- ---- the winner at a rank

pub winner_taken : (names : List Named) (ranks : List Ranked) (winners : List ℕ) (here r : Ranked) (j i : ℕ) → slice_get ranks j ≡ Some r → j < i → SamePath names r.name here.name
    → AreFound names ranks winners i → IsWinner names here.name (get_or winners r.name 0)
winner_taken names ranks winners here r j i at below same found =
    let its = found.each j r below at in
    record { within = its.within; same = its.same ∙ same; least = λ y within is. its.least y within (is ∙ sym same) }

-- where the rank before is of another path, no rank before is of this one
pub winner_itself : (names : List Named) (ranks : List Ranked) (here : Ranked) (i : ℕ) → AreRanked names ranks → AreInOrder names ranks → slice_get ranks i ≡ Some here
    → ((s : Ranked) → 0 < i → slice_get ranks (i - 1) ≡ Some s → SamePath names s.name here.name → ⊥) → IsWinner names here.name here.name
winner_itself names ranks here i ranked order at begins =
    let rank = ranked.each i here at in
    record {
      within = rank.within;
      same = refl;
      least = λ y within is. (
          let found = ranked.whole here.name y (i, here, at, refl) within is in
          let k = found.0 in
          let r = found.1 in
          let r_rank = ranked.each k r found.2 in
          let path : SamePath names r.name here.name = ap (path_at names) found.3 ∙ is in
          let hash : r.hash ≡ here.hash = r_rank.hash ∙ ap rank_hash path ∙ sym rank.hash in
          let bid : r.bid ≡ bid_at names y = r_rank.bid ∙ ap (bid_at names) found.3 in
          elim (cases_lt k i) [
            | inr later ↦ (let rise = bids_rise names here r (sym hash) (sym path) (order i k here r later at found.2) in omega (arith, rise, bid, rank.bid))
            | inl earlier ↦ absurd (
                let d : Ranked = record { hash = 0; bid = 0; name = 0 } in
                let s = get_or ranks (i - 1) d in
                let s_at : slice_get ranks (i - 1) ≡ Some s = slice_get-get_or ranks (i - 1) d (omega (arith, slice_get_within ranks i here at)) in
                begins s (omega arith) s_at (between names r s here hash path (order k (i - 1) r s (omega arith) found.2 s_at) (order (i - 1) i s here (omega arith) s_at at)))
          ]);
    }

-- ---- winners rank by rank

pub found_more : (names : List Named) (ranks : List Ranked) (winners : List ℕ) (i : ℕ) (here : Ranked) (winner : ℕ) → AreRanked names ranks → slice_get ranks i ≡ Some here → IsWinner names here.name winner
    → AreFound names ranks winners i → AreFound names ranks (set winners here.name winner) (i + 1)
found_more names ranks winners i here winner ranked at is so_far = record {
  len = length-set winners here.name winner ∙ so_far.len;
  each = λ j r below at_j. elim (cases_eq r.name here.name) [
    | inl same ↦ (
        let read : get_or (set winners here.name winner) r.name 0 ≡ winner = ap (λ (x : ℕ). get_or (set winners here.name winner) x 0) same ∙ get_or-set_same winners here.name winner 0 (omega (arith, (ranked.each i here at).within, so_far.len)) in
        subst (IsWinner names r.name) (sym read) (subst (λ (x : ℕ). IsWinner names x winner) (sym same) is))
    | inr other ↦ (
        let earlier : j < i = elim (cases_eq j i) [
          | inl last ↦ absurd (other (ap (λ (t : Ranked). t.name) (same_Some r here (sym at_j ∙ ap (slice_get ranks) last ∙ at))))
          | inr not_last ↦ omega arith
        ] in
        subst (IsWinner names r.name) (sym (get_or-set_other winners here.name r.name winner 0 other)) (so_far.each j r earlier at_j))
  ];
}

pub found_end : (names : List Named) (ranks : List Ranked) (winners : List ℕ) (i : ℕ) → length ranks ≤ i → AreFound names ranks winners i → AreFound names ranks winners (length ranks)
found_end names ranks winners i whole found = record { len = found.len; each = λ j r below at. found.each j r (omega (arith, below, whole)) at }

pub others_more : (names : List Named) (ranks : List Ranked) (old winners : List ℕ) (i : ℕ) (here : Ranked) (winner : ℕ) → slice_get ranks i ≡ Some here → AreOthersKept ranks old winners → AreOthersKept ranks old (set winners here.name winner)
others_more names ranks old winners i here winner at so_far = λ x none. get_or-set_other winners here.name x winner 0 (λ same. none (i, here, at, sym same)) ∙ so_far x none

pub found_among : (names : List Named) (ranks : List Ranked) (winners : List ℕ) → AreFound names ranks winners (length ranks) → (x : ℕ) → IsAmong ranks x → IsWinner names x (get_or winners x 0)
found_among names ranks winners found x is =
    subst (λ (y : ℕ). IsWinner names y (get_or winners y 0)) is.3 (found.each is.0 is.1 (slice_get_within ranks is.0 is.1 is.2) is.2)

pub found_all : (names : List Named) (ranks : List Ranked) (winners : List ℕ) → ((x : ℕ) → x < length names → IsAmong ranks x) → AreFound names ranks winners (length ranks) → AreWinners names winners
found_all names ranks winners all found = record { len = found.len; each = λ x within. found_among names ranks winners found x (all x within) }

pub found_these : (names : List Named) (some : List ℕ) (ranks sorted : List Ranked) (old winners : List ℕ) → AreRanksOf names some ranks (length some) → IsPermutation ranks sorted → length old ≡ length names
    → AreFound names sorted winners (length sorted) → AreOthersKept sorted old winners → ArePut names some old winners
found_these names some ranks sorted old winners are moved len found kept = record {
  len = found.len ∙ sym len;
  each = λ x has. found_among names sorted winners found x (among_moved ranks sorted moved x (among_these names some ranks are x has));
  others = λ x none. kept x (λ is. none (these_among names some ranks (length some) are x (among_moved sorted ranks (IsPermutation-sym ranks sorted moved) x is)));
}

-- ---- the order

pub in_order : (names : List Named) (ranks : List Ranked) → IsSortedBy (λ x y. is_lt (rank_order names x y)) ranks → AreInOrder names ranks
in_order names ranks sorted = λ i j r s le at_i at_j. (
    let d : Ranked = record { hash = 0; bid = 0; name = 0 } in
    let far = sorted_far (λ (x y : Ranked). is_lt (rank_order names x y)) (ranks_by (ranks_total names) (λ (r : Ranked). r)) ranks sorted i j d le (slice_get_within ranks j s at_j) in
    let r_is = get_or_from_slice_get ranks i r d at_i in
    let s_is = get_or_from_slice_get ranks j s d at_j in
    not_behind names r s (rw (r_is, s_is) at far))

pub ranked_moved : (names : List Named) (ranks moved : List Ranked) → AreRanked names ranks → IsPermutation ranks moved → AreRanked names moved
ranked_moved names ranks moved ranked same_ranks = record {
  each = λ i r at. (
      let there = Contains-permutation moved ranks r (IsPermutation-sym ranks moved same_ranks) (i, slice_get_within moved i r at, get_or_from_slice_get moved i r r at) in
      ranked.each there.0 r (slice_get_read ranks _ there.0 r refl there.1 (sym there.2)));
  whole = λ x y is within same.
      among_moved ranks moved same_ranks y (ranked.whole x y (among_moved moved ranks (IsPermutation-sym ranks moved same_ranks) x is) within same);
}
