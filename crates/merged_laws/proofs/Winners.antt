-- Where no two names bid the same, each has one winner.
use Rattle.std.proofs.Common.{◌≡◌, inl, inr, ℕ, suc, ◌<◌, List, [], ◌∷◌, length, get_or, Option, None, refl, sym, ap, ◌∙◌, arith}
use Rattle.std.specs.List.{AllPairs}
use Rattle.std.specs.Option.{option_map_or}
use Rattle.std.proofs.lemmas.Bool.{cases_order}
use Rattle.std.proofs.lemmas.Option.{slice_get-get_or}
use Rattle.odr_names.specs.Numbered.{bid_at}
use Rattle.odr_names.specs.Winners.{AreWinners, IsWinner}
use Rattle.type_names.specs.Names.{Named}

-- lists of numbers with the same items
same_items : (xs ys : List ℕ) → length xs ≡ length ys → ((i : ℕ) → i < length xs → get_or xs i 0 ≡ get_or ys i 0) → xs ≡ ys
same_items [] [] long each = refl
same_items [] (y ∷ ys) long each = absurd (omega (arith, long))
same_items (x ∷ xs) [] long each = absurd (omega (arith, long))
same_items (x ∷ xs) (y ∷ ys) long each =
    let here : x ≡ y = each 0 (omega arith) in
    let rest : xs ≡ ys = same_items xs ys (omega (arith, long)) (λ i lt. each (suc i) (omega (arith, lt))) in
    (λ i. here i ∷ rest i)

module _ (names : List Named) (apart : AllPairs (λ a b. a.bid ≡ b.bid → ⊥) names) where
  bid_of : (i : ℕ) (d : Named) → i < length names → bid_at names i ≡ (get_or names i d).bid
  bid_of i d lt = ap (λ (w : Option Named). option_map_or (λ (w : Named). w.bid) w 0) (slice_get-get_or names i d lt)

  -- a bid tells its name
  pub one_bid : (i j : ℕ) → i < length names → j < length names → bid_at names i ≡ bid_at names j → i ≡ j
  one_bid i j i_in j_in same = elim (cases_order i j) [
    | inl one ↦ one
    | inr w ↦ elim w [
      | inl before ↦ absurd (apart i j d before j_in (sym (bid_of i d i_in) ∙ same ∙ bid_of j d j_in))
      | inr behind ↦ absurd (apart j i d behind i_in (sym (bid_of j d j_in) ∙ sym same ∙ bid_of i d i_in))
    ]
  ]
    where
      d : Named
      d = record { object = 0; entry = 0; parent = None; path = []; bid = 0 }

  pub one_winner : (x v w : ℕ) → IsWinner names x v → IsWinner names x w → v ≡ w
  one_winner x v w a b = one_bid v w a.within b.within (let low = a.least w b.within b.same in let high = b.least v a.within a.same in omega (arith, low, high))

  pub winners_same : (a b : List ℕ) → AreWinners names a → AreWinners names b → a ≡ b
  winners_same a b is_a is_b = same_items a b (is_a.len ∙ sym is_b.len) (λ i lt. (let within : i < length names = omega (arith, lt, is_a.len) in one_winner i (get_or a i 0) (get_or b i 0) (is_a.each i within) (is_b.each i within)))
