-- A text ends at the first zero byte from its place on.
use Rattle.std.proofs.Common.{◌≡◌, ℕ, zero, suc, ◌+◌, ◌-◌, ◌<◌, ◌≤◌, ◌==◌, not, cond, Bool, true, false, List, [], ◌∷◌, drop, length, get_or, slice_get, nat_le, nat_lt, Ok, Err, if◌then◌else◌, Some, None, refl, ap, subst, sym, arith, ◌∙◌, inl, inr}
use Rattle.std.specs.List.Sorted.{IsPartitionedBy, IsPartitionPoint}
use Rattle.std.proofs.lemmas.Bool.{cases_Bool, eq-eqb, eqb-true, ne_eqb, lt-leb, lt-ltb, ltb-true, le-ltb}
use Rattle.std.proofs.lemmas.List.{get_or_default}
use Rattle.std.proofs.lemmas.List.Folds.{find_at}
use Rattle.std.proofs.lemmas.List.Sums.{position_or_len_is}
use Rattle.macho_read.specs.Fields.{before_zero, text_len}
use Rattle.ds_base.specs.Reading.{◌>>=◌, refuse_if}
use Rattle.macho_read.specs.Ends.{end_at, first_from, zeros_from}
use Rattle.macho_read.specs.Symbols.{bad_symbols, ended_text, name_in}

-- one byte more before those that a text begins with
same_test : (n len : ℕ) → (1 + n == suc len) ≡ (n == len)
same_test n len = elim (cases_Bool (n == len)) [
  | inl same ↦ rw same (eq-eqb (1 + n) (suc len) (omega (arith, eqb-true n len same)))
  | inr other ↦ rw other (ne_eqb (1 + n) (suc len) (λ e. let same = eq-eqb n len (omega arith) in absurd (let no = rw same at other in cc)))
]

end_later : (at n len : ℕ) → cond (1 + n == suc len) None (Some (at + (1 + n))) ≡ cond (n == len) None (Some (at + 1 + n))
end_later at n len = rw (same_test n len) (ap (λ (k : ℕ). cond (n == len) None (Some k)) (omega arith))

first_end : (t at : ℕ) (bytes : List ℕ) → t ≤ at → first_from (zeros_from at bytes) t ≡ end_at at bytes
first_end t at [] le = refl
first_end t at (b ∷ bytes) le = by (b == 0) (first_end t (at + 1) bytes (omega arith))
  where
    by : (hit : Bool) → first_from (zeros_from (at + 1) bytes) t ≡ end_at (at + 1) bytes
        → first_from (if hit then at ∷ zeros_from (at + 1) bytes else zeros_from (at + 1) bytes) t
        ≡ (if cond (not hit) (1 + text_len bytes) 0 == suc (length bytes) then None else Some (at + cond (not hit) (1 + text_len bytes) 0))
    by true h = rw (le-ltb at t le, ne_eqb 0 (suc (length bytes)) (λ e. omega arith)) (ap Some (omega arith))
    by false h = h ∙ sym (end_later at (text_len bytes) (length bytes))

pub text_end : (at k : ℕ) (bytes : List ℕ) → first_from (zeros_from at bytes) (at + k) ≡ end_at (at + k) (drop k bytes)
text_end at zero bytes = let same : at ≡ at + 0 = omega arith in first_end (at + 0) at bytes (omega arith) ∙ ap (λ (k : ℕ). end_at k bytes) same
text_end at (suc k) [] = refl
text_end at (suc k) (b ∷ bytes) =
    let next : at + 1 + k ≡ at + suc k = omega arith in
    let behind = subst (λ (n : ℕ). first_from (zeros_from (at + 1) bytes) n ≡ end_at n (drop k bytes)) next (text_end (at + 1) k bytes) in
    elim (cases_Bool (b == 0)) [
      | inl here ↦ rw (here, lt-ltb at (at + suc k) (omega arith)) behind
      | inr other ↦ rw other behind
    ]

-- ---- the places rise

cons_above : (at : ℕ) (zs : List ℕ) (d : ℕ) → ((i : ℕ) → i < length zs → at + 1 ≤ get_or zs i d) → (i : ℕ) → i < suc (length zs) → at ≤ get_or (at ∷ zs) i d
cons_above at zs d above zero lt = omega arith
cons_above at zs d above (suc i) lt = let h = above i (omega arith) in omega arith

zeros_above : (at : ℕ) (bytes : List ℕ) (d i : ℕ) → i < length (zeros_from at bytes) → at ≤ get_or (zeros_from at bytes) i d
zeros_above at [] d = λ i lt. absurd (omega arith)
zeros_above at (b ∷ bytes) d = by (b == 0) (zeros_above (at + 1) bytes d)
  where
    by : (hit : Bool) → ((i : ℕ) → i < length (zeros_from (at + 1) bytes) → at + 1 ≤ get_or (zeros_from (at + 1) bytes) i d)
        → (i : ℕ) → i < length (if hit then at ∷ zeros_from (at + 1) bytes else zeros_from (at + 1) bytes) → at ≤ get_or (if hit then at ∷ zeros_from (at + 1) bytes else zeros_from (at + 1) bytes) i d
    by true above = cons_above at (zeros_from (at + 1) bytes) d above
    by false above = λ i lt. let h = above i lt in omega arith

cons_rise : (at : ℕ) (zs : List ℕ) (d : ℕ) → ((i : ℕ) → i < length zs → at + 1 ≤ get_or zs i d) → ((i j : ℕ) → i ≤ j → j < length zs → get_or zs i d ≤ get_or zs j d)
    → (i j : ℕ) → i ≤ j → j < suc (length zs) → get_or (at ∷ zs) i d ≤ get_or (at ∷ zs) j d
cons_rise at zs d above rise zero zero le lt = omega arith
cons_rise at zs d above rise (suc i) zero le lt = absurd (omega arith)
cons_rise at zs d above rise zero (suc j) le lt = let h = above j (omega arith) in omega arith
cons_rise at zs d above rise (suc i) (suc j) le lt = rise i j (omega arith) (omega arith)

zeros_rise : (at : ℕ) (bytes : List ℕ) (d i j : ℕ) → i ≤ j → j < length (zeros_from at bytes) → get_or (zeros_from at bytes) i d ≤ get_or (zeros_from at bytes) j d
zeros_rise at [] d = λ i j le lt. absurd (omega arith)
zeros_rise at (b ∷ bytes) d = by (b == 0) (zeros_rise (at + 1) bytes d)
  where
    by : (hit : Bool) → ((i j : ℕ) → i ≤ j → j < length (zeros_from (at + 1) bytes) → get_or (zeros_from (at + 1) bytes) i d ≤ get_or (zeros_from (at + 1) bytes) j d)
        → (i j : ℕ) → i ≤ j → j < length (if hit then at ∷ zeros_from (at + 1) bytes else zeros_from (at + 1) bytes)
        → get_or (if hit then at ∷ zeros_from (at + 1) bytes else zeros_from (at + 1) bytes) i d ≤ get_or (if hit then at ∷ zeros_from (at + 1) bytes else zeros_from (at + 1) bytes) j d
    by true rise = cons_rise at (zeros_from (at + 1) bytes) d (zeros_above (at + 1) bytes d) rise
    by false rise = rise

-- those before a place stand first
pub before_first : (bytes : List ℕ) (place : ℕ) → IsPartitionedBy (λ z. nat_lt z place) (zeros_from 0 bytes)
before_first bytes place i j d le lt e =
    let h = zeros_rise 0 bytes d i j le lt in
    let below = ltb-true _ _ e in
    lt-ltb (get_or (zeros_from 0 bytes) i d) place (omega arith)

-- the one behind those is the first that is not before the place
pub first_is : (zs : List ℕ) (place n : ℕ) → n ≤ length zs → IsPartitionPoint (λ z. nat_lt z place ≡ true) (λ z. nat_lt z place ≡ false) zs n → first_from zs place ≡ slice_get zs n
first_is zs place n le parted =
    let p : ℕ → Bool = λ z. not (nat_lt z place) in
    find_at p zs ∙ ap (slice_get zs) (position_or_len_is p zs n 0 le (λ k lt. ap not (parted.0 k 0 (omega arith) lt)) (λ lt. ap not (parted.1 n 0 (omega arith) lt)))

-- ---- a name by the places of the zero bytes

-- how a text ends whose end was found
pub record IsEnd (strings : List ℕ) (place end : ℕ) : Type 0 where
  pub ends : (text_len (drop place strings) == length (drop place strings)) ≡ false
  pub len : end ≡ place + text_len (drop place strings)

end_found : (strings : List ℕ) (place end : ℕ) (whole : Bool) → (text_len (drop place strings) == length (drop place strings)) ≡ whole
    → Some end ≡ cond whole None (Some (place + text_len (drop place strings))) → IsEnd strings place end
end_found strings place end true is e = absurd cc
end_found strings place end false is e = record { ends = is; len = cc }

no_end_found : (rest : List ℕ) (place : ℕ) (whole : Bool) → (text_len rest == length rest) ≡ whole → None ≡ cond whole None (Some (place + text_len rest)) → (text_len rest == length rest) ≡ true
no_end_found rest place true is e = is
no_end_found rest place false is e = absurd cc

by_zeros : (strings : List ℕ) (place : ℕ) → first_from (zeros_from 0 strings) place ≡ end_at place (drop place strings)
by_zeros strings place =
    let same : 0 + place ≡ place = omega arith in
    subst (λ (n : ℕ). first_from (zeros_from 0 strings) n ≡ end_at n (drop place strings)) same (text_end 0 place strings)

pub end_of_name : (strings zeros : List ℕ) (place end : ℕ) → zeros ≡ zeros_from 0 strings → Some end ≡ first_from zeros place → IsEnd strings place end
end_of_name strings zeros place end are found =
    end_found strings place end _ refl (found ∙ ap (λ (zs : List ℕ). first_from zs place) are ∙ by_zeros strings place)

pub no_end_of_name : (strings zeros : List ℕ) (place : ℕ) → zeros ≡ zeros_from 0 strings → None ≡ first_from zeros place → (text_len (drop place strings) == length (drop place strings)) ≡ true
no_end_of_name strings zeros place are found =
    no_end_found (drop place strings) place _ refl (found ∙ ap (λ (zs : List ℕ). first_from zs place) are ∙ by_zeros strings place)

name_by : (none past whole : Bool) (text : List ℕ) (index : ℕ) → none ≡ false → past ≡ false → (text_len text == length text) ≡ whole
    → (if none then Ok [] else refuse_if past (bad_symbols index) >>= λ _. ended_text text index) ≡ (if whole then Err (bad_symbols index) else Ok (before_zero text))
name_by none past true text index is-none is-past is-whole = rw (is-none, is-past, is-whole) refl
name_by none past false text index is-none is-past is-whole = rw (is-none, is-past, is-whole) refl

-- the name of a place that is not 0 and lies in the strings, by whether its text ends
pub name_is : (strings : List ℕ) (index place : ℕ) (whole : Bool) → (place ≡ 0 → ⊥) → place < length strings → (text_len (drop place strings) == length (drop place strings)) ≡ whole
    → name_in strings index place ≡ (if whole then Err (bad_symbols index) else Ok (before_zero (drop place strings)))
unfolding name_in
name_is strings index place whole some within is = name_by (place == 0) (nat_le (length strings) place) whole (drop place strings) index (ne_eqb place 0 some) (lt-leb (length strings) place within) is

-- ---- the first place that is not before another

module _ (zs : List ℕ) (t i : ℕ) (cut : IsPartitionedBy (λ z. nat_lt z t) zs) (lt : i < length zs) where
  -- those before the one before it are before it too
  below : (j : ℕ) → suc j ≡ i → nat_lt (get_or zs j 0) t ≡ true → (k d : ℕ) → 0 ≤ k → k < i → nat_lt (get_or zs k d) t ≡ true
  below j is before k d from within =
      let there : j < length zs = omega (arith, is, lt) in
      cut k j d (omega (arith, is, within)) there (ap (λ (z : ℕ). nat_lt z t) (get_or_default zs j d 0 there) ∙ before)

  pub all_below : ((j : ℕ) → suc j ≡ i → nat_lt (get_or zs j 0) t ≡ true) → (k d : ℕ) → 0 ≤ k → k < i → nat_lt (get_or zs k d) t ≡ true
  all_below before k d from within = below (i - 1) (omega (arith, within)) (before (i - 1) (omega (arith, within))) k d from within

  pub none_behind : t ≤ get_or zs i 0 → (k d : ℕ) → i ≤ k → k < length zs → nat_lt (get_or zs k d) t ≡ false
  none_behind le k d from within = elim (cases_Bool (nat_lt (get_or zs k d) t)) [
    | inl early ↦ absurd (let here = ltb-true (get_or zs i 0) t (ap (λ (z : ℕ). nat_lt z t) (get_or_default zs i 0 d lt) ∙ cut i k d from within early) in omega (arith, le, here))
    | inr late ↦ late
  ]
