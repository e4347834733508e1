-- Ranges that are searched: the one that holds an address, and those that hold some of a span.
use Rattle.std.proofs.Common.{◌≡◌, ℕ, zero, suc, ◌+◌, ◌-◌, ◌<◌, ◌≤◌, min, max, Bool, true, false, List, [], ◌∷◌, length, drop, get_or, nat_lt, nat_le, Option, Some, None, refl, sym, ap, subst, ◌∙◌, arith, inl, inr, le_refl}
use Rattle.std.specs.List.{All, AllPairs, AllWithin, AllByRecursion, cons_option, find, filter_map}
use Rattle.std.specs.List.Sorted.{IsNonDecreasingBy, IsPartitionedBy, IsPartitionPoint}
use Rattle.std.proofs.lemmas.Bool.{leb-true, leb-false, le-leb, lt-leb, lt-ltb, le-ltb, cases_lt, cases_order, and_left, and_right, and_from}
use Rattle.std.proofs.lemmas.List.{get_or-drop, get_or_default, length-drop}
use Rattle.std.proofs.lemmas.List.Elements.{recursion_from_All}
use Rattle.std.proofs.lemmas.List.Sorted.{IsPartitionedBy-leb}
use Rattle.std.proofs.lemmas.List.Recursion.{found_at, found_nowhere}
use Rattle.dwarf_types.specs.declared.address.Span.{Span}
use Rattle.addr_map.specs.declared.map.MapRange.{MapRange}
use Rattle.addr_map.specs.Moved.{holds, holds_end, piece}
use Rattle.addr_map.specs.Sound.{IsSoundRange}

-- each ends before those behind it start
abbrev pub Apart : List MapRange → Type 0
Apart ranges = AllPairs (λ r later. r.end ≤ later.start) ranges

-- ---- where the ranges stand

starts_rise : (rs : List MapRange) → All IsSoundRange rs → Apart rs → IsNonDecreasingBy (λ r. r.start) rs
starts_rise rs sound apart i j d le within = elim (cases_lt i j) [
  | inl lt ↦ let e = apart i j d lt within in let n = (sound i d (omega arith)).not_empty in omega arith
  | inr ge ↦ let same : i ≡ j = omega arith in rw same (le_refl _)
]

ends_rise : (rs : List MapRange) → All IsSoundRange rs → Apart rs → IsNonDecreasingBy (λ r. r.end) rs
ends_rise rs sound apart i j d le within = elim (cases_lt i j) [
  | inl lt ↦ let e = apart i j d lt within in let n = (sound j d within).not_empty in omega arith
  | inr ge ↦ let same : i ≡ j = omega arith in rw same (le_refl _)
]

-- those that start at an address or before it stand before the others
pub begun_first : (rs : List MapRange) (at : ℕ) → All IsSoundRange rs → Apart rs → IsPartitionedBy (λ r. nat_le r.start at) rs
begun_first rs at sound apart = IsPartitionedBy-leb (λ r. r.start) rs at (starts_rise rs sound apart)

pub begun_by : (rs : List MapRange) (at n : ℕ) → IsPartitionPoint (λ r. nat_le r.start at ≡ true) (λ r. nat_le r.start at ≡ false) rs n
    → IsPartitionPoint (λ r. r.start ≤ at) (λ r. at < r.start) rs n
begun_by rs at n point =
    (λ k d from below. leb-true (get_or rs k d).start at (point.0 k d from below), λ k d from below. leb-false (get_or rs k d).start at (point.1 k d from below))

-- ---- the range that holds an address

ended : (at : ℕ) (r : MapRange) → r.end ≤ at → holds at r ≡ false
ended at r le = and_right (nat_le r.start at) (nat_lt at r.end) (le-ltb at r.end le)

held : (at : ℕ) (r : MapRange) → r.start ≤ at → at < r.end → holds at r ≡ true
held at r from before = and_from (nat_le r.start at) (nat_lt at r.end) (le-leb r.start at from) (lt-ltb at r.end before)

not_begun : (at : ℕ) (r : MapRange) → at < r.start → holds at r ≡ false
not_begun at r lt = and_left (nat_le r.start at) (nat_lt at r.end) (lt-leb r.start at lt)

-- the last range that starts at the address or before it holds the address
pub held_by : (rs : List MapRange) (at n last : ℕ) (d : MapRange) → All IsSoundRange rs → Apart rs → n ≤ length rs → IsPartitionPoint (λ r. r.start ≤ at) (λ r. at < r.start) rs n
    → 1 ≤ n → last ≡ n - 1 → at < (get_or rs last d).end → find (holds at) rs ≡ Some (get_or rs last d)
held_by rs at n last d sound apart within begun some is before =
    let from : (get_or rs last d).start ≤ at = begun.0 last d (omega arith) (omega arith) in
    found_at (find (holds at)) (holds at) (λ r. Some r) None refl (λ r rs. refl) rs last d (omega arith)
    (λ k lt. ended at (get_or rs k d) (let e = apart k last d lt (omega arith) in omega arith)) (held at (get_or rs last d) from before)

-- no range starts at the address or before it
pub held_before : (rs : List MapRange) (at n : ℕ) (d : MapRange) → IsPartitionPoint (λ r. r.start ≤ at) (λ r. at < r.start) rs n → n ≡ 0 → find (holds at) rs ≡ None
held_before rs at n d begun none = found_nowhere (find (holds at)) (holds at) (λ r. Some r) None refl (λ r rs. refl) rs d (λ k lt. not_begun at (get_or rs k d) (begun.1 k d (omega arith) lt))

-- the last range that starts at the address or before it ends there or before it
pub held_out : (rs : List MapRange) (at n last : ℕ) (d : MapRange) → All IsSoundRange rs → Apart rs → n ≤ length rs → IsPartitionPoint (λ r. r.start ≤ at) (λ r. at < r.start) rs n
    → 1 ≤ n → last ≡ n - 1 → (get_or rs last d).end ≤ at → find (holds at) rs ≡ None
held_out rs at n last d sound apart within begun some is over = found_nowhere (find (holds at)) (holds at) (λ r. Some r) None refl (λ r rs. refl) rs d
    (λ k lt. elim (cases_order k last) [
      | inl same ↦ ended at (get_or rs k d) (rw same over)
      | inr (inl before) ↦ ended at (get_or rs k d) (let e = apart k last d before (omega arith) in let b = begun.0 last d (omega arith) (omega arith) in let s = (sound last d (omega arith)).not_empty in omega arith)
      | inr (inr behind) ↦ not_begun at (get_or rs k d) (begun.1 k d (omega arith) lt)
    ])

-- an end is held where the address before it is
holds_last : (end : ℕ) (r : MapRange) → 1 ≤ end → holds_end end r ≡ holds (end - 1) r
holds_last end r some = elim (cases_lt r.start end) [
  | inl from ↦ elim (cases_lt r.end end) [
    | inl over ↦ and_right _ _ (lt-leb end r.end over) ∙ sym (ended (end - 1) r (omega arith))
    | inr within ↦ and_from _ _ (lt-ltb r.start end from) (le-leb end r.end within) ∙ sym (held (end - 1) r (omega arith) (omega arith))
  ]
  | inr behind ↦ and_left _ _ (le-ltb r.start end behind) ∙ sym (not_begun (end - 1) r (omega arith))
]

found_same : (p q : MapRange → Bool) → ((r : MapRange) → p r ≡ q r) → (rs : List MapRange) → find p rs ≡ find q rs
found_same p q same [] = refl
found_same p q same (r ∷ rs) = rw (same r, found_same p q same rs) refl

pub found_last : (end : ℕ) (rs : List MapRange) → 1 ≤ end → find (holds_end end) rs ≡ find (holds (end - 1)) rs
found_last end rs some = found_same (holds_end end) (holds (end - 1)) (λ r. holds_last end r some) rs

none_at_zero : (r : MapRange) → holds_end 0 r ≡ false
none_at_zero r = and_left _ _ (le-ltb r.start 0 (omega arith))

pub found_at_zero : (rs : List MapRange) → find (holds_end 0) rs ≡ None
found_at_zero [] = refl
found_at_zero (r ∷ rs) = rw (none_at_zero r) (found_at_zero rs)

-- ---- the ranges that hold some of a span

empty : (low high : ℕ) (r : MapRange) → min high r.end ≤ max low r.start → piece low high r ≡ None
empty low high r none = rw (le-ltb (max low r.start) (min high r.end) none) refl

-- the first ranges may be left out where each ends before the span
pub ended_out : (rs : List MapRange) (low high n : ℕ) → AllWithin (λ r. nat_le r.end low ≡ true) rs 0 n → filter_map (piece low high) (drop n rs) ≡ filter_map (piece low high) rs
ended_out rs low high zero all = refl
ended_out [] low high (suc n) all = refl
ended_out (r ∷ rs) low high (suc n) all =
    let over : r.end ≤ low = leb-true r.end low (all 0 r (omega arith) (omega arith)) in
    ended_out rs low high n (λ k d from lt. all (suc k) d (omega arith) (omega arith))
    ∙ sym (ap (λ (p : Option Span). cons_option p (filter_map (piece low high) rs)) (empty low high r (omega arith)))

pub ends_first : (rs : List MapRange) (low : ℕ) → All IsSoundRange rs → Apart rs → IsPartitionedBy (λ r. nat_le r.end low) rs
ends_first rs low sound apart = IsPartitionedBy-leb (λ r. r.end) rs low (ends_rise rs sound apart)

none_behind : (low high : ℕ) (rs : List MapRange) → AllByRecursion (λ r. high ≤ r.start) rs → filter_map (piece low high) rs ≡ []
none_behind low high [] all = refl
none_behind low high (r ∷ rs) all =
    let behind : high ≤ r.start = all.0 in
    ap (λ (p : Option Span). cons_option p (filter_map (piece low high) rs)) (empty low high r (omega arith)) ∙ none_behind low high rs all.1

-- the ranges from one on hold nothing where that one starts behind the span
pub begun_out : (rs : List MapRange) (low high i : ℕ) (d : MapRange) → All IsSoundRange rs → Apart rs → i < length rs → high ≤ (get_or rs i d).start → filter_map (piece low high) (drop i rs) ≡ []
begun_out rs low high i d sound apart lt behind = none_behind low high (drop i rs) (recursion_from_All (λ r. high ≤ r.start) (drop i rs)
    (λ k e within. rw (get_or-drop i rs k e) (
    let l = length-drop i rs in
    let same = get_or_default rs i d e lt in
    let rise : (get_or rs i e).start ≤ (get_or rs (i + k) e).start = starts_rise rs sound apart i (i + k) e (omega arith) (omega arith) in
    let first : high ≤ (get_or rs i e).start = subst (λ (r : MapRange). high ≤ r.start) same behind in
    omega arith)))
