-- The range that holds an address.
use Rattle.std.proofs.Common.{◌≡◌, ℕ, ◌<◌, ◌≤◌, nat_lt, nat_le, true, false, List, [], ◌∷◌, length, get_or, Some, None, refl, sym, subst, arith, inl, inr, le_refl}
use Rattle.std.specs.List.{All, AllPairs, AllByRecursion, find}
use Rattle.std.specs.List.Sorted.{IsPartitionPoint}
use Rattle.std.proofs.lemmas.Bool.{cases_Bool, cases_order, leb-true, leb-false, le-leb, lt-leb, lt-ltb, le-ltb, ltb-true, and_left, and_right, and_from, and_parts}
use Rattle.std.proofs.lemmas.List.Recursion.{found_at, found_nowhere}
use Rattle.addr_map.specs.declared.map.MapRange.{MapRange}
use Rattle.addr_map.specs.Moved.{holds}
use Rattle.addr_map.specs.Sound.{IsSoundRange}

-- each ends before those behind it start
abbrev pub Apart : List MapRange → Type 0
Apart ranges = AllPairs (λ r later. r.end ≤ later.start) ranges

pub over : (a : ℕ) (r : MapRange) → r.end ≤ a → holds a r ≡ false
over a r le = and_right (nat_le r.start a) (nat_lt a r.end) (le-ltb a r.end le)

held : (a : ℕ) (r : MapRange) → r.start ≤ a → a < r.end → holds a r ≡ true
held a r from before = and_from (nat_le r.start a) (nat_lt a r.end) (le-leb r.start a from) (lt-ltb a r.end before)

pub not_begun : (a : ℕ) (r : MapRange) → a < r.start → holds a r ≡ false
not_begun a r lt = and_left (nat_le r.start a) (nat_lt a r.end) (lt-leb r.start a lt)

pub held_parts : (a : ℕ) (r : MapRange) → holds a r ≡ true → (r.start ≤ a) × (a < r.end)
held_parts a r e =
    let both = and_parts (nat_le r.start a) (nat_lt a r.end) e in
    (leb-true r.start a both.0, ltb-true a r.end both.1)

-- n ranges end at the address or before it
abbrev Ended : ℕ → List MapRange → ℕ → Type 0
Ended a rs n = IsPartitionPoint (λ r. r.end ≤ a) (λ r. a < r.end) rs n

pub ended_by : (rs : List MapRange) (a n : ℕ) → IsPartitionPoint (λ r. nat_le r.end a ≡ true) (λ r. nat_le r.end a ≡ false) rs n → Ended a rs n
ended_by rs a n point =
    (λ k d from below. leb-true (get_or rs k d).end a (point.0 k d from below), λ k d from below. leb-false (get_or rs k d).end a (point.1 k d from below))

-- the next one starts at the address or before it
pub held_by : (rs : List MapRange) (a n : ℕ) (d : MapRange) → Ended a rs n → n < length rs → (get_or rs n d).start ≤ a → find (holds a) rs ≡ Some (get_or rs n d)
held_by rs a n d ended within from =
    found_at (find (holds a)) (holds a) (λ r. Some r) None refl (λ r rs. refl) rs n d within
    (λ k lt. over a (get_or rs k d) (ended.0 k d (omega arith) lt)) (held a (get_or rs n d) from (ended.1 n d (le_refl _) within))

-- the next one starts behind the address
pub held_between : (rs : List MapRange) (a n : ℕ) (d : MapRange) → All IsSoundRange rs → Apart rs → Ended a rs n → n < length rs → a < (get_or rs n d).start → find (holds a) rs ≡ None
held_between rs a n d sound apart ended within before = found_nowhere (find (holds a)) (holds a) (λ r. Some r) None refl (λ r rs. refl) rs d
    (λ k lt. elim (cases_order k n) [
      | inl same ↦ not_begun a (get_or rs k d) (subst (λ (i : ℕ). a < (get_or rs i d).start) (sym same) before)
      | inr (inl below) ↦ over a (get_or rs k d) (ended.0 k d (omega arith) below)
      | inr (inr above) ↦ not_begun a (get_or rs k d) (let e : (get_or rs n d).end ≤ (get_or rs k d).start = apart n k d above lt in let some : (get_or rs n d).start < (get_or rs n d).end = (sound n d within).not_empty in omega arith)
    ])

-- all end at the address or before it
pub held_behind : (rs : List MapRange) (a n : ℕ) (d : MapRange) → Ended a rs n → length rs ≤ n → find (holds a) rs ≡ None
held_behind rs a n d ended all = found_nowhere (find (holds a)) (holds a) (λ r. Some r) None refl (λ r rs. refl) rs d (λ k lt. over a (get_or rs k d) (ended.0 k d (omega arith) (omega arith)))

pub found_holds : (a : ℕ) (rs : List MapRange) (r : MapRange) → find (holds a) rs ≡ Some r → holds a r ≡ true
found_holds a [] r e = absurd cc
found_holds a (q ∷ qs) r e = elim (cases_Bool (holds a q)) [
  | inl here ↦ let same : Some q ≡ Some r = rw here at e in let is : q ≡ r = cc in subst (λ (x : MapRange). holds a x ≡ true) is here
  | inr other ↦ found_holds a qs r (rw other at e)
]

pub found_has : (P : MapRange → Type 0) (a : ℕ) (rs : List MapRange) (r : MapRange) → AllByRecursion P rs → find (holds a) rs ≡ Some r → P r
found_has P a [] r all e = absurd cc
found_has P a (q ∷ qs) r all e = elim (cases_Bool (holds a q)) [
  | inl here ↦ let same : Some q ≡ Some r = rw here at e in let is : q ≡ r = cc in subst P is all.0
  | inr other ↦ found_has P a qs r all.1 (rw other at e)
]

pub none_holds : (a : ℕ) (rs : List MapRange) → find (holds a) rs ≡ None → AllByRecursion (λ r. holds a r ≡ false) rs
none_holds a [] e = tt
none_holds a (q ∷ qs) e = elim (cases_Bool (holds a q)) [
  | inl here ↦ absurd (let same : Some q ≡ None = rw here at e in cc)
  | inr other ↦ (other, none_holds a qs (rw other at e))
]
