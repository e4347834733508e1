-- Readers go onward: they pass over bytes that are there, and change nothing else of where they stand.
use Rattle.std.proofs.Common.{◌≡◌, ℕ, suc, ◌+◌, ◌-◌, ◌<◌, ◌≤◌, ◌^◌, Bool, true, false, ltb, List, [], ◌∷◌, length, take, drop, Option, Some, None, Ok, Err, refl, sym, ap, subst, ◌∙◌, arith, inl, inr}
use Rattle.std.specs.Prelude.{nat_lt, if◌then◌else◌, ℤ}
use Rattle.std.specs.Option.{option_map}
use Rattle.std.proofs.lemmas.Bool.{cases_lt, ltb-false, lt-ltb, le-ltb}
use Rattle.std.proofs.lemmas.List.{length-take}
use Rattle.ds_base.specs.declared.fault.Fault.{Fault}
use Rattle.ds_base.specs.declared.fault.Kind.TheVariants as kinds
use Rattle.ds_base.specs.Spot.{Spot, IsSmall, rest, after, fault_at}
use Rattle.ds_base.specs.Leb.{uleb_value, sleb_value, fits_i64}
use Rattle.ds_base.specs.Reading.{or_fault, index_below, bytes_at, number_at, text_at, leb_at, uleb_at, sleb_at}
use Rattle.ds_base.proofs.Passing.{bind_ok, guard_ok, ok_is, found_ok}

pub record Onward (s t : Spot) : Type 0 where
  pub by : ℕ
  pub is : t ≡ after s by
  pub fits : by ≤ s.end - s.place

-- at least one byte
pub record Further (s t : Spot) : Type 0 where
  pub onward : Onward s t
  pub some : s.place < t.place

pub stays : (s : Spot) → Onward s s
stays s = record { by = 0; is = ap (λ (p : ℕ). record s { place = p }) (omega arith); fits = omega arith }

pub onward_then : (s t u : Spot) → Onward s t → Onward t u → Onward s u
onward_then s t u a b =
    let place : t.place ≡ s.place + a.by = ap (λ (x : Spot). x.place) a.is in
    let end : t.end ≡ s.end = ap (λ (x : Spot). x.end) a.is in
    record {
      by = a.by + b.by;
      is = b.is ∙ ap (λ (x : Spot). after x b.by) a.is ∙ ap (λ (p : ℕ). record s { place = p }) (omega arith);
      fits = omega (arith, a.fits, b.fits, place, end);
    }

pub end_kept : (s t : Spot) → Onward s t → t.end ≡ s.end
end_kept s t o = ap (λ (x : Spot). x.end) o.is

pub place_rises : (s t : Spot) → Onward s t → s.place ≤ t.place
place_rises s t o = omega (arith, ap (λ (x : Spot). x.place) o.is)

pub further_then : (s t u : Spot) → Further s t → Onward t u → Further s u
further_then s t u a b = record { onward = onward_then s t u a.onward b; some = omega (arith, a.some, place_rises t u b) }

pub small_kept : (s t : Spot) → Onward s t → IsSmall s → IsSmall t
small_kept s t o h =
    let p = h.before_end in
    subst IsSmall (sym o.is) (record { before_end = omega (arith, o.fits, p); small = h.small })

-- what is behind n bytes that are there
behind : {A : Type 0} (s : Spot) (n : ℕ) (x : A) (y : A × Spot) → n ≤ s.end - s.place → (x, after s n) ≡ y → Onward s y.1
behind {A = A} s n x y le e = subst (λ (p : A × Spot). Onward s p.1) e (record { by = n; is = refl; fits = le })

pub number_onward : (n : ℕ) (s : Spot) (y : ℕ × Spot) → number_at n s ≡ Ok y → Onward s y.1
unfolding number_at
number_onward n s y e =
    let g = guard_ok (ltb (s.end - s.place) n) (fault_at s kinds.Truncated) _ y e in
    behind s n _ y (ltb-false _ _ g.0) g.1

pub number_fits : (n : ℕ) (s : Spot) (y : ℕ × Spot) → number_at n s ≡ Ok y → n ≤ s.end - s.place
unfolding number_at
number_fits n s y e =
    let g = guard_ok (ltb (s.end - s.place) n) (fault_at s kinds.Truncated) _ y e in
    ltb-false _ _ g.0

pub bytes_onward : (n : ℕ) (s : Spot) (y : List ℕ × Spot) → bytes_at n s ≡ Ok y → Onward s y.1
unfolding bytes_at
bytes_onward n s y e =
    let g = guard_ok (ltb (s.end - s.place) n) (fault_at s kinds.Truncated) (take n (rest s), after s n) y e in
    behind s n (take n (rest s)) y (ltb-false _ _ g.0) g.1

abbrev some_of : ℕ → Option ℕ
some_of n = Some n

some_is : (m n : ℕ) → some_of m ≡ some_of n → m ≡ n
some_is m n e = cc

mapped_below : (o : Option ℕ) (n len : ℕ) → option_map suc o ≡ Some n → ((m : ℕ) → o ≡ Some m → m < len) → n < suc len
mapped_below None n len e known = absurd cc
mapped_below (Some m) n len e known =
    omega (arith, known m refl, some_is (suc m) n e)

below_inside : (limit : ℕ) (xs : List ℕ) (n : ℕ) → index_below limit xs ≡ Some n → n < length xs
below_inside limit [] n e = absurd cc
below_inside limit (b ∷ xs) n e =
    elim (cases_lt b limit) [
      | inl lt ↦
          let here : index_below limit (b ∷ xs) ≡ Some 0 = rw (lt-ltb b limit lt) refl in
          omega (arith, some_is 0 n (sym here ∙ e))
      | inr le ↦
          let later : index_below limit (b ∷ xs) ≡ option_map suc (index_below limit xs) = rw (le-ltb b limit le) refl in
          mapped_below (index_below limit xs) n (length xs) (sym later ∙ e) (λ m is. below_inside limit xs m is)
    ]

rest_fits : (s : Spot) → length (rest s) ≤ s.end - s.place
rest_fits s = omega (arith, length-take (s.end - s.place) (drop s.place s.bytes))

pub text_onward : (s : Spot) (y : List ℕ × Spot) → text_at s ≡ Ok y → Onward s y.1
unfolding text_at
text_onward s y e =
    let b = bind_ok (or_fault (index_below 1 (rest s)) (fault_at s kinds.Truncated)) (λ n. Ok (take n (rest s), after s (n + 1))) y e in
    let inside = below_inside 1 (rest s) b.0 (found_ok (index_below 1 (rest s)) (fault_at s kinds.Truncated) b.0 b.1) in
    behind s (b.0 + 1) (take b.0 (rest s)) y (omega (arith, inside, rest_fits s)) (ok_is (take b.0 (rest s), after s (b.0 + 1)) y b.2)

-- a LEB number has a byte at least, and its bytes are there
record LebThere (s : Spot) (bytes : List ℕ) : Type 0 where
  some : 0 < length bytes
  fits : length bytes ≤ s.end - s.place

leb_there : (s : Spot) (bytes : List ℕ) → leb_at s ≡ Ok bytes → LebThere s bytes
unfolding leb_at
leb_there s bytes e =
    let b = bind_ok (or_fault (index_below 128 (rest s)) (fault_at s kinds.Truncated)) (λ n. Ok (take (n + 1) (rest s))) bytes e in
    let inside = below_inside 128 (rest s) b.0 (found_ok (index_below 128 (rest s)) (fault_at s kinds.Truncated) b.0 b.1) in
    let len = length-take (b.0 + 1) (rest s) in
    subst (LebThere s) (ok_is (take (b.0 + 1) (rest s)) bytes b.2) (record { some = omega (arith, inside, len); fits = omega (arith, inside, len, rest_fits s) })

guard_yes : {A : Type 0} (b : Bool) (d : Fault) (x y : A) → (if b then Ok x else Err d) ≡ Ok y → x ≡ y
guard_yes false d x y e = absurd cc
guard_yes true d x y e = cc

leb_onward : (s : Spot) (bytes : List ℕ) → LebThere s bytes → Further s (after s (length bytes))
leb_onward s bytes h = record { onward = record { by = length bytes; is = refl; fits = h.fits }; some = omega (arith, h.some) }

pub uleb_further : (s : Spot) (y : ℕ × Spot) → uleb_at s ≡ Ok y → Further s y.1
unfolding uleb_at
uleb_further s y e =
    let b = bind_ok (leb_at s) (λ bytes. if nat_lt (uleb_value bytes) (2 ^ 64) then Ok (uleb_value bytes, after s (length bytes)) else Err (fault_at s kinds.LebTooWide)) y e in
    let is = guard_yes (nat_lt (uleb_value b.0) (2 ^ 64)) (fault_at s kinds.LebTooWide) (uleb_value b.0, after s (length b.0)) y b.2 in
    subst (λ (p : ℕ × Spot). Further s p.1) is (leb_onward s b.0 (leb_there s b.0 b.1))

pub uleb_onward : (s : Spot) (y : ℕ × Spot) → uleb_at s ≡ Ok y → Onward s y.1
uleb_onward s y e = let f = uleb_further s y e in f.onward

pub sleb_onward : (s : Spot) (y : ℤ × Spot) → sleb_at s ≡ Ok y → Onward s y.1
unfolding sleb_at
sleb_onward s y e =
    let b = bind_ok (leb_at s) (λ bytes. if fits_i64 (sleb_value bytes) then Ok (sleb_value bytes, after s (length bytes)) else Err (fault_at s kinds.LebTooWide)) y e in
    let is = guard_yes (fits_i64 (sleb_value b.0)) (fault_at s kinds.LebTooWide) (sleb_value b.0, after s (length b.0)) y b.2 in
    let f = leb_onward s b.0 (leb_there s b.0 b.1) in
    subst (λ (p : ℤ × Spot). Onward s p.1) is f.onward
