-- Items that a cursor stands before are read again, whatever follows them.
use Rattle.std.proofs.Common.{◌≡◌, ℕ, ◌+◌, ◌-◌, ◌<◌, ◌≤◌, ◌^◌, ℤ, IsTrue, List, [], ◌∷◌, ◌++◌, length, take, drop, Some, Ok, refl, sym, ap, ◌∙◌, append_assoc, arith, length-append}
use Rattle.std.proofs.lemmas.Bool.{le-ltb}
use Rattle.std.proofs.lemmas.List.{take_at, take-take, drop_at, drop-take, drop-drop}
use Rattle.byteorder.specs.Endian.{little_number, little_bytes}
use Rattle.byteorder.specs.Numbers.{little_number-reads_back, length-bytes_low_first}
use Rattle.ds_base.specs.Leb.{uleb, sleb, fits_i64}
use Rattle.ds_base.specs.Reading.{index_below, bytes_at, number_at, text_at, uleb_at, sleb_at}
use Rattle.ds_base.specs.Spot.{Spot, rest, after}
use Rattle.ds_base.specs.Texts.{ended}
use Rattle.ds_base.proofs.LebLengths.{length-uleb, length-sleb}
use Rattle.ds_base.proofs.LebReading.{uleb_found, sleb_found}
use Rattle.dwarf_types.specs.Spelled.{AreTextBytes}
use Rattle.dwarf_types.proofs.Readers.{zero_behind}

-- a cursor stands before exactly these bytes
pub record At (s : Spot) (left : List ℕ) : Type 0 where
  pub left_is : rest s ≡ left
  pub end_is : s.end ≡ s.place + length left

-- behind the first of them
pub passed : (s : Spot) (bytes more : List ℕ) → At s (bytes ++ more) → At (after s (length bytes)) more
passed s bytes more h =
    let n = length bytes in
    let whole = length-append bytes more in
    let left : s.end - s.place ≡ n + (s.end - (s.place + n)) = omega (arith, h.end_is, whole) in
    record {
      left_is = sym (ap (λ (k : ℕ). drop n (take k (drop s.place s.bytes))) left ∙ drop-take n (s.end - (s.place + n)) (drop s.place s.bytes) ∙ ap (take (s.end - (s.place + n))) (drop-drop n s.place s.bytes))
          ∙ ap (drop n) h.left_is ∙ drop_at bytes more n refl;
      end_is = omega (arith, h.end_is, whole);
    }

-- the same bytes, said otherwise
pub at_same : (s : Spot) (xs ys : List ℕ) → xs ≡ ys → At s xs → At s ys
at_same s xs ys same h = rw (← same) h

-- a part of them, at the end of which a cursor ends
pub narrowed : (s : Spot) (part more : List ℕ) → At s (part ++ more) → At (record s { end = s.place + length part }) part
narrowed s part more h =
    let n = length part in
    let whole = length-append part more in
    let short : s.place + n - s.place ≡ n = omega arith in
    record {
      left_is = ap (λ (k : ℕ). take k (drop s.place s.bytes)) short ∙ sym (take-take n (s.end - s.place) (drop s.place s.bytes) (omega (arith, h.end_is, whole)))
          ∙ ap (take n) h.left_is ∙ take_at part more n refl;
      end_is = refl;
    }

-- so many bytes
pub bytes_again : (s : Spot) (bytes more : List ℕ) → At s (bytes ++ more) → bytes_at (length bytes) s ≡ Ok (bytes, after s (length bytes))
unfolding bytes_at
bytes_again s bytes more h =
    let le : length bytes ≤ s.end - s.place = omega (arith, h.end_is, length-append bytes more) in
    let opened : bytes_at (length bytes) s ≡ Ok (take (length bytes) (rest s), after s (length bytes)) = rw (le-ltb _ _ le) refl in
    opened ∙ ap (λ (xs : List ℕ). Ok (xs, after s (length bytes))) (ap (take (length bytes)) h.left_is ∙ take_at bytes more (length bytes) refl)

-- a number of so many bytes
pub number_again : (width n : ℕ) (s : Spot) (more : List ℕ) → n < 256 ^ width → At s (little_bytes width n ++ more) → number_at width s ≡ Ok (n, after s width)
unfolding number_at
number_again width n s more small h =
    let le : width ≤ s.end - s.place = omega (arith, h.end_is, length-append (little_bytes width n) more, length-bytes_low_first 0 width n) in
    let opened : number_at width s ≡ Ok (little_number width (rest s), after s width) = rw (le-ltb _ _ le) refl in
    opened ∙ ap (λ (k : ℕ). Ok (k, after s width)) (ap (little_number width) h.left_is ∙ little_number-reads_back width n more small)

-- a byte
pub byte_again : (b : ℕ) (s : Spot) (more : List ℕ) → At s (b ∷ more) → number_at 1 s ≡ Ok (b, after s 1)
unfolding number_at
byte_again b s more h =
    let le : 1 ≤ s.end - s.place = omega (arith, h.end_is) in
    let opened : number_at 1 s ≡ Ok (little_number 1 (rest s), after s 1) = rw (le-ltb _ _ le) refl in
    let first : little_number 1 (b ∷ more) ≡ b = omega arith in
    opened ∙ ap (λ (k : ℕ). Ok (k, after s 1)) (ap (little_number 1) h.left_is ∙ first)

-- a LEB number
pub uleb_again : (n : ℕ) (s : Spot) (more : List ℕ) → n < 2 ^ 64 → At s (uleb n ++ more) → uleb_at s ≡ Ok (n, after s (length (uleb n)))
uleb_again n s more small h = uleb_found n s more small h.left_is ∙ ap (λ (k : ℕ). Ok (n, after s k)) (sym (length-uleb n))

pub sleb_again : (z : ℤ) (s : Spot) (more : List ℕ) → IsTrue (fits_i64 z) → At s (sleb z ++ more) → sleb_at s ≡ Ok (z, after s (length (sleb z)))
sleb_again z s more fits h = sleb_found z s more fits h.left_is ∙ ap (λ (k : ℕ). Ok (z, after s k)) (sym (length-sleb z))

-- a text and its end
pub text_again : (text : List ℕ) (s : Spot) (more : List ℕ) → AreTextBytes text → At s (ended text ++ more) → text_at s ≡ Ok (text, after s (length (ended text)))
unfolding text_at
text_again text s more sound h =
    let whole : rest s ≡ text ++ 0 ∷ more = h.left_is ∙ append_assoc text (0 ∷ []) more in
    let found : index_below 1 (rest s) ≡ Some (length text) = ap (index_below 1) whole ∙ zero_behind text more sound in
    let opened : text_at s ≡ Ok (take (length text) (rest s), after s (length text + 1)) = rw found refl in
    let len : length text + 1 ≡ length (ended text) = omega (arith, length-append text (0 ∷ [])) in
    opened ∙ ap (λ (xs : List ℕ). Ok (xs, after s (length text + 1))) (ap (take (length text)) whole ∙ take_at text (0 ∷ more) (length text) refl) ∙ ap (λ (k : ℕ). Ok (text, after s k)) len
