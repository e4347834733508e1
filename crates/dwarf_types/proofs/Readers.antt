-- Readers that take from where a cursor stands exactly the spelling of what they give, and that read each spelling again.
use Rattle.std.proofs.Common.{◌≡◌, ℕ, zero, suc, ◌+◌, ◌-◌, ◌*◌, ◌/◌, ◌%◌, ◌^◌, ◌<◌, ◌≤◌, Bool, true, false, cond, ltb, List, [], ◌∷◌, ◌++◌, length, get_or, take, drop, Option, Some, None, Result, Ok, Err, refl, sym, ap, ap₂, subst, ◌∙◌, append_assoc, arith, inl, inr, ℤ}
use Rattle.std.specs.Option.{option_map}
use Rattle.std.specs.Int.{byte_at, bytes_low_first}
use Rattle.std.proofs.Math.Nat.{div-div-eq-div-mul, pow-succ'}
use Rattle.std.proofs.lemmas.Bool.{cases_lt, cases_eq, ltb-true, ltb-false, le-ltb, lt-ltb}
use Rattle.std.proofs.lemmas.List.{take_at, drop_at, take-append-drop, drop-take, drop-drop, length-append, length-take, length-drop, get_or-drop, get_or-take, get_or_past, get_or-append-add}
use Rattle.byteorder.specs.Endian.{little_from, little_number, little_bytes}
use Rattle.byteorder.specs.Numbers.{little_from-cons, little_number-reads_back, little_from-lt, length-bytes_low_first}
use Rattle.ds_base.specs.declared.fault.Fault.{Fault}
use Rattle.ds_base.specs.declared.fault.Kind.TheVariants.{Truncated, LebTooWide}
use Rattle.ds_base.specs.Spot.{Spot, IsSpot, rest, after, fault_at}
use Rattle.ds_base.specs.Leb.{uleb_value, sleb_value, fits_i64, IsSpelled}
use Rattle.ds_base.specs.Reading.{◌>>=◌, refuse_if, or_fault, index_below, bytes_at, number_at, text_at, leb_at, uleb_at, sleb_at}
use Rattle.ds_base.proofs.Passing.{bind_ok, passed, guard_ok, ok_is, found_ok}
use Rattle.dwarf_types.specs.Spelled.{AreBytes, AreTextBytes, IsUleb, IsSleb, IsNumber, IsCopy, IsText, Made}

-- ---- bytes, by place and by recursion

abbrev pub IsBytes : List ℕ → Type 0
IsBytes bytes = (i : ℕ) → get_or bytes i 0 < 256

pub IsBytes-drop : (n : ℕ) (bytes : List ℕ) → IsBytes bytes → IsBytes (drop n bytes)
IsBytes-drop n bytes h i = rw get_or-drop (h (n + i))

pub IsBytes-take : (n : ℕ) (bytes : List ℕ) → IsBytes bytes → IsBytes (take n bytes)
IsBytes-take n bytes h i =
    elim (cases_lt i n) [
      | inl lt ↦ rw (get_or-take n bytes i 0 lt) (h i)
      | inr le ↦ rw (get_or_past (take n bytes) i 0 (omega (arith, length-take n bytes))) (omega arith)
    ]

-- of bytes in a row both parts are bytes
pub IsBytes-left : (xs ys : List ℕ) → IsBytes (xs ++ ys) → IsBytes xs
IsBytes-left xs ys h = subst IsBytes (take_at xs ys (length xs) refl) (IsBytes-take (length xs) (xs ++ ys) h)

pub IsBytes-right : (xs ys : List ℕ) → IsBytes (xs ++ ys) → IsBytes ys
IsBytes-right xs ys h i = subst (λ (n : ℕ). n < 256) (get_or-append-add xs ys i 0) (h (length xs + i))

pub AreBytes-from : (bytes : List ℕ) → IsBytes bytes → AreBytes bytes
AreBytes-from [] h = tt
AreBytes-from (b ∷ bytes) h = (h 0, AreBytes-from bytes (λ i. h (suc i)))

pub IsBytes-from : (bytes : List ℕ) → AreBytes bytes → IsBytes bytes
IsBytes-from [] h i = omega arith
IsBytes-from (b ∷ bytes) h zero = h.0
IsBytes-from (b ∷ bytes) h (suc i) = IsBytes-from bytes h.1 i

-- ---- where a cursor stands

-- in bytes
pub record Stands (s : Spot) : Type 0 where
  pub place : IsSpot s
  pub bytes : IsBytes (rest s)

-- the first part of what is left is bytes
pub front_bytes : (s : Spot) (xs ys : List ℕ) → Stands s → rest s ≡ xs ++ ys → IsBytes xs
front_bytes s xs ys h parts = IsBytes-left xs ys (subst IsBytes parts h.bytes)

pub length_rest : (s : Spot) → Stands s → length (rest s) ≡ s.end - s.place
length_rest s h =
    let p = h.place in
    omega (arith, length-take (s.end - s.place) (drop s.place s.bytes), length-drop s.place s.bytes)

pub rest_after : (s : Spot) (n : ℕ) → Stands s → n ≤ s.end - s.place → rest (after s n) ≡ drop n (rest s)
rest_after s n h le =
    let left : s.end - s.place ≡ n + (s.end - (s.place + n)) = omega arith in
    sym (ap (λ (k : ℕ). drop n (take k (drop s.place s.bytes))) left ∙ drop-take n (s.end - (s.place + n)) (drop s.place s.bytes) ∙ ap (take (s.end - (s.place + n))) (drop-drop n s.place s.bytes))

pub stands_after : (s : Spot) (n : ℕ) → Stands s → n ≤ s.end - s.place → Stands (after s n)
stands_after s n h le =
    let p = h.place in
    record {
      place = record { before_end = omega arith; in_bytes = p.in_bytes };
      bytes = subst IsBytes (sym (rest_after s n h le)) (IsBytes-drop n (rest s) h.bytes);
    }

-- the next n bytes, and what is behind them
front : (s : Spot) (n : ℕ) → Stands s → n ≤ s.end - s.place → rest s ≡ take n (rest s) ++ rest (after s n)
front s n h le = sym (ap (λ (xs : List ℕ). take n (rest s) ++ xs) (rest_after s n h le) ∙ take-append-drop n (rest s))

-- a text that is there fits, and behind it is what follows it
room : (s : Spot) (text more : List ℕ) → Stands s → rest s ≡ text ++ more → length text ≤ s.end - s.place
room s text more h parts = omega (arith, length_rest s h, ap length parts, length-append text more)

behind : (s : Spot) (n : ℕ) (text more : List ℕ) → Stands s → n ≡ length text → rest s ≡ text ++ more → rest (after s n) ≡ more
behind s n text more h len parts =
    let fits = room s text more h parts in
    rest_after s n h (omega arith) ∙ ap (drop n) parts ∙ drop_at text more n (sym len)

-- ---- readers

-- from s to t was taken a spelling of a
pub record Taken {A : Type 0} (Spells : List ℕ → A → Type 0) (s : Spot) (a : A) (t : Spot) : Type 0 where
  pub bytes : List ℕ
  pub spells : Spells bytes a
  pub parts : rest s ≡ bytes ++ rest t
  pub stands : Stands t

-- reading at s gives a, and more is left
pub record Again {A : Type 0} (read : Spot → Result (A × Spot) Fault) (s : Spot) (a : A) (more : List ℕ) : Type 0 where
  pub next : Spot
  pub reads : read s ≡ Ok (a, next)
  pub left : rest next ≡ more
  pub stands : Stands next

-- what is read is spelled so, and what is spelled so is read
pub record Reader {A : Type 0} (read : Spot → Result (A × Spot) Fault) (Spells : List ℕ → A → Type 0) : Type 0 where
  pub takes : (s : Spot) (a : A) (t : Spot) → Stands s → read s ≡ Ok (a, t) → Taken Spells s a t
  pub again : (s : Spot) (bytes : List ℕ) (a : A) (more : List ℕ) → Stands s → Spells bytes a → rest s ≡ bytes ++ more → Again read s a more

-- so many bytes
bytes_take : (n : ℕ) (s : Spot) (a : List ℕ) (t : Spot) → Stands s → bytes_at n s ≡ Ok (a, t) → Taken (IsCopy n) s a t
unfolding bytes_at
bytes_take n s a t h e =
    let g = guard_ok (ltb (s.end - s.place) n) (fault_at s Truncated) (take n (rest s), after s n) (a, t) e in
    let le : n ≤ s.end - s.place = ltb-false _ _ g.0 in
    subst (λ (p : List ℕ × Spot). Taken (IsCopy n) s p.0 p.1) g.1 (record {
      bytes = take n (rest s);
      spells = record { is = refl; sound = AreBytes-from (take n (rest s)) (IsBytes-take n (rest s) h.bytes); len = omega (arith, length-take n (rest s), length_rest s h) };
      parts = front s n h le;
      stands = stands_after s n h le;
    })

bytes_again : (n : ℕ) (s : Spot) (bytes a more : List ℕ) → Stands s → IsCopy n bytes a → rest s ≡ bytes ++ more → Again (bytes_at n) s a more
unfolding bytes_at
bytes_again n s bytes a more h copy parts =
    let whole : rest s ≡ a ++ more = parts ∙ ap (λ (xs : List ℕ). xs ++ more) copy.is in
    let le : n ≤ s.end - s.place = omega (arith, room s a more h whole, copy.len) in
    let opened : bytes_at n s ≡ Ok (take n (rest s), after s n) = rw (le-ltb _ _ le) refl in
    record {
      next = after s n;
      reads = opened ∙ ap (λ (xs : List ℕ). Ok (xs, after s n)) (ap (take n) whole ∙ take_at a more n copy.len);
      left = behind s n a more h (sym copy.len) whole;
      stands = stands_after s n h le;
    }

pub bytes_reader : (n : ℕ) → Reader (bytes_at n) (IsCopy n)
bytes_reader n = record { takes = bytes_take n; again = bytes_again n }

-- a number's bytes with one more below them
byte_above : (i b x : ℕ) → b < 256 → byte_at (suc i) (b + 256 * x) ≡ byte_at i x
byte_above zero b x lt = ap (λ (q : ℕ). q % 256) (omega arith)
byte_above (suc i) b x lt =
    let y : ℕ = b + 256 * x in
    let low : y / 256 ≡ x = omega arith in
    ap (λ (p : ℕ). y / p % 256) (pow-succ' 256 (suc i)) ∙ ap (λ (q : ℕ). q % 256) (sym (div-div-eq-div-mul y 256 (256 ^ suc i))) ∙ ap (λ (q : ℕ). q / 256 ^ suc i % 256) low

bytes_above : (k i b x : ℕ) → b < 256 → bytes_low_first (suc i) k (b + 256 * x) ≡ bytes_low_first i k x
bytes_above zero i b x lt = refl
bytes_above (suc k) i b x lt = ap₂ (λ (c : ℕ) (cs : List ℕ). c ∷ cs) (byte_above i b x lt) (bytes_above k (suc i) b x lt)

-- the bytes of the number that bytes spell
spelled_again : (width : ℕ) (xs : List ℕ) → IsBytes xs → width ≤ length xs → little_bytes width (little_number width xs) ≡ take width xs
spelled_again zero xs h le = refl
spelled_again (suc width) [] h le = absurd (omega arith)
spelled_again (suc width) (b ∷ xs) h le =
    let above : little_from 1 width (b ∷ xs) ≡ little_number width xs = little_from-cons 0 width b xs in
    let n-is : little_number (suc width) (b ∷ xs) ≡ b + 256 * little_number width xs = ap (λ (n : ℕ). b + 256 * n) above in
    let lt : b < 256 = h 0 in
    ap (little_bytes (suc width)) n-is
    ∙ ap₂ (λ (c : ℕ) (cs : List ℕ). c ∷ cs) (omega arith)
    (bytes_above width 0 b (little_number width xs) lt ∙ spelled_again width xs (λ i. h (suc i)) (omega arith))

number_take : (width : ℕ) (s : Spot) (a : ℕ) (t : Spot) → Stands s → number_at width s ≡ Ok (a, t) → Taken (IsNumber width) s a t
unfolding number_at
number_take width s a t h e =
    let g = guard_ok (ltb (s.end - s.place) width) (fault_at s Truncated) (little_number width (rest s), after s width) (a, t) e in
    let le : width ≤ s.end - s.place = ltb-false _ _ g.0 in
    subst (λ (p : ℕ × Spot). Taken (IsNumber width) s p.0 p.1) g.1 (record {
      bytes = little_bytes width (little_number width (rest s));
      spells = record { is = refl; fits = little_from-lt 0 width (rest s) h.bytes };
      parts = front s width h le ∙ ap (λ (xs : List ℕ). xs ++ rest (after s width)) (sym (spelled_again width (rest s) h.bytes (omega (arith, length_rest s h))));
      stands = stands_after s width h le;
    })

number_again : (width : ℕ) (s : Spot) (bytes : List ℕ) (n : ℕ) (more : List ℕ) → Stands s → IsNumber width bytes n → rest s ≡ bytes ++ more → Again (number_at width) s n more
unfolding number_at
number_again width s bytes n more h number parts =
    let whole : rest s ≡ little_bytes width n ++ more = parts ∙ ap (λ (xs : List ℕ). xs ++ more) number.is in
    let len : length (little_bytes width n) ≡ width = length-bytes_low_first 0 width n in
    let le : width ≤ s.end - s.place = omega (arith, room s (little_bytes width n) more h whole, len) in
    let opened : number_at width s ≡ Ok (little_number width (rest s), after s width) = rw (le-ltb _ _ le) refl in
    record {
      next = after s width;
      reads = opened ∙ ap (λ (k : ℕ). Ok (k, after s width)) (ap (little_number width) whole ∙ little_number-reads_back width n more number.fits);
      left = behind s width (little_bytes width n) more h (sym len) whole;
      stands = stands_after s width h le;
    }

-- a number of so many bytes
pub number_reader : (width : ℕ) → Reader (number_at width) (IsNumber width)
number_reader width = record { takes = number_take width; again = number_again width }

-- the first zero byte of some bytes stands at n
pub record ZeroAt (xs : List ℕ) (n : ℕ) : Type 0 where
  pub inside : n < length xs
  pub ends : take (suc n) xs ≡ take n xs ++ 0 ∷ []
  pub text : IsBytes xs → AreTextBytes (take n xs)

some_is : (m n : ℕ) (o : Option ℕ) → o ≡ Some m → o ≡ Some n → m ≡ n
some_is m n o p q = cc

mapped : (o : Option ℕ) (n : ℕ) → option_map suc o ≡ Some n → (m : ℕ) × (o ≡ Some m) × (suc m ≡ n)
mapped None n e = absurd cc
mapped (Some m) n e = (m, refl, cc)

zero_first : (b : ℕ) (xs : List ℕ) (n : ℕ) → b ≡ 0 → index_below 1 (b ∷ xs) ≡ Some n → ZeroAt (b ∷ xs) n
zero_first b xs n z e =
    let here : index_below 1 (b ∷ xs) ≡ Some 0 = rw (lt-ltb b 1 (omega arith)) refl in
    subst (ZeroAt (b ∷ xs)) (some_is 0 n (index_below 1 (b ∷ xs)) here e) (record {
      inside = omega arith;
      ends = ap (λ (c : ℕ). c ∷ []) z;
      text = λ h. tt;
    })

zero_later : (b : ℕ) (xs : List ℕ) (n : ℕ) → (b ≡ 0 → ⊥) → index_below 1 (b ∷ xs) ≡ Some n → ((m : ℕ) → index_below 1 xs ≡ Some m → ZeroAt xs m) → ZeroAt (b ∷ xs) n
zero_later b xs n nz e known =
    let some : 0 < b = omega arith in
    let step : index_below 1 (b ∷ xs) ≡ option_map suc (index_below 1 xs) = rw (le-ltb b 1 (omega arith)) refl in
    let m = mapped (index_below 1 xs) n (sym step ∙ e) in
    let z = known m.0 m.1 in
    subst (ZeroAt (b ∷ xs)) m.2 (record {
      inside = omega (arith, z.inside);
      ends = ap (λ (cs : List ℕ). b ∷ cs) z.ends;
      text = λ h. ((some, h 0), z.text (λ i. h (suc i)));
    })

pub zero_at : (xs : List ℕ) (n : ℕ) → index_below 1 xs ≡ Some n → ZeroAt xs n
zero_at [] n e = absurd cc
zero_at (b ∷ xs) n e =
    elim (cases_eq b 0) [
      | inl z ↦ zero_first b xs n z e
      | inr nz ↦ zero_later b xs n nz e (λ m is. zero_at xs m is)
    ]

-- the first zero byte is the one behind a text
pub zero_behind : (text more : List ℕ) → AreTextBytes text → index_below 1 (text ++ 0 ∷ more) ≡ Some (length text)
zero_behind [] more h = refl
zero_behind (b ∷ text) more h =
    let some : 0 < b = h.0.0 in
    rw (le-ltb b 1 (omega arith), zero_behind text more h.1) refl

text_take : (s : Spot) (a : List ℕ) (t : Spot) → Stands s → text_at s ≡ Ok (a, t) → Taken IsText s a t
unfolding text_at
text_take s a t h e =
    let b = bind_ok (or_fault (index_below 1 (rest s)) (fault_at s Truncated)) (λ n. Ok (take n (rest s), after s (n + 1))) (a, t) e in
    let n : ℕ = b.0 in
    let z = zero_at (rest s) n (found_ok (index_below 1 (rest s)) (fault_at s Truncated) n b.1) in
    let le : n + 1 ≤ s.end - s.place = omega (arith, length_rest s h, z.inside) in
    let next : n + 1 ≡ suc n = omega arith in
    subst (λ (p : List ℕ × Spot). Taken IsText s p.0 p.1) (ok_is (take n (rest s), after s (n + 1)) (a, t) b.2) (record {
      bytes = take n (rest s) ++ 0 ∷ [];
      spells = record { is = refl; sound = z.text h.bytes };
      parts = front s (n + 1) h le ∙ ap (λ (xs : List ℕ). xs ++ rest (after s (n + 1))) (ap (λ (k : ℕ). take k (rest s)) next ∙ z.ends);
      stands = stands_after s (n + 1) h le;
    })

text_again : (s : Spot) (bytes f more : List ℕ) → Stands s → IsText bytes f → rest s ≡ bytes ++ more → Again text_at s f more
unfolding text_at
text_again s bytes f more h text parts =
    let ended : rest s ≡ (f ++ 0 ∷ []) ++ more = parts ∙ ap (λ (xs : List ℕ). xs ++ more) text.is in
    let whole : rest s ≡ f ++ 0 ∷ more = ended ∙ append_assoc f (0 ∷ []) more in
    let found : index_below 1 (rest s) ≡ Some (length f) = ap (index_below 1) whole ∙ zero_behind f more text.sound in
    let opened : text_at s ≡ Ok (take (length f) (rest s), after s (length f + 1)) = rw found refl in
    let len : length f + 1 ≡ length (f ++ 0 ∷ []) = omega (arith, length-append f (0 ∷ [])) in
    record {
      next = after s (length f + 1);
      reads = opened ∙ ap (λ (xs : List ℕ). Ok (xs, after s (length f + 1))) (ap (take (length f)) whole ∙ take_at f (0 ∷ more) (length f) refl);
      left = behind s (length f + 1) (f ++ 0 ∷ []) more h len ended;
      stands = stands_after s (length f + 1) h (omega (arith, len, room s (f ++ 0 ∷ []) more h ended));
    }

-- a text and its zero byte
pub text_reader : Reader text_at IsText
text_reader = record { takes = text_take; again = text_again }

-- ---- LEB numbers

-- the first bytes of some spell a LEB number whose last digit has a place
record SpelledFront (xs : List ℕ) (n : ℕ) : Type 0 where
  inside : n < length xs
  spelled : IsSpelled (take (suc n) xs)

last_first : (b : ℕ) (xs : List ℕ) (n : ℕ) → b < 128 → index_below 128 (b ∷ xs) ≡ Some n → SpelledFront (b ∷ xs) n
last_first b xs n lt e =
    let here : index_below 128 (b ∷ xs) ≡ Some 0 = rw (lt-ltb b 128 lt) refl in
    subst (SpelledFront (b ∷ xs)) (some_is 0 n (index_below 128 (b ∷ xs)) here e) (record { inside = omega arith; spelled = IsSpelled.last b lt })

last_later : (b : ℕ) (xs : List ℕ) (n : ℕ) → 128 ≤ b → b < 256 → index_below 128 (b ∷ xs) ≡ Some n → ((m : ℕ) → index_below 128 xs ≡ Some m → SpelledFront xs m) → SpelledFront (b ∷ xs) n
last_later b xs n le lt e known =
    let step : index_below 128 (b ∷ xs) ≡ option_map suc (index_below 128 xs) = rw (le-ltb b 128 le) refl in
    let m = mapped (index_below 128 xs) n (sym step ∙ e) in
    let f = known m.0 m.1 in
    subst (SpelledFront (b ∷ xs)) m.2 (record { inside = omega (arith, f.inside); spelled = IsSpelled.more b (take (suc m.0) xs) le lt f.spelled })

spelled_front : (xs : List ℕ) (n : ℕ) → IsBytes xs → index_below 128 xs ≡ Some n → SpelledFront xs n
spelled_front [] n h e = absurd cc
spelled_front (b ∷ xs) n h e =
    elim (cases_lt b 128) [
      | inl lt ↦ last_first b xs n lt e
      | inr le ↦ last_later b xs n le (h 0) e (λ m is. spelled_front xs m (λ i. h (suc i)) is)
    ]

-- a spelling is read up to its last digit
front_spelled : (bytes more : List ℕ) → IsSpelled bytes → (n : ℕ) × (length bytes ≡ n + 1) × (index_below 128 (bytes ++ more) ≡ Some n)
front_spelled _ more (IsSpelled.last b lt) = (0, refl, rw (lt-ltb b 128 lt) refl)
front_spelled _ more (IsSpelled.more b bs le lt h) =
    let r = front_spelled bs more h in
    (suc r.0, omega (arith, r.1), rw (le-ltb b 128 le, r.2) refl)

record LebTaken (s : Spot) (bytes : List ℕ) : Type 0 where
  spelled : IsSpelled bytes
  fits : length bytes ≤ s.end - s.place
  parts : rest s ≡ bytes ++ rest (after s (length bytes))

leb_take : (s : Spot) (bytes : List ℕ) → Stands s → leb_at s ≡ Ok bytes → LebTaken s bytes
unfolding leb_at
leb_take s bytes h e =
    let b = bind_ok (or_fault (index_below 128 (rest s)) (fault_at s Truncated)) (λ n. Ok (take (n + 1) (rest s))) bytes e in
    let n : ℕ = b.0 in
    let f = spelled_front (rest s) n h.bytes (found_ok (index_below 128 (rest s)) (fault_at s Truncated) n b.1) in
    let next : suc n ≡ n + 1 = omega arith in
    let len : n + 1 ≡ length (take (n + 1) (rest s)) = omega (arith, length-take (n + 1) (rest s), f.inside) in
    let le : n + 1 ≤ s.end - s.place = omega (arith, length_rest s h, f.inside) in
    subst (LebTaken s) (ok_is (take (n + 1) (rest s)) bytes b.2) (record {
      spelled = subst (λ (k : ℕ). IsSpelled (take k (rest s))) next f.spelled;
      fits = omega (arith, len, le);
      parts = front s (n + 1) h le ∙ ap (λ (k : ℕ). take (n + 1) (rest s) ++ rest (after s k)) len;
    })

leb_again : (s : Spot) (bytes more : List ℕ) → IsSpelled bytes → rest s ≡ bytes ++ more → leb_at s ≡ Ok bytes
unfolding leb_at
leb_again s bytes more h whole =
    let f = front_spelled bytes more h in
    rw (whole, f.2, take_at bytes more (f.0 + 1) f.1) refl

-- a LEB number that means what fits
abbrev leb_as : {A : Type 0} → (List ℕ → A) → (A → Bool) → Spot → Result (A × Spot) Fault
leb_as value fits s = leb_at s >>= λ bytes. cond (fits (value bytes)) (Ok (value bytes, after s (length bytes))) (Err (fault_at s LebTooWide))

record IsLeb {A : Type 0} (value : List ℕ → A) (fits : A → Bool) (bytes : List ℕ) (a : A) : Type 0 where
  spelled : IsSpelled bytes
  value_is : value bytes ≡ a
  fits_is : fits a ≡ true

guard_yes : {A : Type 0} (b : Bool) (d : Fault) (x y : A) → cond b (Ok x) (Err d) ≡ Ok y → (b ≡ true) × (x ≡ y)
guard_yes false d x y e = absurd cc
guard_yes true d x y e = (refl, cc)

leb_as_take : {A : Type 0} (value : List ℕ → A) (fits : A → Bool) (s : Spot) (a : A) (t : Spot) → Stands s → leb_as value fits s ≡ Ok (a, t) → Taken (IsLeb value fits) s a t
leb_as_take {A = A} value fits s a t h e =
    let b = bind_ok (leb_at s) (λ bytes. cond (fits (value bytes)) (Ok (value bytes, after s (length bytes))) (Err (fault_at s LebTooWide))) (a, t) e in
    let l = leb_take s b.0 h b.1 in
    let g = guard_yes (fits (value b.0)) (fault_at s LebTooWide) (value b.0, after s (length b.0)) (a, t) b.2 in
    subst (λ (p : A × Spot). Taken (IsLeb value fits) s p.0 p.1) g.1 (record {
      bytes = b.0;
      spells = record { spelled = l.spelled; value_is = refl; fits_is = g.0 };
      parts = l.parts;
      stands = stands_after s (length b.0) h l.fits;
    })

leb_as_again : {A : Type 0} (value : List ℕ → A) (fits : A → Bool) (s : Spot) (bytes : List ℕ) (a : A) (more : List ℕ) → Stands s → IsLeb value fits bytes a → rest s ≡ bytes ++ more
    → Again (leb_as value fits) s a more
leb_as_again {A = A} value fits s bytes a more h leb parts =
    let fit : fits (value bytes) ≡ true = ap fits leb.value_is ∙ leb.fits_is in
    let le : length bytes ≤ s.end - s.place = room s bytes more h parts in
    let opened : leb_as value fits s ≡ Ok (value bytes, after s (length bytes)) = rw (leb_again s bytes more leb.spelled parts, fit) refl in
    record {
      next = after s (length bytes);
      reads = opened ∙ ap (λ (x : A). Ok (x, after s (length bytes))) leb.value_is;
      left = behind s (length bytes) bytes more h refl parts;
      stands = stands_after s (length bytes) h le;
    }

uleb_take : (s : Spot) (a : ℕ) (t : Spot) → Stands s → uleb_at s ≡ Ok (a, t) → Taken IsUleb s a t
unfolding uleb_at
uleb_take s a t h e =
    let p = leb_as_take uleb_value (λ n. ltb n (2 ^ 64)) s a t h e in
    record { bytes = p.bytes; spells = record { spelled = p.spells.spelled; value = p.spells.value_is; fits = ltb-true _ _ p.spells.fits_is }; parts = p.parts; stands = p.stands }

uleb_again : (s : Spot) (bytes : List ℕ) (a : ℕ) (more : List ℕ) → Stands s → IsUleb bytes a → rest s ≡ bytes ++ more → Again uleb_at s a more
unfolding uleb_at
uleb_again s bytes a more h leb parts =
    let p = leb_as_again uleb_value (λ n. ltb n (2 ^ 64)) s bytes a more h (record { spelled = leb.spelled; value_is = leb.value; fits_is = lt-ltb _ _ leb.fits }) parts in
    record { next = p.next; reads = p.reads; left = p.left; stands = p.stands }

-- a LEB number without a sign
pub uleb_reader : Reader uleb_at IsUleb
uleb_reader = record { takes = uleb_take; again = uleb_again }

sleb_take : (s : Spot) (a : ℤ) (t : Spot) → Stands s → sleb_at s ≡ Ok (a, t) → Taken IsSleb s a t
unfolding sleb_at
sleb_take s a t h e =
    let p = leb_as_take sleb_value fits_i64 s a t h e in
    record { bytes = p.bytes; spells = record { spelled = p.spells.spelled; value = p.spells.value_is; fits = p.spells.fits_is }; parts = p.parts; stands = p.stands }

sleb_again : (s : Spot) (bytes : List ℕ) (a : ℤ) (more : List ℕ) → Stands s → IsSleb bytes a → rest s ≡ bytes ++ more → Again sleb_at s a more
unfolding sleb_at
sleb_again s bytes a more h leb parts =
    let p = leb_as_again sleb_value fits_i64 s bytes a more h (record { spelled = leb.spelled; value_is = leb.value; fits_is = leb.fits }) parts in
    record { next = p.next; reads = p.reads; left = p.left; stands = p.stands }

-- a LEB number with a sign
pub sleb_reader : Reader sleb_at IsSleb
sleb_reader = record { takes = sleb_take; again = sleb_again }

-- ---- readers made of readers

-- nothing is read
pub nothing_reader : {A : Type 0} (v : A) → Reader (λ s. Ok (v, s)) (λ bytes a. (bytes ≡ []) × (a ≡ v))
nothing_reader {A = A} v = record {
  takes = λ s a t h e. subst (λ (p : A × Spot). Taken (λ bytes x. (bytes ≡ []) × (x ≡ v)) s p.0 p.1) (ok_is (v, s) (a, t) e) (record { bytes = []; spells = (refl, refl); parts = refl; stands = h });
  again = λ s bytes a more h spells parts. record {
    next = s;
    reads = ap (λ (x : A). Ok (x, s)) (sym spells.1);
    left = parts ∙ ap (λ (xs : List ℕ). xs ++ more) spells.0;
    stands = h;
  };
}

-- two spellings, one behind the other
pub record Both {A B : Type 0} (First : List ℕ → A → Type 0) (Then : A → List ℕ → B → Type 0) (bytes : List ℕ) (b : B) : Type 0 where
  pub value : A
  pub front : List ℕ
  pub back : List ℕ
  pub is : bytes ≡ front ++ back
  pub first : First front value
  pub second : Then value back b

pub both_reader : {A B : Type 0} (read : Spot → Result (A × Spot) Fault) (next : A → Spot → Result (B × Spot) Fault) (First : List ℕ → A → Type 0) (Then : A → List ℕ → B → Type 0)
    → Reader read First → ((a : A) → Reader (next a) (Then a)) → Reader (λ s. read s >>= λ x. next x.0 x.1) (Both First Then)
both_reader {A = A} {B = B} read next First Then one two = record {
  takes = λ s b t h e.
      let r = bind_ok (read s) (λ x. next x.0 x.1) (b, t) e in
      let f = one.takes s r.0.0 r.0.1 h r.1 in
      let g = (two r.0.0).takes r.0.1 b t f.stands r.2 in
      record {
        bytes = f.bytes ++ g.bytes;
        spells = record { value = r.0.0; front = f.bytes; back = g.bytes; is = refl; first = f.spells; second = g.spells };
        parts = f.parts ∙ ap (λ (xs : List ℕ). f.bytes ++ xs) g.parts ∙ sym (append_assoc f.bytes g.bytes (rest t));
        stands = g.stands;
      };
  again = λ s bytes b more h spells parts.
      let whole = parts ∙ ap (λ (xs : List ℕ). xs ++ more) spells.is ∙ append_assoc spells.front spells.back more in
      let f = one.again s spells.front spells.value (spells.back ++ more) h spells.first whole in
      let g = (two spells.value).again f.next spells.back b more f.stands spells.second f.left in
      record { next = g.next; reads = rw f.reads g.reads; left = g.left; stands = g.stands };
}

-- what is read where a test lets it through
pub tested_reader : {A : Type 0} (refused : Bool) (fault : Spot → Fault) (read : Spot → Result (A × Spot) Fault) (Spells : List ℕ → A → Type 0) → Reader read Spells
    → Reader (λ s. refuse_if refused (fault s) >>= λ u. read s) (λ bytes a. (refused ≡ false) × Spells bytes a)
tested_reader true fault read Spells r = record { takes = λ s a t h e. absurd cc; again = λ s bytes a more h spells parts. absurd cc }
tested_reader false fault read Spells r = record {
  takes = λ s a t h e.
      let p = r.takes s a t h e in
      record { bytes = p.bytes; spells = (refl, p.spells); parts = p.parts; stands = p.stands };
  again = λ s bytes a more h spells parts.
      let p = r.again s bytes a more h spells.1 parts in
      record { next = p.next; reads = p.reads; left = p.left; stands = p.stands };
}

-- the same bytes, said in other words
pub renamed_reader : {A : Type 0} (read : Spot → Result (A × Spot) Fault) (Spells Others : List ℕ → A → Type 0) → ((bytes : List ℕ) (a : A) → Spells bytes a → Others bytes a)
    → ((bytes : List ℕ) (a : A) → Others bytes a → Spells bytes a) → Reader read Spells → Reader read Others
renamed_reader read Spells Others to from r = record {
  takes = λ s a t h e.
      let p = r.takes s a t h e in
      record { bytes = p.bytes; spells = to p.bytes a p.spells; parts = p.parts; stands = p.stands };
  again = λ s bytes a more h spells parts. r.again s bytes a more h (from bytes a spells) parts;
}

-- what is read where a test of it lets it through
pub checked_reader : {A : Type 0} (bad : A → Bool) (fault : Fault) (read : Spot → Result (A × Spot) Fault) (Spells : List ℕ → A → Type 0) → Reader read Spells
    → Reader (λ s. read s >>= λ x. refuse_if (bad x.0) fault >>= λ u. Ok x) (λ bytes a. Spells bytes a × (bad a ≡ false))
checked_reader {A = A} bad fault read Spells r = record {
  takes = λ s a t h e.
      let b = bind_ok (read s) (λ x. refuse_if (bad x.0) fault >>= λ u. Ok x) (a, t) e in
      let p = passed (bad b.0.0) fault (Ok b.0) (a, t) b.2 in
      let f = r.takes s b.0.0 b.0.1 h b.1 in
      subst (λ (q : A × Spot). Taken (λ bytes x. Spells bytes x × (bad x ≡ false)) s q.0 q.1) (ok_is b.0 (a, t) p.1) (record { bytes = f.bytes; spells = (f.spells, p.0); parts = f.parts; stands = f.stands });
  again = λ s bytes a more h spells parts.
      let f = r.again s bytes a more h spells.0 parts in
      record { next = f.next; reads = rw (f.reads, spells.1) refl; left = f.left; stands = f.stands };
}

-- what is made of what is read
pub made_reader : {A B : Type 0} (made : A → B) (read : Spot → Result (A × Spot) Fault) (Spells : List ℕ → A → Type 0) → Reader read Spells
    → Reader (λ s. read s >>= λ x. Ok (made x.0, x.1)) (Made made Spells)
made_reader {A = A} {B = B} made read Spells r = record {
  takes = λ s b t h e.
      let p = bind_ok (read s) (λ x. Ok (made x.0, x.1)) (b, t) e in
      let f = r.takes s p.0.0 p.0.1 h p.1 in
      subst (λ (q : B × Spot). Taken (Made made Spells) s q.0 q.1) (ok_is (made p.0.0, p.0.1) (b, t) p.2) (record { bytes = f.bytes; spells = record { of = p.0.0; spells = f.spells; is = refl }; parts = f.parts; stands = f.stands });
  again = λ s bytes b more h spells parts.
      let f = r.again s bytes spells.of more h spells.spells parts in
      record { next = f.next; reads = rw f.reads (ap (λ (x : B). Ok (x, f.next)) (sym spells.is)); left = f.left; stands = f.stands };
}
