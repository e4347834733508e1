-- Numbers in decimal digits, read and defined.
use Rattle.std.proofs.Common.{◌≡◌, ◌≢◌, inl, inr, ℕ, ◌<◌, ◌≤◌, ◌^◌, Bool, true, false, true≢false, ◌&&◌, List, [], ◌∷◌, length, None, refl, sym, ap, subst, arith, slice_index, nat_le}
use Rattle.std.specs.Char.{digit_value, is_digit}
use Rattle.std.specs.List.{list_all}
use Rattle.std.specs.Str.Parse.{AllDigits, IsNumeral, digits_value, without_leading_plus}
use Rattle.std.proofs.lemmas.Bool.{cases_lt, lt-leb, lt-ltb, ltb-true, ne_eqb}
use Rattle.link_cli.specs.Plan.{number_up_to, up_to}

abbrev are_digits : List ℕ → Bool
are_digits text = list_all (λ b. is_digit b 10) text

all_digits : (text : List ℕ) → AllDigits 10 text → are_digits text ≡ true
all_digits [] all = refl
all_digits (c ∷ cs) all = rw (lt-ltb (digit_value c) 10 all.0, all_digits cs all.1) refl

digits_all : (text : List ℕ) → are_digits text ≡ true → AllDigits 10 text
digits_all [] is = tt
digits_all (c ∷ cs) is = by (is_digit c 10) refl is (digits_all cs)
  where
    by : (b : Bool) → is_digit c 10 ≡ b → (b && are_digits cs) ≡ true → (are_digits cs ≡ true → AllDigits 10 cs) → AllDigits 10 (c ∷ cs)
    by true digit more rest = (ltb-true (digit_value c) 10 digit, rest more)
    by false digit more rest = absurd (true≢false (sym more))

no_plus : (text : List ℕ) → slice_index text 0 ≢ 0x2b → without_leading_plus text ≡ text
no_plus text first = rw (ne_eqb (slice_index text 0) 0x2b first) refl

-- a number of 32 bits, perhaps behind a plus
abbrev pub Numeral : List ℕ → Type 0
Numeral text = IsNumeral 10 (without_leading_plus text) × (digits_value 10 (without_leading_plus text) < 2 ^ 32)

and_false : (b : Bool) → (b && false) ≡ false
and_false true = refl
and_false false = refl

module _ (most : ℕ) where
  -- a sign or a zero stands first
  pub none_signed : (text : List ℕ) → slice_index text 0 ≡ 0x2b → None ≡ number_up_to most text
  none_signed [] is = refl
  none_signed (c ∷ cs) is = rw is refl

  pub none_padded : (text : List ℕ) → slice_index text 0 ≡ 0x30 → None ≡ number_up_to most text
  none_padded text is = rw (is, and_false (are_digits text)) refl

  -- a number was read
  pub number_read : (text : List ℕ) (n : ℕ) → slice_index text 0 ≢ 0x2b → slice_index text 0 ≢ 0x30 → Numeral text × (n ≡ digits_value 10 (without_leading_plus text)) → up_to most n ≡ number_up_to most text
  number_read text n sign zero_first read =
      let same = no_plus text sign in
      let found : (IsNumeral 10 text × (digits_value 10 text < 2 ^ 32)) × (n ≡ digits_value 10 text) =
      subst (λ (t : List ℕ). (IsNumeral 10 t × (digits_value 10 t < 2 ^ 32)) × (n ≡ digits_value 10 t)) same read in
      rw (all_digits text found.0.0.1, ne_eqb (slice_index text 0) 0x30 zero_first) (ap (up_to most) found.1)

  over : (n : ℕ) → most < n → up_to most n ≡ None
  over n lt = rw (lt-leb n most lt, and_false (nat_le 1 n)) refl

  none_empty : (text : List ℕ) → length text ≤ 0 → None ≡ up_to most (digits_value 10 text)
  none_empty [] le = refl
  none_empty (c ∷ cs) le = absurd (omega arith)

  -- none was read
  pub none_read : (text : List ℕ) → most < 2 ^ 32 → slice_index text 0 ≢ 0x2b → slice_index text 0 ≢ 0x30 → (Numeral text → ⊥) → None ≡ number_up_to most text
  none_read text small sign zero_first fails = by (are_digits text) refl
    where
      none : are_digits text ≡ true → None ≡ up_to most (digits_value 10 text)
      none digits = elim (cases_lt 0 (length text)) [
        | inl some ↦ elim (cases_lt (digits_value 10 text) (2 ^ 32)) [
          | inl lt ↦ absurd (fails (subst (λ (t : List ℕ). IsNumeral 10 t × (digits_value 10 t < 2 ^ 32)) (sym (no_plus text sign)) ((some, digits_all text digits), lt)))
          | inr le ↦ sym (over (digits_value 10 text) (omega (arith, le, small)))
        ]
        | inr empty ↦ none_empty text empty
      ]

      by : (b : Bool) → are_digits text ≡ b → None ≡ number_up_to most text
      by false is = rw is refl
      by true is = rw (is, ne_eqb (slice_index text 0) 0x30 zero_first) (none is)
