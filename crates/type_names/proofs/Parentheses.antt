-- A name without an opening parenthesis is not made up.
use Rattle.std.proofs.Common.{◌≡◌, suc, ◌<◌, ◌==◌, ◌||◌, ◌∷◌, [], ℕ, List, length, get_or, refl, arith, Option, Some, None, Bool, true, false, sym}
use Rattle.std.specs.List.{list_any}
use Rattle.std.specs.Option.{is_some}
use Rattle.std.proofs.lemmas.List.Folds.{list_any_at}
use Rattle.std.proofs.lemmas.Bool.{eq-eqb, eqb-true}
use Rattle.memchr.specs.Find.{IsFirstByte, is_byte}
use Rattle.type_names.specs.Entries.{holds, is_made_up}

abbrev is_parenthesis : ℕ → Bool
is_parenthesis b = b == 40

not_true : (b : Bool) → (b ≡ true → ⊥) → b ≡ false
not_true true never = absurd (never refl)
not_true false never = refl

none_in : (xs : List ℕ) → ((k : ℕ) → k < length xs → is_parenthesis (get_or xs k 0) ≡ false) → list_any is_parenthesis xs ≡ false
none_in [] others = refl
none_in (x ∷ xs) others = rw (others 0 (omega arith)) (none_in xs (λ k lt. others (suc k) (omega (arith, lt))))

-- whether there is one, by a fast search
pub parenthesis_is : (xs : List ℕ) (r : Option ℕ) → IsFirstByte (is_byte 40) xs r → is_some r ≡ list_any (λ b. b == 40) xs
parenthesis_is xs None nowhere = sym (none_in xs (λ k lt. not_true _ (nowhere k (omega arith) lt)))
parenthesis_is xs (Some n) found = sym (list_any_at is_parenthesis xs n 0 found.0.high found.1)

neither : (a b : Bool) → (a || b) ≡ false → (a ≡ false) × (b ≡ false)
neither false false e = (refl, refl)
neither false true e = absurd (cc)
neither true b e = absurd (cc)

other : (x : ℕ) → is_parenthesis x ≡ false → (40 == x) ≡ false
other x e = not_true (40 == x) (λ same. absurd (either (x == 40) refl e (eqb-true 40 x same))) where
  either : (b : Bool) → (x == 40) ≡ b → b ≡ false → 40 ≡ x → ⊥
  either true is differs same = absurd (cc)
  either false is differs same = let again : (x == 40) ≡ true = eq-eqb x 40 (sym same) in absurd (cc)

missing : (part xs : List ℕ) → list_any is_parenthesis xs ≡ false → holds (40 ∷ part) xs ≡ false
missing part [] e = refl
missing part (x ∷ xs) e =
    let parts = neither (is_parenthesis x) (list_any is_parenthesis xs) e in
    rw (other x parts.0) (missing part xs parts.1)

pub not_made_up : (name : List ℕ) → list_any (λ b. b == 40) name ≡ false → is_made_up name ≡ false
unfolding is_made_up
not_made_up name e = rw (missing _ name e, missing _ name e) refl
