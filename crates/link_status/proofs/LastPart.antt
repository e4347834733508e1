-- The part of a path behind its last slash.
use Rattle.std.proofs.Common.{◌≡◌, ◌≢◌, ℕ, suc, ◌<◌, Bool, true, false, ◌||◌, List, [], ◌∷◌, ◌++◌, length, take, drop, get_or, refl, sym, ap, ◌∙◌, arith, lit<}
use Rattle.std.specs.List.{list_any}
use Rattle.std.specs.Str.{NoCharPasses}
use Rattle.std.specs.Str.Pattern.{HasCharAt}
use Rattle.std.proofs.lemmas.Bool.{ne_eqb}
use Rattle.std.proofs.lemmas.List.{take-append-drop}
use Rattle.std.proofs.lemmas.Str.Pattern.{NoCharPasses-char, drop_at_char}
use Rattle.link_status.specs.Names.{is_slash, last_part}

abbrev HasNoSlash : List ℕ → Type 0
HasNoSlash bs = (i : ℕ) → i < length bs → get_or bs i 0 ≢ 0x2f

behind_first : (b : ℕ) (bs : List ℕ) → HasNoSlash (b ∷ bs) → HasNoSlash bs
behind_first b bs h i lt = h (suc i) (omega arith)

no_slash : (bs : List ℕ) → HasNoSlash bs → list_any is_slash bs ≡ false
no_slash [] h = refl
no_slash (b ∷ bs) h = rw (ne_eqb b 0x2f (h 0 (omega arith)), no_slash bs (behind_first b bs h)) refl

or_true : (b : Bool) → (b || true) ≡ true
or_true true = refl
or_true false = refl

some_slash : (xs ys : List ℕ) → list_any is_slash (xs ++ 0x2f ∷ ys) ≡ true
some_slash [] ys = refl
some_slash (x ∷ xs) ys = rw (some_slash xs ys) (or_true (is_slash x))

whole : (bs : List ℕ) → HasNoSlash bs → bs ≡ last_part bs
whole [] h = refl
whole (b ∷ bs) h = rw (no_slash bs (behind_first b bs h), ne_eqb b 0x2f (h 0 (omega arith))) refl

behind : (xs ys : List ℕ) → HasNoSlash ys → last_part (xs ++ 0x2f ∷ ys) ≡ ys
behind [] ys h = rw (no_slash ys h) refl
behind (x ∷ xs) ys h = rw (some_slash xs ys) (behind xs ys h)

pub no_slash_found : (path : List ℕ) → NoCharPasses is_slash path → path ≡ last_part path
no_slash_found path none = whole path (λ i lt. NoCharPasses-char 0x2f path i none (lit< tt) lt)

pub slash_found : (path part : List ℕ) (i j : ℕ) → NoCharPasses is_slash (drop j path) → HasCharAt 0x2f path i j → part ≡ drop j path → part ≡ last_part path
slash_found path part i j none here is =
    let parts : take i path ++ 0x2f ∷ drop j path ≡ path = ap (λ (bs : List ℕ). take i path ++ bs) (sym (drop_at_char 0x2f path i j here (lit< tt))) ∙ take-append-drop i path in
    is ∙ sym (behind (take i path) (drop j path) (λ k lt. NoCharPasses-char 0x2f (drop j path) k none (lit< tt) lt)) ∙ ap last_part parts
