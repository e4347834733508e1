-- Where the texts of a string section stand.
use Rattle.std.proofs.Common.{◌≡◌, ℕ, ◌+◌, ◌≤◌, ◌<◌, Bool, true, false, List, [], ◌∷◌, ◌++◌, length, take, drop, Option, None, Some, option_map, if◌then◌else◌, refl, sym, ap, ◌∙◌, arith, length-append, append_assoc}
use Rattle.std.specs.List.{All}
use Rattle.std.specs.Str.{bytes_eq}
use Rattle.std.proofs.lemmas.Bool.{le-ltb}
use Rattle.std.proofs.lemmas.List.{take_at, drop_at, drop-drop, length_push, take-append-drop}
use Rattle.std.proofs.lemmas.List.Elements.{All-head, All-tail}
use Rattle.std.proofs.lemmas.Option.{same_Some}
use Rattle.std.proofs.lemmas.Slice.Eq.{bytes_eq-Decides}
use Rattle.ds_base.specs.Reading.{index_below, text_of}
use Rattle.ds_base.specs.Texts.{ended, section_of, place_of}

pub length-section_of : (x : List ℕ) (texts : List (List ℕ)) → length (section_of (x ∷ texts)) ≡ length x + 1 + length (section_of texts)
length-section_of x texts = simp length-append (omega arith)

-- a text that has a place ends, with its zero byte, within the section
pub place_within : (texts : List (List ℕ)) (t : List ℕ) (n : ℕ) → place_of texts t ≡ Some n → n + length t + 1 ≤ length (section_of texts)
place_within [] t n at = cc
place_within (x ∷ texts) t n at = rw (length-section_of x texts) (by (bytes_eq x t) refl (place_of texts t) (place_within texts t) at)
  where
    by : (first : Bool) → bytes_eq x t ≡ first → (rest : Option ℕ) → ((m : ℕ) → rest ≡ Some m → m + length t + 1 ≤ length (section_of texts))
        → (if first then Some 0 else option_map (λ place. length x + 1 + place) rest) ≡ Some n → n + length t + 1 ≤ length x + 1 + length (section_of texts)
    by true e rest within at =
        let same : length x ≡ length t = ap length ((bytes_eq-Decides x t).0 e) in
        let none : 0 ≡ n = same_Some 0 n at in
        omega arith
    by false e None within at = cc
    by false e (Some m) within at =
        let is : length x + 1 + m ≡ n = same_Some _ _ at in
        omega (arith, within m refl)

-- and stands there
pub text_at_place : (texts : List (List ℕ)) (t : List ℕ) (n : ℕ) → place_of texts t ≡ Some n → take (length t + 1) (drop n (section_of texts)) ≡ ended t
text_at_place [] t n at = cc
text_at_place (x ∷ texts) t n at = by (bytes_eq x t) refl (place_of texts t) (text_at_place texts t) at
  where
    by : (first : Bool) → bytes_eq x t ≡ first → (rest : Option ℕ) → ((m : ℕ) → rest ≡ Some m → take (length t + 1) (drop m (section_of texts)) ≡ ended t)
        → (if first then Some 0 else option_map (λ place. length x + 1 + place) rest) ≡ Some n → take (length t + 1) (drop n (ended x ++ section_of texts)) ≡ ended t
    by true e rest there at =
        rw (← same_Some 0 n at, (bytes_eq-Decides x t).0 e) (take_at (ended t) (section_of texts) (length t + 1) (length_push t 0))
    by false e None there at = cc
    by false e (Some m) there at =
        rw (← same_Some (length x + 1 + m) n at, ← drop-drop m (length x + 1) (ended x ++ section_of texts), drop_at (ended x) (section_of texts) (length x + 1) (length_push x 0)) (there m refl)

-- the first zero byte is the one behind a text
ends_there : (text more : List ℕ) → All (λ b. 0 < b) text → index_below 1 (text ++ 0 ∷ more) ≡ Some (length text)
ends_there [] more some = refl
ends_there (b ∷ text) more some =
    let first : 0 < b = All-head (λ b. 0 < b) b text some in
    rw (le-ltb b 1 (omega arith), ends_there text more (All-tail (λ b. 0 < b) b text some)) refl

-- so it is found there
pub text_found : (texts : List (List ℕ)) (text : List ℕ) (place : ℕ) → All (λ b. 0 < b) text → place_of texts text ≡ Some place → text_of (section_of texts) place ≡ Some text
unfolding text_of
text_found texts text place some at =
    let tail : List ℕ = drop place (section_of texts) in
    let more : List ℕ = drop (length text + 1) tail in
    let is : tail ≡ text ++ 0 ∷ more =
    sym (take-append-drop (length text + 1) tail) ∙ ap (λ (front : List ℕ). front ++ more) (text_at_place texts text place at) ∙ append_assoc text (0 ∷ []) more in
    ap (λ (bytes : List ℕ). option_map (λ n. take n bytes) (index_below 1 bytes)) is
    ∙ ap (λ (found : Option ℕ). option_map (λ n. take n (text ++ 0 ∷ more)) found) (ends_there text more some)
    ∙ ap (λ (it : List ℕ). Some it) (take_at text (0 ∷ more) (length text) refl)
