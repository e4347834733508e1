-- Texts with one more.
use Rattle.std.proofs.Common.{◌≡◌, ℕ, ◌+◌, Bool, true, List, [], ◌∷◌, ◌++◌, length, Option, None, Some, is_some, if◌then◌else◌, refl, ap, ◌∙◌, arith, length-append}
use Rattle.std.specs.Option.{option_or}
use Rattle.std.specs.Str.{bytes_eq}
use Rattle.std.proofs.lemmas.Bool.{cond-false}
use Rattle.std.proofs.lemmas.Grind.{flat_map-append}
use Rattle.std.proofs.lemmas.Slice.Eq.{bytes_eq-Decides}
use Rattle.ds_base.specs.Texts.{ended, section_of, place_of, with_text}
use Rattle.text_pool.proofs.Places.{place_of-push}

-- a text without a place goes last
pub new_last : (texts : List (List ℕ)) (t : List ℕ) → place_of texts t ≡ None → with_text texts t ≡ texts ++ t ∷ []
new_last texts t none = cond-false (is_some (place_of texts t)) texts (texts ++ t ∷ []) (ap is_some none)

pub section-push : (texts : List (List ℕ)) (t : List ℕ) → length (section_of (texts ++ t ∷ [])) ≡ length (section_of texts) + length t + 1
section-push texts t = ap length (flat_map-append ended texts (t ∷ [])) ∙ simp length-append (omega arith)

-- a new text begins at the section's end
pub new_place : (texts : List (List ℕ)) (t : List ℕ) → place_of texts t ≡ None → place_of (with_text texts t) t ≡ Some (length (section_of texts))
new_place texts t none =
    let same : bytes_eq t t ≡ true = (bytes_eq-Decides t t).1 refl in
    ap (λ (more : List (List ℕ)). place_of more t) (new_last texts t none) ∙ place_of-push texts t t
    ∙ ap (λ (o : Option ℕ). option_or o (if bytes_eq t t then Some (length (section_of texts)) else None)) none
    ∙ ap (λ (b : Bool). if b then Some (length (section_of texts)) else None) same
