-- Where texts stand in a string section.
use Rattle.std.proofs.Common.{◌≡◌, ◌↔◌, ℕ, ◌+◌, Bool, true, false, ◌||◌, List, [], ◌∷◌, ◌++◌, length, Option, None, Some, Contains, IsSome, is_some, option_map, if◌then◌else◌, refl, sym, ◌∙◌}
use Rattle.std.specs.List.{list_any}
use Rattle.std.specs.Option.{option_or}
use Rattle.std.specs.Str.{bytes_eq}
use Rattle.std.specs.Cmp.Lexicographic.{nat_list_eq_equiv}
use Rattle.std.proofs.lemmas.Bool.{cond_both}
use Rattle.std.proofs.lemmas.Map.Views.{Contains-from_any, list_any-from_Contains}
use Rattle.std.proofs.lemmas.Slice.Eq.{bytes_eq-Decides}
use Rattle.ds_base.specs.Texts.{section_of, place_of, with_text}
use Rattle.ds_base.proofs.TextPlaces.{length-section_of}

-- in a list of one more text, a text stands where it stood, or the new one behind all
pub place_of-push : (texts : List (List ℕ)) (t u : List ℕ)
    → place_of (texts ++ t ∷ []) u ≡ option_or (place_of texts u) (if bytes_eq t u then Some (length (section_of texts)) else None)
place_of-push [] t u = refl
place_of-push (x ∷ texts) t u = rw (length-section_of x texts, place_of-push texts t u) (by (bytes_eq x u) (place_of texts u) (bytes_eq t u))
  where
    by : (first : Bool) (rest : Option ℕ) (new : Bool)
        → (if first then Some 0 else option_map (λ place. length x + 1 + place) (option_or rest (if new then Some (length (section_of texts)) else None)))
        ≡ option_or (if first then Some 0 else option_map (λ place. length x + 1 + place) rest) (if new then Some (length x + 1 + length (section_of texts)) else None)
    by true rest new = refl
    by false (Some n) new = refl
    by false None true = refl
    by false None false = refl

-- a text stays where it stands, whatever is added
pub place_kept : (texts : List (List ℕ)) (t u : List ℕ) (n : ℕ) → place_of texts u ≡ Some n → place_of (with_text texts t) u ≡ Some n
place_kept texts t u n at =
    cond_both (is_some (place_of texts t)) texts (texts ++ t ∷ []) (λ more. place_of more u ≡ Some n) (λ _. at) (λ _. rw (place_of-push texts t u, at) refl)

pub is_some-place_of : (texts : List (List ℕ)) (t : List ℕ) → is_some (place_of texts t) ≡ list_any (bytes_eq t) texts
is_some-place_of [] t = refl
is_some-place_of (x ∷ texts) t = rw (← is_some-place_of texts t, nat_list_eq_equiv.symm t x) (by (bytes_eq x t) (place_of texts t))
  where
    by : (first : Bool) (rest : Option ℕ) → is_some (if first then Some 0 else option_map (λ place. length x + 1 + place) rest) ≡ (first || is_some rest)
    by true rest = refl
    by false (Some n) = refl
    by false None = refl

-- a text has a place exactly where the list contains it
pub place_found : (texts : List (List ℕ)) (t : List ℕ) → IsSome (place_of texts t) ↔ Contains texts t
place_found texts t = (
  λ found. Contains-from_any (λ x y. (bytes_eq-Decides x y).0) t texts (sym (is_some-place_of texts t) ∙ found),
  λ among. is_some-place_of texts t ∙ list_any-from_Contains nat_list_eq_equiv t texts among,
)
