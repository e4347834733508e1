-- The texts of drafts, joined.
use Rattle.std.proofs.Common.{◌≡◌, ℕ, ◌-◌, ◌^◌, ◌≤◌, List, [], ◌∷◌, ◌++◌, length, fold, map, Result, Ok, Err, IfOk, refl, ap, ◌∙◌}
use Rattle.std.specs.List.{flat_map}
use Rattle.ds_base.specs.Texts.{section_of, with_text}
use Rattle.text_pool.specs.declared.error.TextError.{TextError}
use Rattle.text_pool.specs.declared.error.TextError.TheVariants as text_errors
use Rattle.text_pool.specs.declared.joining.Joined.{Joined}
use Rattle.text_pool.specs.Joins.{all_once, joined, place_in}
use Rattle.unit_draft.specs.declared.unit.Draft.{Draft}
use Rattle.layout.specs.declared.text.Texts.{Texts}
use Rattle.layout.specs.declared.text.TextsOf.{TextsOf}
use Rattle.layout.specs.Pass.{MakesTexts, names_in, texts_by, texts_for}

abbrev texts_of : List ℕ → List (List ℕ) → Texts
texts_of section places = record { section = section; places = places }

flat_names : (of : TextsOf) (drafts : List Draft) → flat_map (λ texts. texts) (map (names_in of) drafts) ≡ flat_map (names_in of) drafts
flat_names of [] = refl
flat_names of (draft ∷ drafts) = ap (λ (more : List (List ℕ)). names_in of draft ++ more) (flat_names of drafts)

map_names : (of : TextsOf) (f : List (List ℕ) → List ℕ) (drafts : List Draft) → map f (map (names_in of) drafts) ≡ map (λ draft. f (names_in of draft)) drafts
map_names of f [] = refl
map_names of f (draft ∷ drafts) = ap (λ (more : List (List ℕ)). f (names_in of draft) ∷ more) (map_names of f drafts)

module _ (of : TextsOf) (drafts : List Draft) (parts : List (List (List ℕ))) (are : parts ≡ map (names_in of) drafts) where
  once_by : all_once parts ≡ texts_by of drafts
  once_by = ap all_once are ∙ ap (fold with_text []) (flat_names of drafts)

  -- they are the texts of the drafts
  pub texts_are : (it : Joined) → it ≡ joined parts → texts_of it.section it.places ≡ texts_for of drafts
  texts_are it is =
      ap (λ (j : Joined). texts_of j.section j.places) is
      ∙ ap (λ (texts : List (List ℕ)). texts_of (section_of texts) (map (map (place_in texts)) parts)) once_by
      ∙ ap (texts_of (section_of (texts_by of drafts))) (ap (map (map (place_in (texts_by of drafts)))) are ∙ map_names of (map (place_in (texts_by of drafts))) drafts)

  pub long_are : 2 ^ 32 - 1 ≤ length (section_of (all_once parts)) → 2 ^ 32 - 1 ≤ length (section_of (texts_by of drafts))
  long_are long = rw once_by at long

-- what making them answers
pub makes_texts : (of : TextsOf) (drafts seen : List Draft) → seen ≡ drafts → (r : Result Texts TextError) → IfOk r (λ texts. texts ≡ texts_for of seen)
    → (r ≡ Err text_errors.Long → 2 ^ 32 - 1 ≤ length (section_of (texts_by of seen))) → MakesTexts of drafts r
makes_texts of drafts seen same (Ok texts) ok long = ok ∙ ap (texts_for of) same
makes_texts of drafts seen same (Err text_errors.Long) ok long = rw same at long refl
makes_texts of drafts seen same (Err text_errors.NoMemory) ok long = tt
