-- Texts by first use, some of which are left out.
use Rattle.std.proofs.Common.{◌≡◌, ℕ, ◌-◌, ◌^◌, ◌≤◌, Bool, true, false, ◌&&◌, List, [], ◌∷◌, ◌++◌, filter, fold, length, if◌then◌else◌, refl, sym, ap, ◌∙◌, arith}
use Rattle.std.specs.List.{list_any}
use Rattle.std.specs.Str.{bytes_eq}
use Rattle.std.proofs.lemmas.Bool.{cond-true, cond-false}
use Rattle.std.proofs.lemmas.List.{append-nil}
use Rattle.std.proofs.lemmas.List.Elements.{filter-append}
use Rattle.std.proofs.lemmas.Map.Views.{any-filter_same}
use Rattle.std.proofs.lemmas.Slice.Eq.{bytes_eq-Decides}
use Rattle.ds_base.specs.Texts.{section_of, with_text}
use Rattle.text_pool.proofs.Places.{is_some-place_of}
use Rattle.ds_base.proofs.TextPlaces.{length-section_of}

module _ (p : List ℕ → Bool) where
  -- a text that is kept is among those that are kept as it is among all
  pub any_kept : (t : List ℕ) (texts : List (List ℕ)) → list_any (bytes_eq t) (filter p texts) ≡ (p t && list_any (bytes_eq t) texts)
  any_kept t texts = any-filter_same (bytes_eq t) p (p t) (λ y e. ap p (sym ((bytes_eq-Decides t y).0 e))) texts

  -- one text more
  pub filter_with : (texts : List (List ℕ)) (t : List ℕ) → filter p (with_text texts t) ≡ (if p t then with_text (filter p texts) t else filter p texts)
  filter_with texts t = rw (is_some-place_of texts t, is_some-place_of (filter p texts) t, any_kept t texts) (by (p t) refl (list_any (bytes_eq t) texts))
    where
      by : (b : Bool) → p t ≡ b → (known : Bool)
          → filter p (if known then texts else texts ++ t ∷ []) ≡ (if b then (if b && known then filter p texts else filter p texts ++ t ∷ []) else filter p texts)
      by true e true = refl
      by true e false = rw (filter-append p texts (t ∷ []), e) refl
      by false e true = refl
      by false e false = rw (filter-append p texts (t ∷ []), e, append-nil) refl

  -- all texts that are used, and those that are kept
  pub filter_fold : (texts uses : List (List ℕ)) → filter p (fold with_text texts uses) ≡ fold with_text (filter p texts) (filter p uses)
  filter_fold texts [] = refl
  filter_fold texts (t ∷ uses) = filter_fold (with_text texts t) uses ∙ by (p t) refl
    where
      by : (b : Bool) → p t ≡ b → fold with_text (filter p (with_text texts t)) (filter p uses) ≡ fold with_text (filter p texts) (if b then t ∷ filter p uses else filter p uses)
      by true e = ap (λ (ts : List (List ℕ)). fold with_text ts (filter p uses)) (filter_with texts t ∙ cond-true (p t) (with_text (filter p texts) t) (filter p texts) e)
      by false e = ap (λ (ts : List (List ℕ)). fold with_text ts (filter p uses)) (filter_with texts t ∙ cond-false (p t) (with_text (filter p texts) t) (filter p texts) e)

  -- the section of some texts is not longer than that of all
  pub section_less : (texts : List (List ℕ)) → length (section_of (filter p texts)) ≤ length (section_of texts)
  section_less [] = omega arith
  section_less (x ∷ texts) = by (p x) (section_less texts)
    where
      by : (b : Bool) → length (section_of (filter p texts)) ≤ length (section_of texts) → length (section_of (if b then x ∷ filter p texts else filter p texts)) ≤ length (section_of (x ∷ texts))
      by true less = omega (arith, length-section_of x (filter p texts), length-section_of x texts, less)
      by false less = omega (arith, length-section_of x texts, less)

  -- where it is too long, so is that of all
  pub long_kept : (uses : List (List ℕ)) → 2 ^ 32 - 1 ≤ length (section_of (fold with_text [] (filter p uses))) → 2 ^ 32 - 1 ≤ length (section_of (fold with_text [] uses))
  long_kept uses long = omega (arith, long, section_less (fold with_text [] uses), ap (λ (texts : List (List ℕ)). length (section_of texts)) (filter_fold [] uses))

-- each text takes a byte at least
pub fewer_than_bytes : (texts : List (List ℕ)) → length texts ≤ length (section_of texts)
fewer_than_bytes [] = omega arith
fewer_than_bytes (x ∷ texts) = omega (arith, length-section_of x texts, fewer_than_bytes texts)
