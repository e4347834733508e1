-- Texts by first use: one at a time, and all at once.
use Rattle.std.proofs.Common.{◌≡◌, ◌↔◌, ℕ, Bool, true, false, not, ◌||◌, ◌&&◌, List, [], ◌∷◌, ◌++◌, filter, fold, if◌then◌else◌, Contains, IsSome, is_some, refl, sym, ap, ◌∙◌, append_assoc}
use Rattle.std.specs.List.{list_any}
use Rattle.std.specs.Str.{bytes_eq}
use Rattle.std.specs.Cmp.Lexicographic.{nat_list_eq_equiv}
use Rattle.std.proofs.lemmas.List.{append-nil}
use Rattle.std.proofs.lemmas.List.Elements.{filter-append}
use Rattle.std.proofs.lemmas.Map.Views.{any-filter_same}
use Rattle.std.proofs.lemmas.Slice.Eq.{bytes_eq-Decides}
use Rattle.ds_base.specs.FirstUse.{once}
use Rattle.ds_base.specs.Texts.{place_of, with_text}
use Rattle.text_pool.proofs.Places.{is_some-place_of, place_found}

abbrev other : List ℕ → List ℕ → Bool
other x y = not (bytes_eq x y)

-- what is like t is kept or goes as t does
list_any-others : (x t : List ℕ) (texts : List (List ℕ)) → list_any (bytes_eq t) (filter (other x) texts) ≡ (other x t && list_any (bytes_eq t) texts)
list_any-others x t texts =
    any-filter_same (bytes_eq t) (other x) (other x t) (λ y e. ap (other x) (sym ((bytes_eq-Decides t y).0 e))) texts

-- a text that comes first keeps its like out, whether before or after one more
first-with_text : (x : List ℕ) (texts : List (List ℕ)) (t : List ℕ) → x ∷ filter (other x) (with_text texts t) ≡ with_text (x ∷ filter (other x) texts) t
first-with_text x texts t =
    rw (is_some-place_of texts t, is_some-place_of (x ∷ filter (other x) texts) t, list_any-others x t texts, nat_list_eq_equiv.symm t x)
    (by (bytes_eq x t) refl (list_any (bytes_eq t) texts))
  where
    by : (same : Bool) → bytes_eq x t ≡ same → (known : Bool)
        → x ∷ filter (other x) (if known then texts else texts ++ t ∷ [])
        ≡ (if same || (not same && known) then x ∷ filter (other x) texts else x ∷ filter (other x) texts ++ t ∷ [])
    by true e true = refl
    by false e true = refl
    by true e false = rw (filter-append (other x) texts (t ∷ []), e, append-nil) refl
    by false e false = rw (filter-append (other x) texts (t ∷ []), e) refl

pub once-push : (texts : List (List ℕ)) (t : List ℕ) → once bytes_eq (texts ++ t ∷ []) ≡ with_text (once bytes_eq texts) t
once-push [] t = refl
once-push (x ∷ texts) t = ap (λ others. x ∷ filter (other x) others) (once-push texts t) ∙ first-with_text x (once bytes_eq texts) t

-- adding text after text to those that were used
pub once-append : (before uses : List (List ℕ)) → fold with_text (once bytes_eq before) uses ≡ once bytes_eq (before ++ uses)
once-append before [] = sym (ap (once bytes_eq) (append-nil before))
once-append before (t ∷ uses) =
    ap (λ texts. fold with_text texts uses) (sym (once-push before t)) ∙ once-append (before ++ t ∷ []) uses ∙ ap (once bytes_eq) (append_assoc before (t ∷ []) uses)

list_any-once : (uses : List (List ℕ)) (t : List ℕ) → list_any (bytes_eq t) (once bytes_eq uses) ≡ list_any (bytes_eq t) uses
list_any-once [] t = refl
list_any-once (x ∷ uses) t =
    rw (list_any-others x t (once bytes_eq uses), list_any-once uses t, nat_list_eq_equiv.symm t x) (by (bytes_eq x t) (list_any (bytes_eq t) uses))
  where
    by : (same known : Bool) → (same || (not same && known)) ≡ (same || known)
    by true known = refl
    by false known = refl

-- exactly the texts that are used have a place
pub place_of-once : (uses : List (List ℕ)) (t : List ℕ) → IsSome (place_of (once bytes_eq uses) t) ↔ Contains uses t
place_of-once uses t =
    let same : is_some (place_of (once bytes_eq uses) t) ≡ is_some (place_of uses t) =
    is_some-place_of (once bytes_eq uses) t ∙ list_any-once uses t ∙ sym (is_some-place_of uses t) in
    (λ found. (place_found uses t).0 (sym same ∙ found), λ among. same ∙ (place_found uses t).1 among)
