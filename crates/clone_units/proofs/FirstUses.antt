-- Items by first use: one at a time, and all at once; and under a view that tells the same.
use Rattle.std.proofs.Common.{◌≡◌, ℕ, ◌+◌, Bool, true, false, not, ◌||◌, ◌&&◌, List, [], ◌∷◌, ◌++◌, filter, map, if◌then◌else◌, refl, sym, ap, ◌∙◌, append_assoc}
use Rattle.std.specs.Cmp.{IsEquivalence}
use Rattle.std.specs.List.{list_any, position, prefix_len}
use Rattle.std.proofs.lemmas.List.{append-nil, length-map, map_push}
use Rattle.std.proofs.lemmas.List.Elements.{filter-append}
use Rattle.std.proofs.lemmas.Map.Views.{any-filter_same}
use Rattle.indexmap.specs.IndexSet.{insert_all, insert_key}
use Rattle.ds_base.specs.FirstUse.{once}

module _ {A : Type 0} (same : A → A → Bool) (laws : IsEquivalence same) where
  abbrev other : A → A → Bool
  other x y = not (same x y)

  -- what is like t is kept or goes as t does
  list_any-others : (x t : A) (xs : List A) → list_any (same t) (filter (other x) xs) ≡ (other x t && list_any (same t) xs)
  list_any-others x t xs = any-filter_same (same t) (other x) (other x t) (λ y e. ap not (laws.symm x y ∙ sym (laws.congr t y x e) ∙ laws.symm t x)) xs

  -- an item that comes first keeps its like out, whether before or after one more
  first-with : (x : A) (xs : List A) (t : A) → x ∷ filter (other x) (insert_key same xs t) ≡ insert_key same (x ∷ filter (other x) xs) t
  first-with x xs t = rw (list_any-others x t xs, laws.symm t x) (by (same x t) refl (list_any (same t) xs))
    where
      by : (first : Bool) → same x t ≡ first → (known : Bool)
          → x ∷ filter (other x) (if known then xs else xs ++ t ∷ [])
          ≡ (if first || (not first && known) then x ∷ filter (other x) xs else x ∷ filter (other x) xs ++ t ∷ [])
      by true e true = refl
      by false e true = refl
      by true e false = rw (filter-append (other x) xs (t ∷ []), e, append-nil) refl
      by false e false = rw (filter-append (other x) xs (t ∷ []), e) refl

  pub once-push : (xs : List A) (t : A) → once same (xs ++ t ∷ []) ≡ insert_key same (once same xs) t
  once-push [] t = refl
  once-push (x ∷ xs) t = ap (λ (others : List A). x ∷ filter (other x) others) (once-push xs t) ∙ first-with x (once same xs) t

  once-append : (before uses : List A) → insert_all same (once same before) uses ≡ once same (before ++ uses)
  once-append before [] = sym (ap (once same) (append-nil before))
  once-append before (t ∷ uses) =
      ap (λ (xs : List A). insert_all same xs uses) (sym (once-push before t)) ∙ once-append (before ++ t ∷ []) uses ∙ ap (once same) (append_assoc before (t ∷ []) uses)

  -- putting item after item leaves each once
  pub all_once : (uses : List A) → insert_all same [] uses ≡ once same uses
  all_once uses = once-append [] uses

-- ---- under a view

module _ {A B : Type 0} (f : A → B) where
  list_any-map : (test : B → Bool) (xs : List A) → list_any test (map f xs) ≡ list_any (λ x. test (f x)) xs
  list_any-map test [] = refl
  list_any-map test (x ∷ xs) = ap (λ (b : Bool). test (f x) || b) (list_any-map test xs)

  -- keys that are told apart as what they stand for
  pub insert_key-map : (same : B → B → Bool) (xs : List A) (k : A) → map f (insert_key (λ x y. same (f x) (f y)) xs k) ≡ insert_key same (map f xs) (f k)
  insert_key-map same xs k = rw (list_any-map (same (f k)) xs) (by (list_any (λ x. same (f k) (f x)) xs))
    where
      by : (known : Bool) → map f (if known then xs else xs ++ k ∷ []) ≡ (if known then map f xs else map f xs ++ f k ∷ [])
      by true = refl
      by false = map_push f xs k

  prefix_len-map : (test : B → Bool) (xs : List A) → prefix_len test (map f xs) ≡ prefix_len (λ x. test (f x)) xs
  prefix_len-map test [] = refl
  prefix_len-map test (x ∷ xs) = ap (λ (n : ℕ). if test (f x) then 1 + n else 0) (prefix_len-map test xs)

  pub position-map : (test : B → Bool) (xs : List A) → position test (map f xs) ≡ position (λ x. test (f x)) xs
  position-map test xs = rw (prefix_len-map (λ y. not (test y)) xs, length-map xs f) refl
