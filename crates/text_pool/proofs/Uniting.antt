-- The next text of all, taken from its shard.
use Rattle.std.proofs.Common.{◌≡◌, ℕ, zero, suc, ◌+◌, ◌<◌, ◌≤◌, ◌==◌, Bool, true, false, not, ◌&&◌, ◌||◌, List, [], ◌∷◌, ◌++◌, drop, filter, length, map, slice_get, Option, None, Some, is_some, option_map, if◌then◌else◌, refl, sym, ap, ◌∙◌, arith}
use Rattle.std.specs.List.{list_any, position_or_len}
use Rattle.std.specs.Option.{unwrap_or}
use Rattle.std.specs.Str.{bytes_eq}
use Rattle.std.proofs.lemmas.Bool.{cond-true, cond-false, eq-eqb, ne_eqb}
use Rattle.std.proofs.lemmas.List.{length-map, map_push}
use Rattle.std.proofs.lemmas.Slice.Eq.{bytes_eq-Decides}
use Rattle.std.proofs.lemmas.Option.{get_or_from_slice_get, same_Some, slice_get_within}
use Rattle.ds_base.proofs.Walking.{drop_one}
use Rattle.ds_base.specs.Texts.{place_of, section_of, with_text}
use Rattle.text_pool.specs.declared.shard.Shard.{Shard}
use Rattle.text_pool.specs.Joins.{Takes, place_in}
use Rattle.text_pool.specs.Shards.{numbers_from}
use Rattle.text_pool.proofs.Filters.{any_kept, filter_with}
use Rattle.text_pool.proofs.Keeping.{new_place}
use Rattle.text_pool.proofs.Places.{is_some-place_of, place_kept}
use Rattle.ds_base.proofs.TextPlaces.{place_within}

-- ---- texts that have places

-- all of these have a place among those
abbrev AllIn : List (List ℕ) → List (List ℕ) → Type 0
AllIn texts [] = Unit {0}
AllIn texts (x ∷ xs) = (is_some (place_of texts x) ≡ true) × AllIn texts xs

in_more : (y : List ℕ) (texts xs : List (List ℕ)) → AllIn texts xs → AllIn (y ∷ texts) xs
in_more y texts [] all = tt
in_more y texts (x ∷ xs) all = (by (bytes_eq y x) (place_of texts x) all.0, in_more y texts xs all.1)
  where
    by : (b : Bool) (o : Option ℕ) → is_some o ≡ true → is_some (if b then Some 0 else option_map (λ place. length y + 1 + place) o) ≡ true
    by true o known = refl
    by false None known = absurd cc
    by false (Some n) known = refl

in_themselves : (texts : List (List ℕ)) → AllIn texts texts
in_themselves [] = tt
in_themselves (x ∷ texts) =
    let same : bytes_eq x x ≡ true = (bytes_eq-Decides x x).1 refl in (
      ap (λ (b : Bool). is_some (if b then Some 0 else option_map (λ place. length x + 1 + place) (place_of texts x))) same,
      in_more x texts texts (in_themselves texts),
    )

in_kept : (p : List ℕ → Bool) (texts xs : List (List ℕ)) → AllIn texts xs → AllIn texts (filter p xs)
in_kept p texts [] all = tt
in_kept p texts (x ∷ xs) all = by (p x) (in_kept p texts xs all.1)
  where
    by : (b : Bool) → AllIn texts (filter p xs) → AllIn texts (if b then x ∷ filter p xs else filter p xs)
    by true rest = (all.0, rest)
    by false rest = rest

-- they stand where they stood when a text is added
places_kept : (texts : List (List ℕ)) (t : List ℕ) (xs : List (List ℕ)) → AllIn texts xs → map (place_in (with_text texts t)) xs ≡ map (place_in texts) xs
places_kept texts t [] all = refl
places_kept texts t (x ∷ xs) all =
    ap (λ (n : ℕ). n ∷ map (place_in (with_text texts t)) xs) (by (place_of texts x) refl all.0) ∙ ap (λ (ns : List ℕ). place_in texts x ∷ ns) (places_kept texts t xs all.1)
  where
    by : (o : Option ℕ) → place_of texts x ≡ o → is_some o ≡ true → place_in (with_text texts t) x ≡ place_in texts x
    by None at known = absurd cc
    by (Some n) at known = ap (λ (o : Option ℕ). unwrap_or o 0) (place_kept texts t x n at ∙ sym at)

-- ---- the number of a use

one_further : {X : Type 0} (x : X) (xs : List X) (i : ℕ) → slice_get (x ∷ xs) (1 + i) ≡ slice_get xs i
one_further x xs i = let one : 1 + i ≡ suc i = omega arith in ap (slice_get (x ∷ xs)) one

-- what is made of a text that is among others stands at its number
pub at_number : (f : List ℕ → ℕ) (t : List ℕ) (xs : List (List ℕ)) → list_any (bytes_eq t) xs ≡ true → slice_get (map f xs) (position_or_len (bytes_eq t) xs) ≡ Some (f t)
at_number f t [] among = absurd cc
at_number f t (x ∷ xs) among = by (bytes_eq t x) refl among (at_number f t xs)
  where
    by : (b : Bool) → bytes_eq t x ≡ b → (b || list_any (bytes_eq t) xs) ≡ true → (list_any (bytes_eq t) xs ≡ true → slice_get (map f xs) (position_or_len (bytes_eq t) xs) ≡ Some (f t))
        → slice_get (f x ∷ map f xs) (if not b then 1 + position_or_len (bytes_eq t) xs else 0) ≡ Some (f t)
    by true e among rest = ap (λ (u : List ℕ). Some (f u)) (sym ((bytes_eq-Decides t x).0 e))
    by false e among rest = one_further (f x) (map f xs) (position_or_len (bytes_eq t) xs) ∙ rest among

pub number_within : (t : List ℕ) (xs : List (List ℕ)) → list_any (bytes_eq t) xs ≡ true → position_or_len (bytes_eq t) xs < length xs
number_within t [] among = absurd cc
number_within t (x ∷ xs) among = by (bytes_eq t x) among (number_within t xs)
  where
    by : (b : Bool) → (b || list_any (bytes_eq t) xs) ≡ true → (list_any (bytes_eq t) xs ≡ true → position_or_len (bytes_eq t) xs < length xs)
        → (if not b then 1 + position_or_len (bytes_eq t) xs else 0) < length (x ∷ xs)
    by true among rest = omega arith
    by false among rest = omega (arith, rest among)

pub number_behind : (t : List ℕ) (xs : List (List ℕ)) → list_any (bytes_eq t) xs ≡ false → position_or_len (bytes_eq t) xs ≡ length xs
number_behind t [] none = refl
number_behind t (x ∷ xs) none = by (bytes_eq t x) none (number_behind t xs)
  where
    by : (b : Bool) → (b || list_any (bytes_eq t) xs) ≡ false → (list_any (bytes_eq t) xs ≡ false → position_or_len (bytes_eq t) xs ≡ length xs)
        → (if not b then 1 + position_or_len (bytes_eq t) xs else 0) ≡ length (x ∷ xs)
    by true none rest = absurd cc
    by false none rest = omega (arith, rest none)

at_drop : {X : Type 0} (xs : List X) (i : ℕ) (x : X) (more : List X) → drop i xs ≡ x ∷ more → slice_get xs i ≡ Some x
at_drop [] zero x more cut = absurd cc
at_drop [] (suc i) x more cut = absurd cc
at_drop (y ∷ xs) zero x more cut = let same : y ≡ x = cc in ap (λ (z : _). Some z) same
at_drop (y ∷ xs) (suc i) x more cut = at_drop xs i x more cut

behind_drop : {X : Type 0} (xs : List X) (i : ℕ) (x : X) (more : List X) → drop i xs ≡ x ∷ more → drop (i + 1) xs ≡ more
behind_drop xs i x more cut =
    let one : drop i xs ≡ x ∷ drop (i + 1) xs = drop_one xs i x (slice_get_within xs i x (at_drop xs i x more cut)) (sym (get_or_from_slice_get xs i x x (at_drop xs i x more cut))) in
    let same : x ∷ drop (i + 1) xs ≡ x ∷ more = sym one ∙ cut in
    ap (drop 1) same

-- ---- one text more

module _ (p : List ℕ → Bool) (texts : List (List ℕ)) (t : List ℕ) (own : p t ≡ true) where
  known_there : list_any (bytes_eq t) (filter p texts) ≡ is_some (place_of texts t)
  known_there = any_kept p t texts ∙ ap (λ (b : Bool). b && list_any (bytes_eq t) texts) own ∙ sym (is_some-place_of texts t)

  -- the places of the texts that are kept, with that of a new one
  places_more : place_of texts t ≡ None → map (place_in (with_text texts t)) (filter p (with_text texts t)) ≡ map (place_in texts) (filter p texts) ++ length (section_of texts) ∷ []
  places_more none =
      let here = filter_with p texts t ∙ cond-true (p t) (with_text (filter p texts) t) (filter p texts) own in
      let unknown : is_some (place_of (filter p texts) t) ≡ false = is_some-place_of (filter p texts) t ∙ known_there ∙ ap is_some none in
      let last : filter p (with_text texts t) ≡ filter p texts ++ t ∷ [] = here ∙ cond-false (is_some (place_of (filter p texts) t)) (filter p texts) (filter p texts ++ t ∷ []) unknown in
      ap (map (place_in (with_text texts t))) last ∙ map_push (place_in (with_text texts t)) (filter p texts) t
      ∙ ap (λ (ns : List ℕ). ns ++ place_in (with_text texts t) t ∷ []) (places_kept texts t (filter p texts) (in_kept p texts texts (in_themselves texts)))
      ∙ ap (λ (o : Option ℕ). map (place_in texts) (filter p texts) ++ unwrap_or o 0 ∷ []) (new_place texts t none)

-- the next use of a shard
module _ (p : List ℕ → Bool) (texts rest : List (List ℕ)) (t : List ℕ) (old new : Shard) (end place : ℕ) (own : p t ≡ true)
    (left : drop old.taken old.numbers.items ≡ numbers_from (filter p texts) (filter p (t ∷ rest))) (placed : old.places.items ≡ map (place_in texts) (filter p texts))
    (takes : Takes end old new place) (is_end : end ≡ length (section_of texts)) where
  abbrev number : ℕ
  number = position_or_len (bytes_eq t) (filter p texts)

  cut : drop old.taken old.numbers.items ≡ number ∷ numbers_from (with_text (filter p texts) t) (filter p rest)
  cut = left ∙ ap (λ (b : Bool). numbers_from (filter p texts) (if b then t ∷ filter p rest else filter p rest)) own

  at : slice_get old.numbers.items old.taken ≡ Some number
  at = at_drop old.numbers.items old.taken number _ cut

  as_many : length old.places.items ≡ length (filter p texts)
  as_many = ap (λ (ns : List ℕ). length ns) placed ∙ length-map (filter p texts) (place_in texts)

  among : (n : ℕ) → place_of texts t ≡ Some n → list_any (bytes_eq t) (filter p texts) ≡ true
  among n there = known_there p texts t own ∙ ap is_some there

  unknown : place_of texts t ≡ None → list_any (bytes_eq t) (filter p texts) ≡ false
  unknown none = known_there p texts t own ∙ ap is_some none

  lt : (n : ℕ) → place_of texts t ≡ Some n → number < length old.places.items
  lt n there = omega (arith, as_many, number_within t (filter p texts) (among n there))

  le : place_of texts t ≡ None → length old.places.items ≤ number
  le none = omega (arith, as_many, number_behind t (filter p texts) (unknown none))

  stays_put : (n : ℕ) → place_of texts t ≡ Some n → with_text texts t ≡ texts
  stays_put n there = cond-true (is_some (place_of texts t)) texts (texts ++ t ∷ []) (ap is_some there)

  known_place : (n : ℕ) → place_of texts t ≡ Some n → place ≡ n
  known_place n there =
      same_Some _ _ (sym ((takes.known number at (lt n there)).1) ∙ ap (λ (ns : List ℕ). slice_get ns number) placed ∙ at_number (place_in texts) t (filter p texts) (among n there))
      ∙ ap (λ (o : Option ℕ). unwrap_or o 0) there

  pub told : place_of (with_text texts t) t ≡ Some place
  told = by (place_of texts t) refl
    where
      by : (o : Option ℕ) → place_of texts t ≡ o → place_of (with_text texts t) t ≡ Some place
      by None none = new_place texts t none ∙ ap (λ (n : ℕ). Some n) (sym is_end ∙ sym ((takes.fresh number at (le none)).1))
      by (Some n) there = place_kept texts t t n there ∙ ap (λ (m : ℕ). Some m) (sym (known_place n there))

  pub is_new : (place == end) ≡ not (is_some (place_of texts t))
  is_new = by (place_of texts t) refl
    where
      by : (o : Option ℕ) → place_of texts t ≡ o → (place == end) ≡ not (is_some (place_of texts t))
      by None none = eq-eqb place end ((takes.fresh number at (le none)).1) ∙ sym (ap (λ (o : Option ℕ). not (is_some o)) none)
      by (Some n) there =
          let within : n + length t + 1 ≤ length (section_of texts) = place_within texts t n there in
          ne_eqb place end (λ (same : place ≡ end). absurd (omega (arith, within, same, is_end, known_place n there))) ∙ sym (ap (λ (o : Option ℕ). not (is_some o)) there)

  pub left_then : drop new.taken new.numbers.items ≡ numbers_from (filter p (with_text texts t)) (filter p rest)
  left_then =
      ap (λ (ns : List ℕ). drop new.taken ns) takes.numbers ∙ ap (λ (k : ℕ). drop k old.numbers.items) takes.taken ∙ behind_drop old.numbers.items old.taken number _ cut
      ∙ ap (λ (ts : List (List ℕ)). numbers_from ts (filter p rest)) (sym (filter_with p texts t ∙ cond-true (p t) (with_text (filter p texts) t) (filter p texts) own))

  pub placed_then : new.places.items ≡ map (place_in (with_text texts t)) (filter p (with_text texts t))
  placed_then = by (place_of texts t) refl
    where
      by : (o : Option ℕ) → place_of texts t ≡ o → new.places.items ≡ map (place_in (with_text texts t)) (filter p (with_text texts t))
      by None none =
          (takes.fresh number at (le none)).0 ∙ ap (λ (ns : List ℕ). ns ++ end ∷ []) placed ∙ ap (λ (n : ℕ). map (place_in texts) (filter p texts) ++ n ∷ []) is_end ∙ sym (places_more p texts t own none)
      by (Some n) there =
          (takes.known number at (lt n there)).0 ∙ placed ∙ ap (λ (ts : List (List ℕ)). map (place_in ts) (filter p ts)) (sym (stays_put n there))

-- a shard whose text it isn't
module _ (p : List ℕ → Bool) (texts rest : List (List ℕ)) (t : List ℕ) (it : Shard) (other : p t ≡ false) where
  same_kept : filter p (with_text texts t) ≡ filter p texts
  same_kept = filter_with p texts t ∙ cond-false (p t) (with_text (filter p texts) t) (filter p texts) other

  pub left_still : drop it.taken it.numbers.items ≡ numbers_from (filter p texts) (filter p (t ∷ rest)) → drop it.taken it.numbers.items ≡ numbers_from (filter p (with_text texts t)) (filter p rest)
  left_still left =
      left ∙ ap (λ (b : Bool). numbers_from (filter p texts) (if b then t ∷ filter p rest else filter p rest)) other ∙ ap (λ (ts : List (List ℕ)). numbers_from ts (filter p rest)) (sym same_kept)

  pub placed_still : it.places.items ≡ map (place_in texts) (filter p texts) → it.places.items ≡ map (place_in (with_text texts t)) (filter p (with_text texts t))
  placed_still placed =
      placed ∙ sym (ap (map (place_in (with_text texts t))) same_kept ∙ places_kept texts t (filter p texts) (in_kept p texts texts (in_themselves texts)))
