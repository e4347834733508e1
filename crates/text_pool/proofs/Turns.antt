-- Loops over texts: one more of a list.
use Rattle.std.proofs.Common.{◌≡◌, ℕ, ◌+◌, ◌-◌, ◌^◌, ◌<◌, ◌≤◌, Bool, true, false, List, [], ◌∷◌, ◌++◌, take, drop, filter, fold, get_or, length, map, slice_get, Some, if◌then◌else◌, sym, ap, ◌∙◌, append_assoc, arith}
use Rattle.std.specs.List.{flat_map}
use Rattle.std.proofs.lemmas.Grind.{flat_map-append}
use Rattle.std.proofs.lemmas.List.{append-nil, drop_all, take-append-drop}
use Rattle.std.proofs.lemmas.List.Elements.{filter-append}
use Rattle.std.proofs.lemmas.Option.{get_or_from_slice_get, slice_get_within}
use Rattle.ds_base.proofs.Walking.{drop_one, take_one}
use Rattle.ds_base.specs.Texts.{section_of, with_text}
use Rattle.text_pool.proofs.Growing.{long_before}

module _ (names : List (List ℕ)) (i : ℕ) (t : List ℕ) (at : slice_get names i ≡ Some t) where
  pub taken : take (i + 1) names ≡ take i names ++ t ∷ []
  taken = take_one names i t (slice_get_within names i t at) (sym (get_or_from_slice_get names i t t at))

  pub left : drop i names ≡ t ∷ drop (i + 1) names
  left = drop_one names i t (slice_get_within names i t at) (sym (get_or_from_slice_get names i t t at))

  module _ (p : List ℕ → Bool) where
    one_of : filter p (take (i + 1) names) ≡ filter p (take i names) ++ (if p t then t ∷ [] else [])
    one_of = ap (filter p) taken ∙ filter-append p (take i names) (t ∷ [])

    -- a text that is kept, behind others
    pub taken_in : (uses : List (List ℕ)) → p t ≡ true → uses ++ filter p (take i names) ++ t ∷ [] ≡ uses ++ filter p (take (i + 1) names)
    taken_in uses is =
        let one : filter p (take (i + 1) names) ≡ filter p (take i names) ++ t ∷ [] = one_of ∙ ap (λ (b : Bool). filter p (take i names) ++ (if b then t ∷ [] else [])) is in
        append_assoc uses (filter p (take i names)) (t ∷ []) ∙ ap (λ (more : List (List ℕ)). uses ++ more) (sym one)

    -- and one that is left out
    pub taken_out : p t ≡ false → filter p (take i names) ≡ filter p (take (i + 1) names)
    taken_out is =
        sym (one_of ∙ ap (λ (b : Bool). filter p (take i names) ++ (if b then t ∷ [] else [])) is ∙ append-nil (filter p (take i names)))

    -- too long with the texts so far, and so with all
    pub long_so_far : (uses : List (List ℕ)) → 2 ^ 32 - 1 ≤ length (section_of (fold with_text [] (uses ++ filter p (take (i + 1) names)))) → 2 ^ 32 - 1 ≤ length (section_of (fold with_text [] (uses ++ filter p names)))
    long_so_far uses long =
        let more : List (List ℕ) = filter p (drop (i + 1) names) in
        let all : (uses ++ filter p (take (i + 1) names)) ++ more ≡ uses ++ filter p names =
        append_assoc uses (filter p (take (i + 1) names)) more
        ∙ ap (λ (them : List (List ℕ)). uses ++ them) (sym (filter-append p (take (i + 1) names) (drop (i + 1) names)) ∙ ap (filter p) (take-append-drop (i + 1) names)) in
        omega (arith, long_before (uses ++ filter p (take (i + 1) names)) more long, ap (λ (them : List (List ℕ)). length (section_of (fold with_text [] them))) all)

module _ {X : Type 0} (f : X → List (List ℕ)) (p : List ℕ → Bool) (parts : List X) (i : ℕ) (x : X) (lt : i < length parts) (is : x ≡ get_or parts i x) where
  -- the texts of one part more
  pub part_taken : filter p (flat_map f (take i parts)) ++ filter p (f x) ≡ filter p (flat_map f (take (i + 1) parts))
  part_taken =
      let own : flat_map f (x ∷ []) ≡ f x = append-nil (f x) in
      let one : flat_map f (take (i + 1) parts) ≡ flat_map f (take i parts) ++ f x =
      ap (flat_map f) (take_one parts i x lt is) ∙ flat_map-append f (take i parts) (x ∷ []) ∙ ap (λ (more : List (List ℕ)). flat_map f (take i parts) ++ more) own in
      sym (ap (filter p) one ∙ filter-append p (flat_map f (take i parts)) (f x))

  pub long_parts : 2 ^ 32 - 1 ≤ length (section_of (fold with_text [] (filter p (flat_map f (take i parts)) ++ filter p (f x)))) → 2 ^ 32 - 1 ≤ length (section_of (fold with_text [] (filter p (flat_map f parts))))
  long_parts long =
      let before : List (List ℕ) = filter p (flat_map f (take (i + 1) parts)) in
      let more : List (List ℕ) = filter p (flat_map f (drop (i + 1) parts)) in
      let all : before ++ more ≡ filter p (flat_map f parts) =
      sym (filter-append p (flat_map f (take (i + 1) parts)) (flat_map f (drop (i + 1) parts)))
      ∙ ap (filter p) (sym (flat_map-append f (take (i + 1) parts) (drop (i + 1) parts)) ∙ ap (flat_map f) (take-append-drop (i + 1) parts)) in
      omega (arith, long_before before more (rw (sym part_taken) long), ap (λ (them : List (List ℕ)). length (section_of (fold with_text [] them))) all)

-- what is made of the items so far, and of those that are left
pub map_more : {X Y : Type 0} (f : X → Y) (xs : List X) (i : ℕ) (x : X) (out new all : List Y) → drop i xs ≡ x ∷ drop (i + 1) xs → new ≡ out ++ f x ∷ [] → out ++ map f (drop i xs) ≡ all → new ++ map f (drop (i + 1) xs) ≡ all
map_more {X} {Y} f xs i x out new all cut is so_far =
    ap (λ (front : List Y). front ++ map f (drop (i + 1) xs)) is ∙ append_assoc out (f x ∷ []) (map f (drop (i + 1) xs)) ∙ ap (λ (ys : List X). out ++ map f ys) (sym cut) ∙ so_far

pub map_done : {X Y : Type 0} (f : X → Y) (xs : List X) (i : ℕ) (out all : List Y) → length xs ≤ i → out ++ map f (drop i xs) ≡ all → out ≡ all
map_done {X} {Y} f xs i out all end so_far = sym (append-nil out) ∙ sym (ap (λ (ys : List X). out ++ map f ys) (drop_all i xs end)) ∙ so_far
