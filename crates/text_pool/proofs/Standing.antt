-- Each text of each part stands at its place among all.
use Rattle.std.proofs.Common.{◌≡◌, ℕ, zero, suc, ◌+◌, List, [], ◌∷◌, Contains, IsSome, Option, None, Some, length, take, drop, flat_map, refl, sym, subst, arith}
use Rattle.std.proofs.lemmas.List.Elements.{Contains-append_left, Contains-append_right}
use Rattle.ds_base.specs.Texts.{ended, place_of, section_of}
use Rattle.text_pool.specs.Joins.{all_once, joined, place_in}
use Rattle.text_pool.proofs.FirstUses.{once-append, place_of-once}
use Rattle.ds_base.proofs.TextPlaces.{text_at_place}

-- a text that has a place stands there
at_place : (all : List (List ℕ)) (text : List ℕ) → IsSome (place_of all text) → take (length text + 1) (drop (place_in all text) (section_of all)) ≡ ended text
at_place all text found = by (place_of all text) refl found
  where
    by : (place : Option ℕ) → place_of all text ≡ place → IsSome place → take (length text + 1) (drop (place_in all text) (section_of all)) ≡ ended text
    by None e some = absurd cc
    by (Some n) e some = rw e (text_at_place all text n e)

-- what a part uses is used
among : (parts : List (List (List ℕ))) (texts : List (List ℕ)) (text : List ℕ) → Contains parts texts → Contains texts text → Contains (flat_map (λ texts. texts) parts) text
among [] texts text part used = absurd (omega (arith, part.1))
among (p ∷ parts) texts text (zero, lt, is) used = Contains-append_left p (flat_map (λ texts. texts) parts) text (subst (λ (ts : List (List ℕ)). Contains ts text) (sym is) used)
among (p ∷ parts) texts text (suc i, lt, is) used = Contains-append_right p (flat_map (λ texts. texts) parts) text (among parts texts text (i, omega (arith, lt), is) used)

pub stands : (parts : List (List (List ℕ))) (texts : List (List ℕ)) (text : List ℕ) → Contains parts texts → Contains texts text
    → take (length text + 1) (drop (place_in (all_once parts) text) (joined parts).section) ≡ ended text
stands parts texts text part used =
    let uses = flat_map (λ (texts : List (List ℕ)). texts) parts in
    at_place (all_once parts) text (subst (λ (all : List (List ℕ)). IsSome (place_of all text)) (sym (once-append [] uses)) ((place_of-once uses text).1 (among parts texts text part used)))
