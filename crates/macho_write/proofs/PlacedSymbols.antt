-- The symbols that are written, and their names, over all symbols.
use Rattle.std.proofs.Common.{◌≡◌, ℕ, ◌+◌, ◌*◌, ◌||◌, Bool, true, false, not, List, [], ◌∷◌, ◌++◌, length, map, filter, if◌then◌else◌, arith, refl, ap, ◌∙◌, length-append}
use Rattle.std.specs.List.{flat_map}
use Rattle.ds_base.specs.Texts.{ended, section_of}
use Rattle.macho_read.specs.declared.image.Symbol.{Symbol}
use Rattle.macho_read.specs.ImageSpelling.{nlist_bytes}
use Rattle.macho_write.specs.SymbolTable.{chosen, entries_from, is_empty, is_left_out, strings_bytes, symbols_bytes, text_of, with_places}

entries_are : (stabs : Bool) (symbols : List Symbol) (place : ℕ) → flat_map nlist_bytes (with_places place (filter (λ s. not (is_left_out stabs s)) symbols)) ≡ entries_from stabs place symbols
entries_are stabs [] place = refl
entries_are stabs (s ∷ symbols) place = by (is_left_out stabs s) (filter (λ it. not (is_left_out stabs it)) symbols) (entries_are stabs symbols)
  where
    named : (empty : Bool) (rest : List Symbol) → ((p : ℕ) → flat_map nlist_bytes (with_places p rest) ≡ entries_from stabs p symbols)
        → flat_map nlist_bytes (if empty then (0, s) ∷ with_places place rest else (place, s) ∷ with_places (place + length s.name + 1) rest)
        ≡ nlist_bytes ((if empty then 0 else place), s) ++ entries_from stabs (place + length (if empty then [] else ended s.name)) symbols
    named true rest h =
        let same : place ≡ place + 0 = omega arith in
        ap (λ (more : List ℕ). nlist_bytes (0, s) ++ more) (h place ∙ ap (λ (p : ℕ). entries_from stabs p symbols) same)
    named false rest h =
        let same : place + length s.name + 1 ≡ place + length (ended s.name) = omega (arith, length-append s.name (0 ∷ [])) in
        ap (λ (more : List ℕ). nlist_bytes (place, s) ++ more) (h (place + length s.name + 1) ∙ ap (λ (p : ℕ). entries_from stabs p symbols) same)

    by : (stab : Bool) (rest : List Symbol) → ((p : ℕ) → flat_map nlist_bytes (with_places p rest) ≡ entries_from stabs p symbols)
        → flat_map nlist_bytes (with_places place (if not stab then s ∷ rest else rest))
        ≡ (if stab then [] else nlist_bytes ((if is_empty s.name then 0 else place), s)) ++ entries_from stabs (place + length (if stab || is_empty s.name then [] else ended s.name)) symbols
    by true rest h =
        let same : place ≡ place + 0 = omega arith in
        h place ∙ ap (λ (p : ℕ). entries_from stabs p symbols) same
    by false rest h = named (is_empty s.name) rest h

texts_are : (stabs : Bool) (symbols : List Symbol) → section_of (filter (λ name. not (is_empty name)) (map (λ s. s.name) (filter (λ s. not (is_left_out stabs s)) symbols))) ≡ flat_map (text_of stabs) symbols
texts_are stabs [] = refl
texts_are stabs (s ∷ symbols) = by (is_left_out stabs s) (filter (λ it. not (is_left_out stabs it)) symbols) (texts_are stabs symbols)
  where
    named : (empty : Bool) (rest : List (List ℕ)) → section_of rest ≡ flat_map (text_of stabs) symbols → section_of (if not empty then s.name ∷ rest else rest) ≡ (if empty then [] else ended s.name) ++ flat_map (text_of stabs) symbols
    named true rest h = h
    named false rest h = ap (λ (more : List ℕ). ended s.name ++ more) h

    by : (stab : Bool) (rest : List Symbol) → section_of (filter (λ name. not (is_empty name)) (map (λ it. it.name) rest)) ≡ flat_map (text_of stabs) symbols
        → section_of (filter (λ name. not (is_empty name)) (map (λ it. it.name) (if not stab then s ∷ rest else rest))) ≡ (if stab || is_empty s.name then [] else ended s.name) ++ flat_map (text_of stabs) symbols
    by true rest h = h
    by false rest h = named (is_empty s.name) (filter (λ name. not (is_empty name)) (map (λ it. it.name) rest)) h

chosen_is : (stabs : Bool) (symbols : List Symbol) → chosen stabs symbols ≡ filter (λ s. not (is_left_out stabs s)) symbols
chosen_is true [] = refl
chosen_is true (s ∷ symbols) = ap (λ (more : List Symbol). s ∷ more) (chosen_is true symbols)
chosen_is false symbols = refl

-- the table, symbol by symbol
pub table_is : (stabs : Bool) (symbols : List Symbol) → symbols_bytes (chosen stabs symbols) ≡ entries_from stabs 1 symbols
table_is stabs symbols = ap symbols_bytes (chosen_is stabs symbols) ∙ entries_are stabs symbols 1

-- and the strings
pub strings_are : (stabs : Bool) (symbols : List Symbol) → strings_bytes (chosen stabs symbols) ≡ 0 ∷ flat_map (text_of stabs) symbols
strings_are stabs symbols = ap strings_bytes (chosen_is stabs symbols) ∙ ap (λ (texts : List ℕ). 0 ∷ texts) (texts_are stabs symbols)

length-nlists : (symbols : List (ℕ × Symbol)) → length (flat_map nlist_bytes symbols) ≡ 16 * length symbols
length-nlists [] = refl
length-nlists (s ∷ symbols) = let h = length-nlists symbols in omega (arith, h)

pub length-placed : (symbols : List Symbol) (place : ℕ) → length (with_places place symbols) ≡ length symbols
length-placed [] place = refl
length-placed (s ∷ symbols) place = by (is_empty s.name) (length-placed symbols)
  where
    by : (empty : Bool) → ((p : ℕ) → length (with_places p symbols) ≡ length symbols)
        → length (if empty then (0, s) ∷ with_places place symbols else (place, s) ∷ with_places (place + length s.name + 1) symbols) ≡ length (s ∷ symbols)
    by true h = let e = h place in omega (arith, e)
    by false h = let e = h (place + length s.name + 1) in omega (arith, e)

-- each record has sixteen bytes
pub length-symbols : (symbols : List Symbol) → length (symbols_bytes symbols) ≡ 16 * length symbols
length-symbols symbols = omega (arith, length-nlists (with_places 1 symbols), length-placed symbols 1)
