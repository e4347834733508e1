-- The symbols of a written image stand in it, with their names.
use Rattle.std.proofs.Common.{◌≡◌, ℕ, ◌+◌, ◌<◌, ◌^◌, not, Bool, true, false, List, [], ◌∷◌, ◌++◌, length, map, filter, drop, All, inl, inr, refl, sym, ap, ◌∙◌, append_assoc, length-append, if◌then◌else◌, arith}
use Rattle.std.specs.List.{AllByRecursion}
use Rattle.std.proofs.lemmas.Bool.{eqb-true}
use Rattle.std.proofs.lemmas.List.{drop_at}
use Rattle.std.proofs.lemmas.List.Elements.{All-head, All-tail}
use Rattle.ds_base.specs.Texts.{ended, section_of}
use Rattle.macho_read.specs.declared.image.Symbol.{Symbol}
use Rattle.macho_read.specs.ImageSpelling.{IsSymbol, Stands, nlist_fields}
use Rattle.macho_read.specs.Spelling.{AllFit}
use Rattle.macho_read.specs.Sound.{IsSoundSymbol}
use Rattle.macho_write.specs.SymbolTable.{is_empty, strings_bytes, with_places}
use Rattle.image_laws.specs.Fitting.{FitsFields}

abbrev names : List Symbol → List (List ℕ)
names symbols = filter (λ name. not (is_empty name)) (map (λ s. s.name) symbols)

empty_is : (name : List ℕ) → is_empty name ≡ true → name ≡ []
empty_is [] e = refl
empty_is (b ∷ name) e = absurd (differ (eqb-true (length (b ∷ name)) 0 e))
  where
    differ : length (b ∷ name) ≡ 0 → ⊥
    differ e = omega (arith, e)

-- names that are left, behind what stands before them in the strings
named : (strings front : List ℕ) (symbols : List Symbol) (at : ℕ) → strings ≡ front ++ section_of (names symbols) → length front ≡ at → 0 < at → length strings < 2 ^ 32 → All FitsFields symbols → All IsSoundSymbol symbols
    → AllByRecursion (IsSymbol strings) (with_places at symbols)
named strings front [] at whole there some small fit sound = tt
named strings front (s ∷ symbols) at whole there some small fit sound =
    by (is_empty s.name) refl whole (named strings front symbols at) (named strings (front ++ ended s.name) symbols (at + length s.name + 1))
  where
    own : FitsFields s
    own = All-head FitsFields s symbols fit

    fields : (place : ℕ) → place < 2 ^ 32 → AllFit (nlist_fields (place, s))
    fields place lt = let f = own in (omega (arith, lt), (omega (arith, f.kind), (omega (arith, f.sect), (omega (arith, f.desc), (omega (arith, f.value), tt)))))

    rest_fit : All FitsFields symbols
    rest_fit = All-tail FitsFields s symbols fit

    rest_sound : All IsSoundSymbol symbols
    rest_sound = All-tail IsSoundSymbol s symbols sound

    by : (b : Bool) → is_empty s.name ≡ b → strings ≡ front ++ section_of (if not b then s.name ∷ names symbols else names symbols)
        → (strings ≡ front ++ section_of (names symbols) → length front ≡ at → 0 < at → length strings < 2 ^ 32 → All FitsFields symbols → All IsSoundSymbol symbols → AllByRecursion (IsSymbol strings) (with_places at symbols))
        → (strings ≡ (front ++ ended s.name) ++ section_of (names symbols) → length (front ++ ended s.name) ≡ at + length s.name + 1 → 0 < at + length s.name + 1 → length strings < 2 ^ 32 → All FitsFields symbols → All IsSoundSymbol symbols
        → AllByRecursion (IsSymbol strings) (with_places (at + length s.name + 1) symbols))
        → AllByRecursion (IsSymbol strings) (if b then (0, s) ∷ with_places at symbols else (at, s) ∷ with_places (at + length s.name + 1) symbols)
    by true e whole same next = (record { fit = fields 0 (omega arith); name = inl (refl, empty_is s.name e) }, same whole there some small rest_fit rest_sound)
    by false e whole same next =
        let behind : List ℕ = section_of (names symbols) in
        let split : ended s.name ++ section_of (names symbols) ≡ s.name ++ 0 ∷ section_of (names symbols) = append_assoc s.name (0 ∷ []) (section_of (names symbols)) in
        let stands : Stands strings at s.name = record {
          more = section_of (names symbols);
          behind_0 = some;
          no_zero = All-head IsSoundSymbol s symbols sound;
          is = ap (drop at) whole ∙ drop_at front (ended s.name ++ section_of (names symbols)) at there ∙ split;
        } in
        let inside : at < 2 ^ 32 = omega (arith, there, ap length whole, length-append front (ended s.name ++ section_of (names symbols)), small) in (
          record { fit = fields at inside; name = inr stands },
          next (whole ∙ sym (append_assoc front (ended s.name) (section_of (names symbols)))) (omega (arith, length-append front (ended s.name), length-append s.name (0 ∷ []), there)) (omega arith) small rest_fit rest_sound,
        )

pub all_named : (symbols : List Symbol) → All FitsFields symbols → All IsSoundSymbol symbols → length (strings_bytes symbols) < 2 ^ 32 → AllByRecursion (IsSymbol (strings_bytes symbols)) (with_places 1 symbols)
all_named symbols fit sound small = named (strings_bytes symbols) (0 ∷ []) symbols 1 refl refl (omega arith) small fit sound
