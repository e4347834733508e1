-- What a book is made of: fit objects, and their names.
use Rattle.std.proofs.Common.{suc, zero, ◌≡◌, inl, inr, ℕ, ◌+◌, ◌<◌, Bool, List, [], ◌∷◌, ◌++◌, length, take, Option, Some, None, slice_get, sym, ap, ◌∙◌, arith, refl, append-nil}
use Rattle.std.specs.List.{enumerate_from, flat_map}
use Rattle.std.specs.Option.{option_and_then}
use Rattle.std.proofs.lemmas.Grind.{flat_map-append}
use Rattle.std.proofs.lemmas.List.{length-take-le, take_more}
use Rattle.std.proofs.lemmas.Option.{get_or_from_slice_get, none-some, same_Some, slice_get_cases, slice_get_within}
use Rattle.dwarf_types.specs.declared.analysis.Analysis.{Analysis}
use Rattle.dwarf_types.specs.declared.entry.Entry.{Entry}
use Rattle.dwarf_types.specs.Live.{its_parent}
use Rattle.dwarf_types.specs.Sound.{IsSound}
use Rattle.odr_names.specs.Numbered.{objects_of}
use Rattle.odr_names.specs.Entering.{AreLiveParents}
use Rattle.odr_names.specs.Making.{IsFit, IsLiveRow}
use Rattle.type_names.specs.Heads.{Object}
use Rattle.type_names.specs.Names.{Named, names, names_in}
use Rattle.type_names.specs.Objects.{object_of}
use Rattle.type_names.specs.Tree.{parent_of}
use Rattle.type_names.proofs.HeadTests.{enumerated_more}
use Rattle.type_names.proofs.Pooling.{sound_parents}

-- ---- live entries

its_entry : (entries : List Entry) (k p : ℕ) → parent_of entries k ≡ Some p → (e : Entry) × (slice_get entries k ≡ Some e) × (e.parent ≡ Some p)
its_entry entries k p up = go (slice_get entries k) refl where
  go : (x : Option Entry) → slice_get entries k ≡ x → (e : Entry) × (slice_get entries k ≡ Some e) × (e.parent ≡ Some p)
  go None none = absurd (none-some p (sym (ap (option_and_then (λ (e : Entry). e.parent)) none) ∙ up))
  go (Some e) some = (e, some, sym (ap (option_and_then (λ (e : Entry). e.parent)) some) ∙ up)

-- an entry needs its parent
live_parents : (a : Analysis) (row : List Bool) → IsLiveRow a.entries row → AreLiveParents (object_of a row)
live_parents a row is = λ k p lives up. (
    let e = its_entry a.entries k p up in
    let it = (is.exact k).0 lives in
    (is.exact p).1 (suc it.0, (k, it.1, its_parent e.0 e.1 e.2)))

pub object_fit : (a : Analysis) (row : List Bool) → IsSound a → IsLiveRow a.entries row → IsFit (object_of a row)
object_fit a row sound is = record { few = sound.few; parents = sound_parents a sound; live_parents = live_parents a row is }

-- ---- objects

pub length_objects : (seen : List Analysis) (live : List (List Bool)) → length live ≡ length seen → length (objects_of seen live) ≡ length seen
length_objects [] live is = refl
length_objects (s ∷ seen) [] is = absurd (omega (arith, is))
length_objects (s ∷ seen) (l ∷ live) is = (let rest = length_objects seen live (omega (arith, is)) in omega (arith, rest))

pub object_made : (seen : List Analysis) (live : List (List Bool)) (i : ℕ) (a : Analysis) (row : List Bool) → slice_get seen i ≡ Some a → slice_get live i ≡ Some row → slice_get (objects_of seen live) i ≡ Some (object_of a row)
object_made [] live i a row at_seen at_live = absurd (none-some a at_seen)
object_made (s ∷ seen) [] i a row at_seen at_live = absurd (none-some row at_live)
object_made (s ∷ seen) (l ∷ live) zero a row at_seen at_live =
    let first = same_Some s a at_seen in
    let second = same_Some l row at_live in
    (λ j. Some (object_of (first j) (second j)))
object_made (s ∷ seen) (l ∷ live) (suc i) a row at_seen at_live = object_made seen live i a row at_seen at_live

pub object_at : (objects : List Object) (i : ℕ) → i < length objects → (o : Object) × (slice_get objects i ≡ Some o)
object_at objects i within = elim (slice_get_cases objects i).1 [ inl some ↦ (some.0, some.2) | inr past ↦ absurd (omega (arith, past.0)) ]

-- ---- names

pub one_object : (objects : List Object) (i : ℕ) (o : Object) → slice_get objects i ≡ Some o → names (take (i + 1) objects) ≡ names (take i objects) ++ names_in (i + 1) o
one_object objects i o at =
    let f : ℕ × Object → List Named = λ o. names_in o.0 o.1 in
    let within = slice_get_within objects i o at in
    let one : take (i + 1) objects ≡ take i objects ++ o ∷ [] = take_more objects i o within ∙ ap (λ (x : Object). take i objects ++ x ∷ []) (get_or_from_slice_get objects i o o at) in
    let len : 1 + length (take i objects) ≡ i + 1 = omega (arith, length-take-le i objects (omega arith)) in
    ap (λ (os : List Object). names os) one
    ∙ ap (flat_map f) (enumerated_more 1 (take i objects) o)
    ∙ flat_map-append f (enumerate_from 1 (take i objects)) ((1 + length (take i objects), o) ∷ [])
    ∙ ap (λ (m : ℕ). names (take i objects) ++ (names_in m o ++ [])) len
    ∙ ap (λ (xs : List Named). names (take i objects) ++ xs) (append-nil (names_in (i + 1) o))
