-- Uses of source files that are marked: putting the file of one once more changes nothing.
use Rattle.std.proofs.Common.{◌≡◌, ◌⊎◌, ℕ, zero, suc, Bool, true, false, ◌||◌, List, [], ◌∷◌, ◌++◌, map, replicate, length, Option, Some, None, if◌then◌else◌, slice_get, get_or, set, inl, inr, refl, sym, ap, subst, ◌∙◌}
use Rattle.std.specs.List.{list_any}
use Rattle.std.specs.Option.{option_and_then, option_map_or}
use Rattle.std.proofs.lemmas.Bool.{both_ways}
use Rattle.dwarf_types.specs.declared.analysis.Analysis.{Analysis}
use Rattle.dwarf_types.specs.declared.entry.InUnit.{InUnit}
use Rattle.dwarf_types.specs.declared.lines.OutLines.{OutLines}
use Rattle.indexmap.specs.IndexSet.{insert_key}
use Rattle.link_graph.specs.PoolFiles.{SourceFile, file_in, same_file}
use Rattle.clone_units.specs.declared.noted_uses.FileUse.{FileUse}
use Rattle.clone_units.specs.Noted.{AreNoted, is_noted, is_noted_in, marks_of_object, marks_of_unit, with_noted, with_noted_in}
use Rattle.clone_units.specs.Sourced.{file_of_use, with_named}
use Rattle.clone_units.proofs.Pooled.{same_file_laws}

-- ---- what was put

-- what is put last is among them
any_last : (file : SourceFile) (files : List SourceFile) → list_any (same_file file) (files ++ file ∷ []) ≡ true
any_last file [] = rw (same_file_laws.refl file) refl
any_last file (first ∷ files) = rw (any_last file files) (by (same_file file first))
  where
    by : (b : Bool) → (b || true) ≡ true
    by true = refl
    by false = refl

-- what was put is there
pub put_again : (files : List SourceFile) (named : Option SourceFile) → with_named (with_named files named) named ≡ with_named files named
put_again files None = refl
put_again files (Some file) = by (list_any (same_file file) files) refl
  where
    once_more : Bool → List SourceFile
    once_more known = if known then files else files ++ file ∷ []

    by : (known : Bool) → list_any (same_file file) files ≡ known → (if list_any (same_file file) (once_more known) then once_more known else once_more known ++ file ∷ []) ≡ once_more known
    by true e = rw e refl
    by false e = rw (any_last file files) refl

any_longer : (test : SourceFile → Bool) (files more : List SourceFile) → list_any test files ≡ true → list_any test (files ++ more) ≡ true
any_longer test [] more is = absurd (both_ways _ refl is)
any_longer test (first ∷ files) more is = by (test first) is (any_longer test files more)
  where
    by : (b : Bool) → (b || list_any test files) ≡ true → (list_any test files ≡ true → list_any test (files ++ more) ≡ true) → (b || list_any test (files ++ more)) ≡ true
    by true it rest = refl
    by false it rest = rest it

not_longer : (files : List SourceFile) (file : SourceFile) → files ++ file ∷ [] ≡ files → ⊥
not_longer [] file is = absurd cc
not_longer (first ∷ files) file is = not_longer files file (ap tail is)
  where
    tail : List SourceFile → List SourceFile
    tail [] = []
    tail (x ∷ xs) = xs

-- what is there stays there
put_kept : (files : List SourceFile) (named : Option SourceFile) (more : List SourceFile) → with_named files named ≡ files → with_named (files ++ more) named ≡ files ++ more
put_kept files None more is = refl
put_kept files (Some file) more is = by (list_any (same_file file) files) refl is
  where
    by : (known : Bool) → list_any (same_file file) files ≡ known → (if known then files else files ++ file ∷ []) ≡ files → (if list_any (same_file file) (files ++ more) then files ++ more else (files ++ more) ++ file ∷ []) ≡ files ++ more
    by true e it = rw (any_longer (same_file file) files more e) refl
    by false e it = absurd (not_longer files file it)

-- the file of a use in its object's own tables
pub use_in : (all : List Analysis) (own : Analysis) (named : FileUse) → slice_get all named.object ≡ Some own → file_of_use all named ≡ file_in own named.unit named.number
use_in all own named is = ap (option_and_then (λ (seen : Analysis). file_in seen named.unit named.number)) is

-- ---- marks

-- a place of a list with one item set
got : {A : Type 0} (xs : List A) (i j : ℕ) (v d : A) → ((j ≡ i) × (get_or (set xs i v) j d ≡ v)) ⊎ (get_or (set xs i v) j d ≡ get_or xs j d)
got [] i j v d = inr refl
got (x ∷ xs) zero zero v d = inl (refl, refl)
got (x ∷ xs) zero (suc j) v d = inr refl
got (x ∷ xs) (suc i) zero v d = inr refl
got (x ∷ xs) (suc i) (suc j) v d = elim (got xs i j v d) [
  | inl same ↦ inl (ap (λ (n : ℕ). suc n) same.0, same.1)
  | inr other ↦ inr other
]

-- a use that is marked behind a mark was marked, or is the one that is marked now
marked_now : (marks : List (List (List Bool))) (now named : FileUse) → is_noted (with_noted marks now) named ≡ true → (named ≡ now) ⊎ (is_noted marks named ≡ true)
marked_now marks now named is = elim (got marks now.object named.object (with_noted_in rows now.unit now.number) []) [
  | inr other ↦ inr (ap (λ (found : List (List Bool)). is_noted_in found named.unit named.number) (sym other) ∙ is)
  | inl object ↦ (
      let here : get_or (get_or (with_noted_in rows now.unit now.number) named.unit []) named.number false ≡ true = ap (λ (found : List (List Bool)). is_noted_in found named.unit named.number) (sym object.1) ∙ is in
      let own : get_or marks named.object [] ≡ rows = ap (λ (n : ℕ). get_or marks n []) object.0 in
      elim (got rows now.unit named.unit (set row now.number true) []) [
        | inr other ↦ inr (ap (λ (found : List (List Bool)). is_noted_in found named.unit named.number) own ∙ ap (λ (found : List Bool). get_or found named.number false) (sym other) ∙ here)
        | inl unit ↦ (
            let there : get_or (set row now.number true) named.number false ≡ true = ap (λ (found : List Bool). get_or found named.number false) (sym unit.1) ∙ here in
            let its : get_or rows named.unit [] ≡ row = ap (λ (n : ℕ). get_or rows n []) unit.0 in
            elim (got row now.number named.number true false) [
              | inr other ↦ inr (ap (λ (found : List (List Bool)). is_noted_in found named.unit named.number) own ∙ ap (λ (found : List Bool). get_or found named.number false) its ∙ sym other ∙ there)
              | inl number ↦ inl (λ i. record { object = object.0 i; unit = unit.0 i; number = number.0 i })
            ])
      ])
] where
  rows : List (List Bool)
  rows = get_or marks now.object []

  row : List Bool
  row = get_or rows now.unit []

-- one use more is marked, whose file is there
pub noted_more : (all : List Analysis) (marks : List (List (List Bool))) (files : List SourceFile) (now : FileUse) → with_named files (file_of_use all now) ≡ files → AreNoted all marks files → AreNoted all (with_noted marks now) files
noted_more all marks files now put so_far named is = elim (marked_now marks now named is) [
  | inl same ↦ subst (λ (u : FileUse). with_named files (file_of_use all u) ≡ files) (sym same) put
  | inr before ↦ so_far named before
]

-- one file more is put
pub noted_kept : (all : List Analysis) (marks : List (List (List Bool))) (files : List SourceFile) (file : SourceFile) → AreNoted all marks files → AreNoted all marks (insert_key same_file files file)
noted_kept all marks files file so_far named is = by (list_any (same_file file) files)
  where
    by : (known : Bool) → with_named (if known then files else files ++ file ∷ []) (file_of_use all named) ≡ (if known then files else files ++ file ∷ [])
    by true = so_far named is
    by false = put_kept files (file_of_use all named) (file ∷ []) (so_far named is)

-- ---- no marks

false_past : (count number : ℕ) → get_or (replicate count false ++ false ∷ []) number false ≡ false
false_past zero zero = refl
false_past zero (suc number) = refl
false_past (suc count) zero = refl
false_past (suc count) (suc number) = false_past count number

unit_false : (unit : InUnit) (number : ℕ) → get_or (marks_of_unit unit) number false ≡ false
unit_false unit number = by unit.lines
  where
    by : (lines : Option OutLines) → get_or (option_map_or (λ lines. replicate (length lines.files) false ++ false ∷ []) lines []) number false ≡ false
    by None = refl
    by (Some lines) = false_past (length lines.files) number

units_false : (units : List InUnit) (unit number : ℕ) → is_noted_in (map marks_of_unit units) unit number ≡ false
units_false [] unit number = refl
units_false (first ∷ units) zero number = unit_false first number
units_false (first ∷ units) (suc unit) number = units_false units unit number

all_false : (all : List Analysis) (object unit number : ℕ) → is_noted_in (get_or (map marks_of_object all) object []) unit number ≡ false
all_false [] object unit number = refl
all_false (first ∷ all) zero unit number = units_false first.units unit number
all_false (first ∷ all) (suc object) unit number = all_false all object unit number

pub noted_none : (all : List Analysis) → AreNoted all (map marks_of_object all) []
noted_none all named is = absurd (both_ways _ (all_false all named.object named.unit named.number) is)
