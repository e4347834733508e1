-- An object of which no unit takes part in merging: nothing is told of its entries.
use Rattle.std.proofs.Common.{◌≡◌, ℕ, zero, suc, ◌≤◌, ◌&&◌, ◌||◌, Bool, true, false, List, [], ◌∷◌, length, map, replicate, Option, Some, None, is_some, slice_get, Result, Ok, Err, refl, sym, ap, ◌∙◌, arith, subst}
use Rattle.std.specs.Prelude.{IfOk, if◌then◌else◌}
use Rattle.std.specs.List.{enumerate_from, list_any}
use Rattle.std.specs.Option.{option_and_then, option_map_or}
use Rattle.std.proofs.lemmas.List.{get_or-replicate, length-replicate}
use Rattle.std.proofs.lemmas.List.Elements.{All-replicate}
use Rattle.dwarf_types.specs.declared.analysis.Analysis.{Analysis}
use Rattle.dwarf_types.specs.declared.entry.Entry.{Entry}
use Rattle.dwarf_types.specs.declared.entry.InUnit.{InUnit}
use Rattle.type_names.specs.declared.pooled.TypeNames.{TypeNames}
use Rattle.type_names.specs.Entries.{Text, is_type, name_of}
use Rattle.type_names.specs.Heads.{Object, derived_name, derived_name_entry, has_one_definition, is_above_head, is_clean, is_common, is_derived_at_top, is_head, is_in_head, is_live, is_named_head, is_named_head_entry, is_pooled, is_reached, takes_part, tells}
use Rattle.type_names.specs.Objects.{object_of}
use Rattle.type_names.specs.Paths.{piece_text, spelled_of}
use Rattle.type_names.specs.Pooled.{AreNames}
use Rattle.type_names.specs.Rows.{IsRow}
use Rattle.type_names.specs.Spell.{spelling}
use Rattle.type_names.specs.TextTable.{AreHeld, AreTexts, text_numbered}
use Rattle.type_names.specs.Tree.{is_below, lineage, parent_of}
use Rattle.type_names.proofs.Subtrees.{none_marked}

-- ---- tests that nothing passes

neither : (a b : Bool) → (a || b) ≡ false → (a ≡ false) × (b ≡ false)
neither true b is = absurd (cc)
neither false b is = (refl, is)

and_false : (b : Bool) → (b && false) ≡ false
and_false true = refl
and_false false = refl

none_at : {A : Type 0} (p : A → Bool) (xs : List A) (k : ℕ) → list_any p xs ≡ false → option_map_or p (slice_get xs k) false ≡ false
none_at p [] k is = refl
none_at p (x ∷ xs) zero is = (neither (p x) (list_any p xs) is).0
none_at p (x ∷ xs) (suc k) is = none_at p xs k (neither (p x) (list_any p xs) is).1

none_of : {A : Type 0} (p : A → Bool) → ((x : A) → p x ≡ false) → (xs : List A) → list_any p xs ≡ false
none_of p never [] = refl
none_of p never (x ∷ xs) = (λ i. never x i || list_any p xs) ∙ none_of p never xs

-- ---- tables where all are missing

abbrev missing : ℕ → List (Option Text)
missing n = replicate n None

all_missing : (n : ℕ) → map (text_numbered [] []) (replicate n 0) ≡ missing n
all_missing zero = refl
all_missing (suc n) = (λ i. None ∷ all_missing n i)

pub view_missing : (bytes ends numbers : List ℕ) (n : ℕ) → bytes ≡ [] → ends ≡ [] → numbers ≡ replicate n 0 → map (text_numbered bytes ends) numbers ≡ missing n
view_missing bytes ends numbers n no_bytes no_ends zeros = (λ i. map (text_numbered (no_bytes i) (no_ends i)) (zeros i)) ∙ all_missing n

pub held_missing : (n : ℕ) → AreHeld [] [] (replicate n 0)
held_missing n = record {
  are_ends = record { inside = λ i lt. absurd (omega arith); last = refl };
  each = All-replicate (λ m. m ≤ 0) n 0 (omega arith);
  few = omega arith;
}

-- ---- the object

module _ (seen : Analysis) (live : List Bool) (none : list_any (λ (unit : InUnit). has_one_definition unit.language) seen.units ≡ false) where
  abbrev o : Object
  o = object_of seen live

  takes_none : (k : ℕ) (e : Entry) → takes_part o k e ≡ false
  takes_none k e = ap (λ (b : Bool). is_live o k && b) (none_at (λ (unit : InUnit). has_one_definition unit.language) seen.units e.unit none) ∙ and_false (is_live o k)

  named_none : (k : ℕ) → is_named_head o k ≡ false
  unfolding is_named_head
  named_none k = go (slice_get seen.entries k) where
    go : (x : Option Entry) → option_map_or (is_named_head_entry o k) x false ≡ false
    go None = refl
    go (Some e) = ap (λ (b : Bool). b && (is_type e.tag && (option_map_or (tells o k) (name_of e) false && (is_reached seen.entries k e && is_clean o k)))) (takes_none k e)

  derived_none : (k : ℕ) → derived_name o k ≡ None
  unfolding derived_name
  derived_none k = go (slice_get seen.entries k) where
    go : (x : Option Entry) → option_and_then (derived_name_entry o k) x ≡ None
    go None = refl
    go (Some e) = ap (λ (b : Bool). if b && (is_derived_at_top seen.entries e && is_clean o k) then spelling (is_common o) seen.entries k else None) (takes_none k e)

  head_none : (k : ℕ) → is_head o k ≡ false
  head_none k = (λ i. named_none k i || is_some (derived_none k i))

  in_head_none : (k : ℕ) → is_in_head o k ≡ false
  in_head_none k = none_of (is_head o) head_none (lineage seen.entries k)

  above_none : (a : ℕ) → is_above_head o a ≡ false
  above_none a =
      ap (λ (b : Bool). is_some (parent_of seen.entries a) && b) (none_of (λ (e : ℕ × Entry). is_head o e.0 && is_below seen.entries a e.0) (λ e. ap (λ (b : Bool). b && is_below seen.entries a e.0) (head_none e.0)) (enumerate_from 0 seen.entries))
      ∙ and_false (is_some (parent_of seen.entries a))

  pooled_none : (k : ℕ) → is_pooled o k ≡ false
  pooled_none k = (λ i. (is_live o k && in_head_none k i) || above_none k i) ∙ ap (λ (b : Bool). b || false) (and_false (is_live o k))

  text_none : (k : ℕ) → piece_text o k ≡ None
  text_none k = ap (λ (b : Bool). if b then option_and_then (spelled_of o k) (slice_get seen.entries k) else None) (in_head_none k)

  row_none : (test : ℕ → Bool) (row : List Bool) → ((k : ℕ) → test k ≡ false) → row ≡ replicate (length seen.entries) false → IsRow test (length seen.entries) row
  row_none test row never is = subst (IsRow test (length seen.entries)) (sym is) (record {
    len = length-replicate (length seen.entries) false;
    each = λ k lt. none_marked (length seen.entries) k ∙ sym (never k);
    none = λ k le. none_marked (length seen.entries) k;
  })

  names_none : (names : TypeNames) → names.pooled ≡ replicate (length seen.entries) false → names.in_heads ≡ replicate (length seen.entries) false → names.spelled ≡ replicate (length seen.entries) None → AreNames o names
  names_none names pooled in_heads spelled = record {
    pooled = row_none (is_pooled o) names.pooled pooled_none pooled;
    in_heads = row_none (is_in_head o) names.in_heads in_head_none in_heads;
    spelled = subst (λ (texts : List (Option Text)). AreTexts texts (piece_text o) (length seen.entries)) (sym spelled) (record {
      len = length-replicate (length seen.entries) None;
      each = λ k lt. get_or-replicate (length seen.entries) k None None lt ∙ sym (text_none k);
    });
  }

  pub told_none : {E : Type 0} (n : ℕ) (result : Result TypeNames E) → n ≡ length seen.entries → IfOk result (λ names. names.pooled ≡ replicate n false) → IfOk result (λ names. names.in_heads ≡ replicate n false)
      → IfOk result (λ names. names.spelled ≡ replicate n None) → IfOk result (λ names. AreNames o names)
  told_none n (Ok names) count pooled in_heads spelled =
      names_none names (pooled ∙ ap (λ (m : ℕ). replicate m false) count) (in_heads ∙ ap (λ (m : ℕ). replicate m false) count) (spelled ∙ ap missing count)
  told_none n (Err e) count pooled in_heads spelled = tt
