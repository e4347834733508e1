-- Which entries are pooled, told by rows, and what their pieces spell.
use Rattle.std.proofs.Common.{◌≡◌, ◌↔◌, ℕ, zero, suc, ◌+◌, ◌<◌, ◌≤◌, ◌&&◌, ◌||◌, Bool, true, false, cond, List, [], ◌∷◌, length, Option, Some, None, slice_get, refl, sym, ap, ◌∙◌, arith, subst, inl, inr}
use Rattle.std.specs.Prelude.{if◌then◌else◌}
use Rattle.std.specs.List.{enumerate_from, list_any}
use Rattle.std.specs.Option.{option_and_then, option_map_or}
use Rattle.std.proofs.lemmas.Bool.{both_ways, cases_lt}
use Rattle.std.proofs.lemmas.Option.{slice_get_past, slice_get_within}
use mathlib.Core.Path.{fun_ext}
use Rattle.dwarf_types.specs.declared.analysis.Analysis.{Analysis}
use Rattle.dwarf_types.specs.declared.entry.Entry.{Entry}
use Rattle.dwarf_types.specs.Sound.{IsParent, IsSound}
use Rattle.dwarf_types.specs.Tree.{ParentsStandBefore}
use Rattle.type_names.specs.Entries.{Text}
use Rattle.type_names.specs.Heads.{Object, derived_name, derived_name_entry, entries_of, is_common, is_head, is_named_head, is_named_head_entry, may_be_derived}
use Rattle.type_names.specs.Objects.{AreInUnits, object_of}
use Rattle.type_names.specs.Onto.{onto}
use Rattle.type_names.specs.Rows.{IsRow}
use Rattle.type_names.specs.Spell.{not_too_long, spelled_by, spelled_within, spelling}
use Rattle.type_names.specs.Tree.{HasMarkedBelow, is_below, is_marked}
use Rattle.type_names.proofs.HeadTests.{row_is}

pub sound_parents : (seen : Analysis) → IsSound seen → ParentsStandBefore seen.entries
sound_parents seen sound k p e at is = (subst (IsParent (sound.entries k e at).unit k) is (sound.entries k e at).parent).1

pub sound_units : (seen : Analysis) → IsSound seen → AreInUnits seen
sound_units seen sound k e at = slice_get_within seen.units e.unit (sound.entries k e at).unit (sound.entries k e at).its_unit

-- ---- rows of heads

named_past : (o : Object) (k : ℕ) → length (entries_of o) ≤ k → is_named_head o k ≡ false
unfolding is_named_head
named_past o k past = ap (λ (e : Option Entry). option_map_or (is_named_head_entry o k) e false) (slice_get_past (entries_of o) k past)

derived_past : (o : Object) (k : ℕ) → length (entries_of o) ≤ k → derived_name o k ≡ None
unfolding derived_name
derived_past o k past = ap (option_and_then (derived_name_entry o k)) (slice_get_past (entries_of o) k past)

pub head_past : (o : Object) (k : ℕ) → length (entries_of o) ≤ k → is_head o k ≡ false
head_past o k past = rw (named_past o k past, derived_past o k past) refl

-- ---- spellings

-- only whether entries may be opened counts
pub spelled_agree : (levels : ℕ) (p q : ℕ → Bool) (entries : List Entry) → ((k : ℕ) → k < length entries → p k ≡ q k) → spelled_within levels p entries ≡ spelled_within levels q entries
unfolding spelled_within
spelled_agree zero p q entries agree = fun_ext (λ k. refl)
spelled_agree (suc levels) p q entries agree = fun_ext (λ k. go k (slice_get entries k) refl (spelled_agree levels p q entries agree)) where
  neither : (b : Bool) → cond {A = Option Text} b None None ≡ None
  neither true = refl
  neither false = refl

  go : (k : ℕ) (o : Option Entry) → slice_get entries k ≡ o → spelled_within levels p entries ≡ spelled_within levels q entries
      → (if p k then option_and_then (spelled_by (spelled_within levels p entries) entries k) (slice_get entries k) else None) ≡ (if q k then option_and_then (spelled_by (spelled_within levels q entries) entries k) (slice_get entries k) else None)
  go k None at same = rw at (neither (p k) ∙ sym (neither (q k)))
  go k (Some e) at same = (λ i. if agree k (slice_get_within entries k e at) i then option_and_then (spelled_by (same i) entries k) (slice_get entries k) else None)

pub onto_empty : (text : Option Text) → onto [] text ≡ option_and_then not_too_long text
unfolding onto
onto_empty None = refl
onto_empty (Some text) = refl

pub derived_is : (seen : Analysis) (live : List Bool) (may_open : ℕ → Bool) (k : ℕ) (e : Entry) → slice_get seen.entries k ≡ Some e → may_be_derived (object_of seen live) k e ≡ true
    → ((i : ℕ) → i < length seen.entries → may_open i ≡ is_common (object_of seen live) i) → spelling may_open seen.entries k ≡ derived_name (object_of seen live) k
unfolding derived_name
derived_is seen live may_open k e at may agree =
    let o : Object = object_of seen live in
    ap (λ (spelled : ℕ → Option Text). option_and_then not_too_long (spelled k)) (spelled_agree 64 may_open (is_common o) seen.entries agree)
    ∙ ap (λ (b : Bool). if b then spelling (is_common o) seen.entries k else None) (sym may)
    ∙ ap (option_and_then (derived_name_entry o k)) (sym at)

-- ---- entries above heads

iff_same : (a b : Bool) → (a ≡ true → b ≡ true) → (b ≡ true → a ≡ true) → a ≡ b
iff_same true b there back = sym (there refl)
iff_same false true there back = absurd (both_ways _ refl (back refl))
iff_same false false there back = refl

or_from : (a b : Bool) → (a ≡ true → ⊥) → (a || b) ≡ true → b ≡ true
or_from true b no_a is = absurd (no_a refl)
or_from false b no_a is = is

pub any_numbers : (p : ℕ → Bool) (es : List Entry) (n : ℕ) → (list_any (λ (e : ℕ × Entry). p e.0) (enumerate_from n es) ≡ true) ↔ ((i : ℕ) × (i < length es) × (p (n + i) ≡ true))
any_numbers p [] n = ((λ is. absurd (both_ways _ refl is)), (λ w. absurd (omega (arith, w.1))))
any_numbers p (e ∷ es) n = go (any_numbers p es (n + 1)) (p n) refl where
  Later : Type 0
  Later = (i : ℕ) × (i < length es) × (p (n + 1 + i) ≡ true)

  go : (list_any (λ (e : ℕ × Entry). p e.0) (enumerate_from (n + 1) es) ≡ true) ↔ Later → (b : Bool) → p n ≡ b
      → ((p n || list_any (λ (e : ℕ × Entry). p e.0) (enumerate_from (n + 1) es)) ≡ true) ↔ ((i : ℕ) × (i < length (e ∷ es)) × (p (n + i) ≡ true))
  go later true here = (
    (λ is. (let first : n + 0 ≡ n = omega arith in (0, omega arith, ap p first ∙ here))),
    (λ w. ap (λ (b : Bool). b || list_any (λ (e : ℕ × Entry). p e.0) (enumerate_from (n + 1) es)) here),
  )
  go later false here = (
    (λ is. (
        let rest = later.0 (ap (λ (b : Bool). b || list_any (λ (e : ℕ × Entry). p e.0) (enumerate_from (n + 1) es)) (sym here) ∙ is) in
        let next : n + 1 + rest.0 ≡ n + suc rest.0 = omega arith in
        (suc rest.0, omega (arith, rest.1), ap p (sym next) ∙ rest.2))),
    (λ w. ap (λ (b : Bool). b || list_any (λ (e : ℕ × Entry). p e.0) (enumerate_from (n + 1) es)) here ∙ later.1 (behind w.0 w.1 w.2)),
  ) where
    behind : (i : ℕ) → i < length (e ∷ es) → p (n + i) ≡ true → Later
    behind zero lt is = (let first : n + 0 ≡ n = omega arith in absurd (both_ways _ here (ap p (sym first) ∙ is)))
    behind (suc i) lt is = (let next : n + 1 + i ≡ n + suc i = omega arith in (i, omega arith, ap p next ∙ is))

and_parts : (a b : Bool) → (a && b) ≡ true → (a ≡ true) × (b ≡ true)
and_parts true b is = (refl, is)
and_parts false b is = absurd (both_ways _ refl is)

and_joined : (a b : Bool) → a ≡ true → b ≡ true → (a && b) ≡ true
and_joined true b s t = t
and_joined false b s t = absurd (both_ways _ refl s)

-- the row of entries below which one is marked, where the marks are those of a test
pub above_is : (entries : List Entry) (test : ℕ → Bool) (marks above : List Bool) (a : ℕ) → IsRow test (length entries) marks → ((k : ℕ) → length entries ≤ k → test k ≡ false)
    → ((is_marked above a ≡ true) ↔ HasMarkedBelow entries marks a) → is_marked above a ≡ list_any (λ (e : ℕ × Entry). test e.0 && is_below entries a e.0) (enumerate_from 0 entries)
above_is entries test marks above a are past told = iff_same (is_marked above a) _ there back where
  each : (list_any (λ (e : ℕ × Entry). test e.0 && is_below entries a e.0) (enumerate_from 0 entries) ≡ true) ↔ ((i : ℕ) × (i < length entries) × ((test (0 + i) && is_below entries a (0 + i)) ≡ true))
  each = any_numbers (λ (k : ℕ). test k && is_below entries a k) entries 0

  inside : (k : ℕ) → is_marked marks k ≡ true → k < length entries
  inside k is = elim (cases_lt k (length entries)) [ inl within ↦ within | inr beyond ↦ absurd (both_ways _ (are.none k beyond) is) ]

  there : is_marked above a ≡ true → list_any (λ (e : ℕ × Entry). test e.0 && is_below entries a e.0) (enumerate_from 0 entries) ≡ true
  there is = (
      let w = told.0 is in
      let here : 0 + w.0 ≡ w.0 = omega arith in
      let passed : test w.0 ≡ true = sym (row_is test (length entries) marks are past w.0) ∙ w.2 in
      each.1 (w.0, inside w.0 w.2, ap (λ (k : ℕ). test k && is_below entries a k) here ∙ and_joined _ _ passed w.1))

  back : list_any (λ (e : ℕ × Entry). test e.0 && is_below entries a e.0) (enumerate_from 0 entries) ≡ true → is_marked above a ≡ true
  back is = (
      let w = each.0 is in
      let here : 0 + w.0 ≡ w.0 = omega arith in
      let parts = and_parts _ _ (ap (λ (k : ℕ). test k && is_below entries a k) (sym here) ∙ w.2) in
      told.1 (w.0, parts.1, row_is test (length entries) marks are past w.0 ∙ parts.0))
