-- Entries that are made one after the other as those of one unit are sound.
use Rattle.std.proofs.Common.{◌&&◌, ◌≡◌, ◌⊎◌, ◌^◌, ◌==◌, ℕ, zero, suc, ◌+◌, ◌<◌, ◌≤◌, true, List, [], ◌∷◌, ◌++◌, length, map, slice_get, Option, None, Some, inl, inr, refl, sym, ap, subst, ◌∙◌, arith, length-append}
use Rattle.std.specs.List.{Contains, flat_map, list_all}
use Rattle.std.specs.Option.{option_map}
use Rattle.std.proofs.lemmas.Bool.{and_parts, eqb-true, ltb-true, false≢true}
use Rattle.std.proofs.lemmas.List.Elements.{All-contains}
use Rattle.std.proofs.lemmas.List.Sums.{AllPass-from_list_all}
use Rattle.std.proofs.lemmas.Option.{same_Some, slice_get-map, slice_get_within}
use Rattle.dwarf_types.specs.Built.{Built}
use Rattle.dwarf_types.specs.declared.analysis.Analysis.{Analysis}
use Rattle.dwarf_types.specs.declared.entry.Attr.{Attr}
use Rattle.dwarf_types.specs.declared.entry.Entry.{Entry}
use Rattle.dwarf_types.specs.declared.entry.InUnit.{InUnit}
use Rattle.dwarf_types.specs.declared.entry.RawAttr.{RawAttr}
use Rattle.dwarf_types.specs.declared.entry.RawEntry.{RawEntry}
use Rattle.dwarf_types.specs.declared.value.Value.{Value}
use Rattle.dwarf_types.specs.declared.value.Value.TheVariants as values
use Rattle.dwarf_types.specs.Live.{Stands, op_bases, operations_of, target_in}
use Rattle.dwarf_types.specs.Raw.{entry_of}
use Rattle.dwarf_types.specs.Sound.{AreCodeRanges, AreUnits, IsParent, IsSound, IsSoundEntry}
use Rattle.choosing_tests.specs.SoundTests.{AreSound, is_below, is_sound, is_within}

-- ---- values

target_below : (count : ℕ) (value : Value) (j : ℕ) → is_within count value ≡ true → target_in value ≡ Some j → j < count
target_below count (values.Ref k) j t e = subst (λ (n : ℕ). n < count) (let same : k ≡ j = cc in same) (ltb-true k count t)
target_below count value j t e = absurd cc

targets_below : (count : ℕ) (attrs : List Attr) → list_all (λ a. is_within count a.value) attrs ≡ true → (attr : Attr) (j : ℕ) → Contains attrs attr → target_in attr.value ≡ Some j → j < count
targets_below count attrs t attr j has e = target_below count attr.value j (All-contains (λ a. is_within count a.value ≡ true) attrs attr (AllPass-from_list_all (λ a. is_within count a.value) attrs t) has) e

no_operations : (count : ℕ) (value : Value) → is_within count value ≡ true → operations_of value ≡ []
no_operations count (values.Expr ops) t = absurd (false≢true t)
no_operations count (values.Locations items) t = absurd (false≢true t)
no_operations count value t = refl

no_bases : (count : ℕ) (attrs : List Attr) → list_all (λ a. is_within count a.value) attrs ≡ true → flat_map (λ a. flat_map op_bases (operations_of a.value)) attrs ≡ []
no_bases count [] t = refl
no_bases count (a ∷ attrs) t =
    let both = and_parts (is_within count a.value) (list_all (λ (a : Attr). is_within count a.value) attrs) t in
    ap (λ ops. flat_map op_bases ops ++ flat_map (λ (a : Attr). flat_map op_bases (operations_of a.value)) attrs) (no_operations count a.value both.0) ∙ no_bases count attrs both.1

-- ---- entries

parent_below : (u : InUnit) (k : ℕ) (parent : Option ℕ) → u.first ≡ 0 → is_below k parent ≡ true → IsParent u k parent
parent_below u k None first t = eqb-true k 0 t ∙ sym first
parent_below u k (Some p) first t = (omega (arith, first), ltb-true p k t)

entry_sound : (a : Analysis) (u : InUnit) → a.units ≡ u ∷ [] → u.first ≡ 0 → u.count ≡ length a.entries → (k : ℕ) (e : Entry) → Stands a.entries k e → is_sound (length a.entries) k e ≡ true → IsSoundEntry a k e
entry_sound a u units first count k e stands t =
    let parts = and_parts (e.unit == 0 && is_below k e.parent) (list_all (λ (attr : Attr). is_within (length a.entries) attr.value) e.attrs) t in
    let head = and_parts (e.unit == 0) (is_below k e.parent) parts.0 in
    let inside = slice_get_within a.entries k e stands in
    record {
      unit = u;
      its_unit = ap (λ us. slice_get us e.unit) units ∙ ap (slice_get (u ∷ [])) (eqb-true e.unit 0 head.0);
      lies = record { from_first = omega (arith, first); before_end = omega (arith, first, count, inside) };
      parent = parent_below u k e.parent first head.1;
      targets = targets_below (length a.entries) e.attrs parts.1;
      bases = λ j has. absurd (subst (λ (js : List ℕ). Contains js j → ⊥) (sym (no_bases (length a.entries) e.attrs parts.1)) (λ none. omega (arith, none.1)) has);
    }

-- ---- entries as they were read

push_cases : {X : Type 0} (xs : List X) (x : X) (k : ℕ) (y : X) → slice_get (xs ++ x ∷ []) k ≡ Some y → (slice_get xs k ≡ Some y) ⊎ ((k ≡ length xs) × (x ≡ y))
push_cases [] x zero y e = inr (refl, same_Some x y e)
push_cases [] x (suc k) y e = absurd cc
push_cases (z ∷ xs) x zero y e = inl e
push_cases (z ∷ xs) x (suc k) y e = elim (push_cases xs x k y e) [ inl before ↦ inl before | inr last ↦ inr (ap suc last.0, last.1) ]

pub one_longer : (entries : List RawEntry) (e : RawEntry) (more : List RawEntry) → more ≡ entries ++ e ∷ [] → length more ≡ length entries + 1
one_longer entries e more is = ap length is ∙ length-append entries (e ∷ [])

pub one_more : (count : ℕ) (entries : List RawEntry) (e : RawEntry) (more : List RawEntry) → more ≡ entries ++ e ∷ [] → AreSound count entries → is_sound count (length entries) (entry_of e) ≡ true → AreSound count more
one_more count entries e more is so_far new k x at = elim (push_cases entries e k x (ap (λ (es : List RawEntry). slice_get es k) (sym is) ∙ at)) [
  | inl before ↦ so_far k x before
  | inr last ↦ subst (λ (n : ℕ). is_sound count n (entry_of x) ≡ true) (sym last.0) (subst (λ (y : RawEntry). is_sound count (length entries) (entry_of y) ≡ true) last.1 new)
]

-- the entry without a parent that is made first
abbrev pub root_in : ℕ → List RawAttr → RawEntry
root_in tag attrs = record { parent = None; unit = 0; place = 0; tag = tag; attrs = attrs }

abbrev pub with_root : ℕ → Built → Built
with_root tag before = record { entries = before.entries ++ root_in tag before.attrs ∷ []; attrs = [] }

pub root_alone : (count tag : ℕ) (before now : Built) → before ≡ record { entries = []; attrs = [] } → now ≡ with_root tag before → (now.attrs ≡ []) × (length now.entries ≡ 1) × AreSound count now.entries
root_alone count tag before now was is = subst (λ (b : Built). (b.attrs ≡ []) × (length b.entries ≡ 1) × AreSound count b.entries) (sym (is ∙ ap (with_root tag) was)) (refl, refl, each)
  where
    each : AreSound count (root_in tag [] ∷ [])
    each zero e at = subst (λ (x : RawEntry). is_sound count 0 (entry_of x) ≡ true) (same_Some (root_in tag []) e at) refl
    each (suc k) e at = absurd cc

found_sound : (count k : ℕ) (found : Option RawEntry) (e : Entry) → option_map entry_of found ≡ Some e → ((x : RawEntry) → found ≡ Some x → is_sound count k (entry_of x) ≡ true) → is_sound count k e ≡ true
found_sound count k None e is all = absurd cc
found_sound count k (Some x) e is all = subst (λ (y : Entry). is_sound count k y ≡ true) (same_Some (entry_of x) e is) (all x refl)

pub all_sound : (count : ℕ) (entries : List RawEntry) → AreSound count entries → (k : ℕ) (e : Entry) → Stands (map entry_of entries) k e → is_sound count k e ≡ true
all_sound count entries each k e at = found_sound count k (slice_get entries k) e (sym (slice_get-map entry_of entries k) ∙ at) (each k)

-- ---- analyses

pub unit_sound : (a : Analysis) (u : InUnit) → a.units ≡ u ∷ [] → u.first ≡ 0 → u.count ≡ length a.entries → a.code ≡ [] → 0 < length a.entries → length a.entries ≤ 2 ^ 24 → ((k : ℕ) (e : Entry) → Stands a.entries k e → is_sound (length a.entries) k e ≡ true) → IsSound a
unit_sound a u units first count code some few each =
    let one : AreUnits 0 (u ∷ []) (length a.entries) = (first, omega (arith, count, some), omega (arith, count)) in
    record {
      few = few;
      units = subst (λ us. AreUnits 0 us (length a.entries)) (sym units) one;
      entries = λ k e stands. entry_sound a u units first count k e stands (each k e stands);
      code = subst (λ rs. AreCodeRanges a.entries 0 rs) (sym code) tt;
    }
