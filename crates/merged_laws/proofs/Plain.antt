-- Which entries are kept beside merged ones: those with an entry in their subtree that is live and not merged.
use Rattle.std.proofs.Common.{◌≡◌, ◌⊎◌, inl, inr, ℕ, zero, suc, ◌+◌, ◌<◌, ◌==◌, ◌||◌, ◌&&◌, not, Bool, true, false, cond, List, [], ◌∷◌, length, map, slice_get, slice_index_or, Option, Some, None, is_some, refl, sym, ap, subst, ◌∙◌, arith}
use Rattle.std.specs.List.{Contains, enumerate_from, filter, list_all, list_any}
use Rattle.std.specs.Option.{option_and_then, option_map, option_map_or}
use Rattle.std.proofs.lemmas.Bool.{both_ways, eq-eqb, eqb-true}
use Rattle.std.proofs.lemmas.Option.{get_or_from_slice_get, none-some, same_Some, slice_get-map, slice_get_within}
use Rattle.ds_base.specs.DwarfNumbers.{DW_TAG_base_type, DW_TAG_namespace}
use Rattle.dwarf_types.specs.declared.entry.Entry.{Entry}
use Rattle.dwarf_types.specs.Kept.{holds_plain, is_plain, is_plain_above}
use Rattle.dwarf_types.specs.LinkedUnits.{is_kept}
use Rattle.dwarf_types.specs.Live.{Stands, bases_of, its_base}
use Rattle.dwarf_types.specs.Sound.{IsSound}
use Rattle.dwarf_types.specs.Tree.{ParentsStandBefore}
use Rattle.link_graph.specs.Merged.{kept_object, merged_in}
use Rattle.linked_laws.specs.Spellable.{IsSpellable}
use Rattle.linked_laws.specs.Kept.{IsWhole}
use Rattle.odr_names.specs.Entering.{AreLiveParents}
use Rattle.odr_names.specs.Making.{IsLiveRow}
use Rattle.odr_names.proofs.Closed.{above_is_namespace}
use Rattle.odr_names.proofs.Counting.{entry_at}
use Rattle.odr_names.proofs.Siblings.{inside_below}
use Rattle.type_names.specs.Entries.{has_field, is_tied}
use Rattle.type_names.specs.Heads.{Object, derived_name, derived_name_entry, entries_of, is_above_head, is_clean, is_derived_at_top, is_head, is_in_head, is_live, is_named_head, is_named_head_entry, is_pooled, is_reached, may_be_derived, takes_part, tells}
use Rattle.type_names.specs.Entries.{is_type, name_of}
use Rattle.type_names.specs.Tree.{is_in, lineage, parent_of}
use Rattle.type_names.proofs.Pooling.{any_numbers, sound_parents}
use Rattle.type_names.proofs.Subtrees.{by_parents, child_in, in_below, in_itself, in_top}
use Rattle.merged_laws.proofs.Told.{numbered_get}

-- ---- truth values

pub and_parts : (a b : Bool) → (a && b) ≡ true → (a ≡ true) × (b ≡ true)
and_parts true b is = (refl, is)
and_parts false b is = absurd (both_ways _ refl is)

pub and_made : (a b : Bool) → a ≡ true → b ≡ true → (a && b) ≡ true
and_made true b s t = t
and_made false b s t = absurd (both_ways _ refl s)

pub or_cases : (a b : Bool) → (a || b) ≡ true → (a ≡ true) ⊎ (b ≡ true)
or_cases true b is = inl refl
or_cases false b is = inr is

pub or_left : (a b : Bool) → a ≡ true → (a || b) ≡ true
or_left true b is = refl
or_left false b is = absurd (both_ways _ refl is)

pub or_right : (a b : Bool) → b ≡ true → (a || b) ≡ true
or_right true b is = refl
or_right false b is = is

pub not_true : (b : Bool) → not b ≡ true → b ≡ false
not_true true is = absurd (both_ways _ refl is)
not_true false is = refl

-- ---- heads are clean

all_chosen : (p : Entry → Bool) (q : ℕ → Bool) (es : List Entry) (n : ℕ) → list_all p (map (λ e. e.1) (filter (λ e. q e.0) (enumerate_from n es))) ≡ true → (i : ℕ) (e : Entry) → slice_get es i ≡ Some e → q (n + i) ≡ true → p e ≡ true
all_chosen p q [] n all i e at is = absurd (none-some e at)
all_chosen p q (x ∷ es) n all i e at is = go (λ h j. all_chosen p q es (n + 1) h j e) (q n) refl all i at is
  where
    rest : List Entry
    rest = map (λ (e : ℕ × Entry). e.1) (filter (λ (e : ℕ × Entry). q e.0) (enumerate_from (n + 1) es))

    there : (b : Bool) → list_all p (map (λ (e : ℕ × Entry). e.1) (cond b ((n, x) ∷ filter (λ (e : ℕ × Entry). q e.0) (enumerate_from (n + 1) es)) (filter (λ (e : ℕ × Entry). q e.0) (enumerate_from (n + 1) es)))) ≡ true → list_all p rest ≡ true
    there true h = (and_parts (p x) (list_all p rest) h).1
    there false h = h

    go : (list_all p rest ≡ true → (j : ℕ) → slice_get es j ≡ Some e → q (n + 1 + j) ≡ true → p e ≡ true) → (b : Bool) → q n ≡ b → list_all p (map (λ (e : ℕ × Entry). e.1) (cond (q n) ((n, x) ∷ filter (λ (e : ℕ × Entry). q e.0) (enumerate_from (n + 1) es)) (filter (λ (e : ℕ × Entry). q e.0) (enumerate_from (n + 1) es)))) ≡ true
        → (i : ℕ) → slice_get (x ∷ es) i ≡ Some e → q (n + i) ≡ true → p e ≡ true
    go later true here h zero at is = ap p (same_Some e x (sym at)) ∙ (and_parts (p x) (list_all p rest) (subst (λ (b : Bool). list_all p (map (λ (e : ℕ × Entry). e.1) (cond b ((n, x) ∷ filter (λ (e : ℕ × Entry). q e.0) (enumerate_from (n + 1) es)) (filter (λ (e : ℕ × Entry). q e.0) (enumerate_from (n + 1) es)))) ≡ true) here h)).0
    go later false here h zero at is = let same : n + 0 ≡ n = omega arith in absurd (both_ways _ here (ap q (sym same) ∙ is))
    go later b here h (suc i) at is = let next : n + 1 + i ≡ n + suc i = omega arith in later (there (q n) h) i at (ap q next ∙ is)

last_of : (a b c d e : Bool) → (a && (b && (c && (d && e)))) ≡ true → e ≡ true
last_of a b c d e is = (and_parts d e (and_parts c (d && e) (and_parts b (c && (d && e)) (and_parts a (b && (c && (d && e))) is).1).1).1).1

named_clean : (o : Object) (h : ℕ) → is_named_head o h ≡ true → is_clean o h ≡ true
unfolding is_named_head
named_clean o h is = go (slice_get (entries_of o) h) refl is
  where
    go : (x : Option Entry) → slice_get (entries_of o) h ≡ x → option_map_or (is_named_head_entry o h) x false ≡ true → is_clean o h ≡ true
    go None at t = absurd (both_ways _ refl t)
    go (Some e) at t = last_of (takes_part o h e) (is_type e.tag) (option_map_or (tells o h) (name_of e) false) (is_reached (entries_of o) h e) (is_clean o h) t

derived_clean : (o : Object) (h : ℕ) → is_some (derived_name o h) ≡ true → is_clean o h ≡ true
unfolding derived_name
derived_clean o h is = go (slice_get (entries_of o) h) refl is
  where
    decide : (e : Entry) (b : Bool) (text : Option (List ℕ)) → may_be_derived o h e ≡ b → is_some (cond b text None) ≡ true → is_clean o h ≡ true
    decide e true text may t = (and_parts (is_derived_at_top (entries_of o) e) (is_clean o h) (and_parts (takes_part o h e) _ may).1).1
    decide e false text may t = absurd (both_ways _ refl t)

    go : (x : Option Entry) → slice_get (entries_of o) h ≡ x → is_some (option_and_then (derived_name_entry o h) x) ≡ true → is_clean o h ≡ true
    go None at t = absurd (both_ways _ refl t)
    go (Some e) at t = decide e (may_be_derived o h e) _ refl t

head_clean : (o : Object) (h : ℕ) → is_head o h ≡ true → is_clean o h ≡ true
head_clean o h is = elim (or_cases (is_named_head o h) _ is) [ inl named ↦ named_clean o h named | inr derived ↦ derived_clean o h derived ]

-- a head above an entry that stands in the subtree of one
head_of : (test : ℕ → Bool) (xs : List ℕ) → list_any test xs ≡ true → (h : ℕ) × (test h ≡ true) × (list_any (λ (j : ℕ). j == h) xs ≡ true)
head_of test [] is = absurd (both_ways _ refl is)
head_of test (x ∷ xs) is = elim (or_cases (test x) (list_any test xs) is) [
  | inl here ↦ (x, here, or_left (x == x) (list_any (λ (j : ℕ). j == x) xs) (eq-eqb x x refl))
  | inr later ↦ (let w = head_of test xs later in (w.0, w.1, or_right (x == w.0) (list_any (λ (j : ℕ). j == w.0) xs) w.2))
]

-- no entry in the subtree of a head is tied to its unit
pub untied_in_head : (o : Object) (k : ℕ) (e : Entry) → slice_get (entries_of o) k ≡ Some e → is_in_head o k ≡ true → is_tied e ≡ false
untied_in_head o k e at inside =
    let w = head_of (is_head o) (lineage (entries_of o) k) inside in
    let zeroth : k ≡ 0 + k = omega arith in
    not_true (is_tied e) (all_chosen (λ (e : Entry). not (is_tied e)) (is_in (entries_of o) w.0) (entries_of o) 0 (head_clean o w.0 w.1) k e at (ap (is_in (entries_of o) w.0) (sym zeroth) ∙ w.2))

-- ---- what stands in the subtree of a head, and what is live

-- what stands below an entry in the subtree of a head is there too
in_head_below : (o : Object) (a k : ℕ) → ParentsStandBefore (entries_of o) → is_in_head o a ≡ true → is_in (entries_of o) a k ≡ true → is_in_head o k ≡ true
in_head_below o a k before inside = by_parents (entries_of o) (λ (k : ℕ). is_in (entries_of o) a k ≡ true → is_in_head o k ≡ true) before
    (λ k top is. ap (is_in_head o) (in_top (entries_of o) a k top is) ∙ inside)
    (λ k p up higher is. elim (in_below (entries_of o) a k p before up is) [
      | inl above ↦ inside_below o k p before up (higher above)
      | inr same ↦ ap (is_in_head o) same ∙ inside
    ]) k k (omega arith)

-- what stands above a live entry is live
pub live_above : (o : Object) (a k : ℕ) → ParentsStandBefore (entries_of o) → AreLiveParents o → is_in (entries_of o) a k ≡ true → is_live o k ≡ true → is_live o a ≡ true
live_above o a k before parents = by_parents (entries_of o) (λ (k : ℕ). is_in (entries_of o) a k ≡ true → is_live o k ≡ true → is_live o a ≡ true) before
    (λ k top is lives. sym (ap (is_live o) (in_top (entries_of o) a k top is)) ∙ lives)
    (λ k p up higher is lives. elim (in_below (entries_of o) a k p before up is) [
      | inl above ↦ higher above (parents k p lives up)
      | inr same ↦ sym (ap (is_live o) same) ∙ lives
    ]) k k (omega arith)

module _ (odr : Bool) (o : Object) where
  abbrev entries : List Entry
  entries = entries_of o

  abbrev merges : ℕ → Bool
  merges k = odr && is_pooled o k

  -- ---- marks

  mark_by : (b : Bool) (k : ℕ) (e : Entry) → slice_get entries k ≡ Some e → slice_index_or (merged_in b o) k false ≡ (b && is_pooled o k)
  mark_by false k e at = refl
  mark_by true k e at =
      let zeroth : 0 + k ≡ k = omega arith in
      get_or_from_slice_get (merged_in true o) k (is_pooled o k) false (slice_get-map (λ (e : ℕ × Entry). is_pooled o e.0) (enumerate_from 0 entries) k
      ∙ ap (option_map (λ (e : ℕ × Entry). is_pooled o e.0)) (numbered_get 0 entries k ∙ ap (option_map (λ (x : Entry). (0 + k, x))) at) ∙ ap (λ (n : ℕ). Some (is_pooled o n)) zeroth)

  abbrev plain : ℕ → Bool
  plain = is_plain entries o.live (merged_in odr o)

  plain_is : (k : ℕ) (e : Entry) → slice_get entries k ≡ Some e → plain k ≡ (is_live o k && not (merges k))
  plain_is k e at = ap (λ (b : Bool). is_live o k && not b) (mark_by odr k e at)

  kept_is : (k : ℕ) (e : Entry) → slice_get entries k ≡ Some e → is_kept (kept_object odr o) k ≡ (plain k || is_plain_above entries o.live (merged_in odr o) (k, e))
  kept_is k e at =
      let test : ℕ × Entry → Bool = λ e. plain e.0 || is_plain_above entries o.live (merged_in odr o) e in
      let zeroth : 0 + k ≡ k = omega arith in
      ap (λ (b : Option Bool). option_map_or (λ b. b) b false) (slice_get-map test (enumerate_from 0 entries) k ∙ ap (option_map test) (numbered_get 0 entries k ∙ ap (option_map (λ (x : Entry). (0 + k, x))) at))
      ∙ ap (λ (n : ℕ). test (n, e)) zeroth

  -- ---- entries that hold one which is live and not merged

  -- such an entry stands in the subtree of entry a
  pub record Holds (a : ℕ) : Type 0 where
    pub number : ℕ
    pub within : number < length entries
    pub lives : is_live o number ≡ true
    pub own : merges number ≡ false
    pub inside : is_in entries a number ≡ true

  pub kept_holds : (k : ℕ) (e : Entry) → ParentsStandBefore entries → slice_get entries k ≡ Some e → is_kept (kept_object odr o) k ≡ true → Holds k
  kept_holds k e before at kept = elim (or_cases (plain k) _ (sym (kept_is k e at) ∙ kept)) [
    | inl here ↦ holds k e at here (in_itself entries k before)
    | inr above ↦ (
        let each = any_numbers (λ (j : ℕ). plain j && is_in entries k j) entries 0 in
        let w = each.0 (and_parts (e.tag == DW_TAG_namespace) _ (and_parts (slice_index_or (merged_in odr o) k false) _ above).1).1 in
        let zeroth : 0 + w.0 ≡ w.0 = omega arith in
        let found = and_parts (plain w.0) (is_in entries k w.0) (ap (λ (j : ℕ). plain j && is_in entries k j) (sym zeroth) ∙ w.2) in
        let it = entry_at entries w.0 w.1 in
        holds w.0 it.0 it.1 found.0 found.1)
  ]
    where
      holds : (j : ℕ) (x : Entry) → slice_get entries j ≡ Some x → plain j ≡ true → is_in entries k j ≡ true → Holds k
      holds j x at is inside =
          let parts = and_parts (is_live o j) (not (merges j)) (sym (plain_is j x at) ∙ is) in
          record { number = j; within = slice_get_within entries j x at; lives = parts.0; own = not_true (merges j) parts.1; inside = inside }

  -- a merged entry that is kept is a namespace
  pub kept_namespace : (k : ℕ) (e : Entry) → slice_get entries k ≡ Some e → is_kept (kept_object odr o) k ≡ true → merges k ≡ true → e.tag ≡ DW_TAG_namespace
  kept_namespace k e at kept merged = elim (or_cases (plain k) (is_plain_above entries o.live (merged_in odr o) (k, e)) (sym (kept_is k e at) ∙ kept)) [
    | inl here ↦ absurd (both_ways _ (not_true (merges k) (and_parts (is_live o k) (not (merges k)) (sym (plain_is k e at) ∙ here)).1) merged)
    | inr above ↦ eqb-true e.tag DW_TAG_namespace (and_parts (e.tag == DW_TAG_namespace) _ (and_parts (slice_index_or (merged_in odr o) k false) _ above).1).0
  ]

  plain_in : (a : ℕ) (h : Holds a) → plain h.number ≡ true
  plain_in a h = let it = entry_at entries h.number h.within in plain_is h.number it.0 it.1 ∙ and_made (is_live o h.number) (not (merges h.number)) h.lives (ap not h.own)

  pub holds_kept : (a : ℕ) (e : Entry) → ParentsStandBefore entries → AreLiveParents o → slice_get entries a ≡ Some e → Holds a → is_kept (kept_object odr o) a ≡ true
  holds_kept a e before parents at h = kept_is a e at ∙ go (merges a) refl
    where
      lives : is_live o a ≡ true
      lives = live_above o a h.number before parents h.inside h.lives

      not_both : merges a ≡ true → is_in_head o a ≡ true → ⊥
      not_both merged inside =
          let pooled : is_pooled o h.number ≡ true = or_left _ (is_above_head o h.number) (and_made (is_live o h.number) (is_in_head o h.number) h.lives (in_head_below o a h.number before inside h.inside)) in
          both_ways _ h.own (and_made odr (is_pooled o h.number) (and_parts odr (is_pooled o a) merged).0 pooled)

      above_plain : merges a ≡ true → is_above_head o a ≡ true → is_plain_above entries o.live (merged_in odr o) (a, e) ≡ true
      above_plain merged above =
          let each = any_numbers (λ (j : ℕ). plain j && is_in entries a j) entries 0 in
          let zeroth : 0 + h.number ≡ h.number = omega arith in
          let held : holds_plain entries o.live (merged_in odr o) a ≡ true = each.1 (h.number, h.within, ap (λ (j : ℕ). plain j && is_in entries a j) zeroth ∙ and_made (plain h.number) (is_in entries a h.number) (plain_in a h) h.inside) in
          and_made (slice_index_or (merged_in odr o) a false) _ (mark_by odr a e at ∙ merged)
          (and_made (e.tag == DW_TAG_namespace) (holds_plain entries o.live (merged_in odr o) a) (eq-eqb e.tag DW_TAG_namespace (above_is_namespace o a e before at above)) held)

      go : (b : Bool) → merges a ≡ b → (plain a || is_plain_above entries o.live (merged_in odr o) (a, e)) ≡ true
      go false own = or_left (plain a) _ (plain_is a e at ∙ and_made (is_live o a) (not (merges a)) lives (ap not own))
      go true merged = elim (or_cases (is_live o a && is_in_head o a) (is_above_head o a) (and_parts odr (is_pooled o a) merged).1) [
        | inl inside ↦ absurd (not_both merged (and_parts (is_live o a) (is_in_head o a) inside).1)
        | inr above ↦ or_right (plain a) _ (above_plain merged above)
      ]

  -- ---- the entries that are kept keep to each other

  pub kept_live : (k : ℕ) (e : Entry) → ParentsStandBefore entries → AreLiveParents o → slice_get entries k ≡ Some e → is_kept (kept_object odr o) k ≡ true → is_live o k ≡ true
  kept_live k e before parents at kept = let h = kept_holds k e before at kept in live_above o k h.number before parents h.inside h.lives

  -- a base type is not merged
  pub base_alone : (j : ℕ) (e : Entry) → ParentsStandBefore entries → slice_get entries j ≡ Some e → e.tag ≡ DW_TAG_base_type → merges j ≡ false
  base_alone j e before at base = go (merges j) refl
    where
      tied : is_tied e ≡ true
      tied = or_left (e.tag == DW_TAG_base_type) (has_field e) (eq-eqb e.tag DW_TAG_base_type base)

      go : (b : Bool) → merges j ≡ b → b ≡ false
      go false is = refl
      go true is = absurd (elim (or_cases (is_live o j && is_in_head o j) (is_above_head o j) (and_parts odr (is_pooled o j) is).1) [
        | inl inside ↦ both_ways _ (untied_in_head o j e at (and_parts (is_live o j) (is_in_head o j) inside).1) tied
        | inr above ↦ (let same : DW_TAG_base_type ≡ DW_TAG_namespace = sym base ∙ above_is_namespace o j e before at above in omega (arith, same))
      ])

  module _ (sound : IsSound o.seen) (given : IsSpellable o.seen) (row : IsLiveRow entries o.live) (lives : AreLiveParents o) where
    before : ParentsStandBefore entries
    before = sound_parents o.seen sound

    parent_kept : (k p : ℕ) (e : Entry) → is_kept (kept_object odr o) k ≡ true → Stands entries k e → e.parent ≡ Some p → is_kept (kept_object odr o) p ≡ true
    parent_kept k p e kept at parent =
        let up : parent_of entries k ≡ Some p = ap (option_and_then (λ (e : Entry). e.parent)) at ∙ parent in
        let h = kept_holds k e before at kept in
        let it = entry_at entries p (omega (arith, before k p e at parent, slice_get_within entries k e at)) in
        holds_kept p it.0 before lives it.1 (record { number = h.number; within = h.within; lives = h.lives; own = h.own; inside = child_in entries p k h.number before up h.inside })

    base_kept : (k j : ℕ) (e : Entry) → is_kept (kept_object odr o) k ≡ true → Stands entries k e → Contains (bases_of e) j → is_kept (kept_object odr o) j ≡ true
    base_kept k j e kept at there =
        let chain = (row.exact k).0 (kept_live k e before lives at kept) in
        let live : is_live o j ≡ true = (row.exact j).1 (suc chain.0, (k, chain.1, its_base e at there)) in
        let base = (sound.entries k e at).bases j there in
        holds_kept j base.entry before lives base.stands (record {
          number = j;
          within = slice_get_within entries j base.entry base.stands;
          lives = live;
          own = base_alone j base.entry before base.stands base.tag;
          inside = in_itself entries j before;
        })

    pub kept_whole : IsWhole (kept_object odr o)
    kept_whole = record { sound = sound; given = given; parents = parent_kept; bases = base_kept }
