-- What stands above a pooled entry: its unit, or a pooled entry.
use Rattle.std.proofs.Common.{◌≡◌, ◌⊎◌, inl, inr, ℕ, ◌+◌, ◌<◌, ◌==◌, ◌&&◌, ◌||◌, not, Bool, true, false, cond, List, [], ◌∷◌, ◌++◌, length, Option, Some, None, is_some, slice_get, refl, sym, ap, ◌∙◌, arith, subst}
use Rattle.std.specs.Prelude.{if◌then◌else◌}
use Rattle.std.specs.List.{cons_option, enumerate_from, filter_map, list_all, list_any}
use Rattle.std.specs.Option.{option_and_then, option_map_or}
use Rattle.std.proofs.lemmas.Bool.{both_ways, eq-eqb, eqb-true, ne_eqb}
use Rattle.std.proofs.lemmas.List.Elements.{filter_map-append}
use Rattle.std.proofs.lemmas.List.Folds.{list_any-append}
use Rattle.std.proofs.lemmas.Option.{none-some, same_Some}
use Rattle.ds_base.specs.DwarfNumbers.{DW_TAG_class_type, DW_TAG_namespace, DW_TAG_structure_type, DW_TAG_subprogram}
use Rattle.dwarf_types.specs.declared.entry.Entry.{Entry}
use Rattle.dwarf_types.specs.Tree.{ParentsStandBefore}
use Rattle.type_names.specs.Entries.{Text, is_named_type, is_type, linkage_of, name_of}
use Rattle.type_names.specs.Heads.{Object, derived_name, derived_name_entry, is_clean, is_derived, takes_part, tells, entries_of, is_above_head, is_common, is_head, is_in_head, is_live, is_named_head, is_named_head_entry, is_open_namespace, is_pooled, is_reached, may_be_derived}
use Rattle.type_names.specs.Paths.{Piece, earlier_twins, is_overloaded, is_told_by_parts, ordinal_of, parts_of, path_of, piece_of, piece_text, spelled_of}
use Rattle.type_names.specs.Spell.{spelled_parameters, spelling}
use Rattle.odr_names.specs.Pieces.{IsSpelled}
use Rattle.odr_names.specs.Entering.{AreLiveParents}
use Rattle.odr_names.specs.Twins.{is_inside, tell_alone, twins_before, wants_ordinal}
use Rattle.odr_names.proofs.Siblings.{spelled_in_head, told_told, wanted}
use Rattle.type_names.specs.Tree.{below_unit, is_at_top, is_below, is_in, lineage, numbers_above, parent_of}
use Rattle.type_names.proofs.Lineages.{lineage_below, lineage_top, parent_before}
use Rattle.type_names.proofs.Pooling.{any_numbers}
use Rattle.type_names.proofs.Scopes.{one_up, parent_within, unit_is_last}
use Rattle.type_names.proofs.Subtrees.{by_parents, child_in, in_below, in_itself, in_lower, in_top}

both : (a b : Bool) → (a && b) ≡ true → (a ≡ true) × (b ≡ true)
both true b is = (refl, is)
both false b is = absurd (both_ways _ refl is)

joined : (a b : Bool) → a ≡ true → b ≡ true → (a && b) ≡ true
joined true b s t = t
joined false b s t = absurd (both_ways _ refl s)

either : (a b : Bool) → (a || b) ≡ true → (a ≡ true) ⊎ (b ≡ true)
either true b is = inl refl
either false b is = inr is

left_true : (a b : Bool) → a ≡ true → (a || b) ≡ true
left_true true b is = refl
left_true false b is = absurd (both_ways _ refl is)

right_true : (a b : Bool) → b ≡ true → (a || b) ≡ true
right_true true b is = refl
right_true false b is = is

or_false : (a : Bool) → (a || false) ≡ true → a ≡ true
or_false true is = refl
or_false false is = is

parent_some : (o : Object) (k : ℕ) (e : Entry) → slice_get (entries_of o) k ≡ Some e → is_some e.parent ≡ true → (p : ℕ) × (parent_of (entries_of o) k ≡ Some p)
parent_some o k e at some = go e.parent refl some where
  go : (x : Option ℕ) → e.parent ≡ x → is_some x ≡ true → (p : ℕ) × (parent_of (entries_of o) k ≡ Some p)
  go None is t = absurd (both_ways _ refl t)
  go (Some p) is t = (p, ap (option_and_then (λ (e : Entry). e.parent)) at ∙ is)

-- ---- heads

fourth : (a b c d e : Bool) → (a && (b && (c && (d && e)))) ≡ true → d ≡ true
fourth false b c d e is = absurd (both_ways _ refl is)
fourth true false c d e is = absurd (both_ways _ refl is)
fourth true true false d e is = absurd (both_ways _ refl is)
fourth true true true true e is = refl
fourth true true true false e is = absurd (both_ways _ refl is)

third : (a b c d : Bool) → (a && ((b && c) && d)) ≡ true → c ≡ true
third false b c d is = absurd (both_ways _ refl is)
third true false c d is = absurd (both_ways _ refl is)
third true true true d is = refl
third true true false d is = absurd (both_ways _ refl is)

named_entry : (o : Object) (k : ℕ) → is_named_head o k ≡ true → (e : Entry) × (slice_get (entries_of o) k ≡ Some e) × (is_reached (entries_of o) k e ≡ true)
unfolding is_named_head
named_entry o k is = go (slice_get (entries_of o) k) refl is where
  go : (x : Option Entry) → slice_get (entries_of o) k ≡ x → option_map_or (is_named_head_entry o k) x false ≡ true → (e : Entry) × (slice_get (entries_of o) k ≡ Some e) × (is_reached (entries_of o) k e ≡ true)
  go None at t = absurd (both_ways _ refl t)
  go (Some e) at t = (e, at, fourth (takes_part o k e) (is_type e.tag) (option_map_or (tells o k) (name_of e) false) (is_reached (entries_of o) k e) (is_clean o k) t)

derived_entry : (o : Object) (k : ℕ) → is_some (derived_name o k) ≡ true → (e : Entry) × (slice_get (entries_of o) k ≡ Some e) × (is_at_top (entries_of o) e ≡ true)
unfolding derived_name
derived_entry o k is = go (slice_get (entries_of o) k) refl is where
  decide : (e : Entry) (b : Bool) (text : Option Text) → may_be_derived o k e ≡ b → is_some (cond b text None) ≡ true → is_at_top (entries_of o) e ≡ true
  decide e true text may t = third _ _ (is_at_top (entries_of o) e) _ may
  decide e false text may t = absurd (both_ways _ refl t)

  go : (x : Option Entry) → slice_get (entries_of o) k ≡ x → is_some (option_and_then (derived_name_entry o k) x) ≡ true → (e : Entry) × (slice_get (entries_of o) k ≡ Some e) × (is_at_top (entries_of o) e ≡ true)
  go None at t = absurd (both_ways _ refl t)
  go (Some e) at t = (e, at, decide e (may_be_derived o k e) _ refl t)

top_parent : (o : Object) (k : ℕ) (e : Entry) → slice_get (entries_of o) k ≡ Some e → is_at_top (entries_of o) e ≡ true → (p : ℕ) × (parent_of (entries_of o) k ≡ Some p) × (parent_of (entries_of o) p ≡ None)
top_parent o k e at top = go e.parent refl top where
  none_above : (x : Option ℕ) → not (is_some x) ≡ true → x ≡ None
  none_above None t = refl
  none_above (Some q) t = absurd (both_ways _ refl t)

  go : (x : Option ℕ) → e.parent ≡ x → option_map_or (λ (p : ℕ). is_some (slice_get (entries_of o) p) && not (is_some (parent_of (entries_of o) p))) x false ≡ true → (p : ℕ) × (parent_of (entries_of o) k ≡ Some p) × (parent_of (entries_of o) p ≡ None)
  go None is t = absurd (both_ways _ refl t)
  go (Some p) is t = (p, ap (option_and_then (λ (e : Entry). e.parent)) at ∙ is, none_above (parent_of (entries_of o) p) (both _ _ t).1)

pub head_parent : (o : Object) (k : ℕ) → is_head o k ≡ true → (p : ℕ) × (parent_of (entries_of o) k ≡ Some p)
head_parent o k is = elim (either _ _ is) [
  | inl named ↦ (let it = named_entry o k named in parent_some o k it.0 it.1 (both _ _ it.2).0)
  | inr derived ↦ (let it = derived_entry o k derived in let up = top_parent o k it.0 it.1 it.2 in (up.0, up.1))
]

-- ---- above heads

above_from : (o : Object) (a h q : ℕ) → parent_of (entries_of o) a ≡ Some q → h < length (entries_of o) → is_head o h ≡ true → is_below (entries_of o) a h ≡ true → is_above_head o a ≡ true
above_from o a h q up within head below =
    let each = any_numbers (λ (k : ℕ). is_head o k && is_below (entries_of o) a k) (entries_of o) 0 in
    let here : 0 + h ≡ h = omega arith in
    let found = each.1 (h, within, ap (λ (k : ℕ). is_head o k && is_below (entries_of o) a k) here ∙ joined _ _ head below) in
    ap (λ (x : Option ℕ). is_some x && list_any (λ (e : ℕ × Entry). is_head o e.0 && is_below (entries_of o) a e.0) (enumerate_from 0 (entries_of o))) up ∙ found

above_head : (o : Object) (a : ℕ) → is_above_head o a ≡ true → (h : ℕ) × (h < length (entries_of o)) × (is_head o h ≡ true) × (is_below (entries_of o) a h ≡ true)
above_head o a is =
    let each = any_numbers (λ (k : ℕ). is_head o k && is_below (entries_of o) a k) (entries_of o) 0 in
    let w = each.0 (both (is_some (parent_of (entries_of o) a)) (list_any (λ (e : ℕ × Entry). is_head o e.0 && is_below (entries_of o) a e.0) (enumerate_from 0 (entries_of o))) is).1 in
    let here : 0 + w.0 ≡ w.0 = omega arith in
    let parts = both _ _ (ap (λ (k : ℕ). is_head o k && is_below (entries_of o) a k) (sym here) ∙ w.2) in
    (w.0, w.1, parts.0, parts.1)

-- what stands below an entry stands below its parent
lower : (o : Object) (k p h : ℕ) → ParentsStandBefore (entries_of o) → parent_of (entries_of o) k ≡ Some p → is_in (entries_of o) k h ≡ true → is_below (entries_of o) p h ≡ true
lower o k p h before up inside =
    let other : h ≡ p → ⊥ = λ same. (let a = in_lower (entries_of o) k h before inside in let b = parent_before (entries_of o) k p before up in omega arith) in
    joined _ _ (ap not (ne_eqb h p other)) (child_in (entries_of o) p k h before up inside)

pub pooled_parent : (o : Object) (k : ℕ) → ParentsStandBefore (entries_of o) → AreLiveParents o → is_pooled o k ≡ true
    → (p : ℕ) × (parent_of (entries_of o) k ≡ Some p) × ((is_pooled o p ≡ true) ⊎ (parent_of (entries_of o) p ≡ None))
pooled_parent o k before live is = elim (either _ _ is) [
  | inl inside ↦ (let parts = both _ _ inside in in_head parts.0 parts.1)
  | inr above ↦ (let w = above_head o k above in let up = some_parent (parent_of (entries_of o) k) refl (both _ _ above).0 in (up.0, up.1, via up.0 up.1 w.0 w.1 w.2 (both _ _ w.3).1))
] where
  some_parent : (x : Option ℕ) → parent_of (entries_of o) k ≡ x → is_some x ≡ true → (p : ℕ) × (parent_of (entries_of o) k ≡ Some p)
  some_parent None at t = absurd (both_ways _ refl t)
  some_parent (Some p) at t = (p, at)

  -- a head in the subtree makes the parent one above a head, where it is no unit
  via : (p : ℕ) → parent_of (entries_of o) k ≡ Some p → (h : ℕ) → h < length (entries_of o) → is_head o h ≡ true → is_in (entries_of o) k h ≡ true → (is_pooled o p ≡ true) ⊎ (parent_of (entries_of o) p ≡ None)
  via p up h within head in_k = go (parent_of (entries_of o) p) refl where
    go : (x : Option ℕ) → parent_of (entries_of o) p ≡ x → (is_pooled o p ≡ true) ⊎ (parent_of (entries_of o) p ≡ None)
    go None top = inr top
    go (Some q) over = inl (right_true _ _ (above_from o p h q over within head (lower o k p h before up in_k)))

  own : is_live o k ≡ true → is_head o k ≡ true → (p : ℕ) × (parent_of (entries_of o) k ≡ Some p) × ((is_pooled o p ≡ true) ⊎ (parent_of (entries_of o) p ≡ None))
  own lives head = (let up = head_parent o k head in (up.0, up.1, via up.0 up.1 k (parent_within (entries_of o) k up.0 up.1) head (in_itself (entries_of o) k before)))

  in_head : is_live o k ≡ true → is_in_head o k ≡ true → (p : ℕ) × (parent_of (entries_of o) k ≡ Some p) × ((is_pooled o p ≡ true) ⊎ (parent_of (entries_of o) p ≡ None))
  in_head lives inside = go (parent_of (entries_of o) k) refl where
    go : (x : Option ℕ) → parent_of (entries_of o) k ≡ x → (p : ℕ) × (parent_of (entries_of o) k ≡ Some p) × ((is_pooled o p ≡ true) ⊎ (parent_of (entries_of o) p ≡ None))
    go None top = own lives (or_false _ (sym (ap (list_any (is_head o)) (lineage_top (entries_of o) k top)) ∙ inside))
    go (Some p) up = elim (either _ _ (sym (ap (list_any (is_head o)) (lineage_below (entries_of o) k p before up) ∙ list_any-append (is_head o) (lineage (entries_of o) p) (k ∷ [])) ∙ inside)) [
      | inl higher ↦ (p, up, inl (left_true _ _ (joined _ _ (live k p lives up) higher)))
      | inr last ↦ own lives (or_false _ last)
    ]

-- ---- paths

-- the path of an entry is that of the entry above, and its piece; that of a unit has none
pub path_below : (n : ℕ) (o : Object) (k p : ℕ) (piece : Piece) → ParentsStandBefore (entries_of o) → parent_of (entries_of o) k ≡ Some p → piece_of n o k ≡ Some piece → path_of n o k ≡ path_of n o p ++ piece ∷ []
path_below n o k p piece before up is =
    ap (filter_map (piece_of n o)) (one_up (entries_of o) k p before up) ∙ filter_map-append (piece_of n o) (below_unit (entries_of o) p) (k ∷ []) ∙ ap (λ (ps : List Piece). path_of n o p ++ ps) last where
      last : filter_map (piece_of n o) (k ∷ []) ≡ piece ∷ []
      last = rw is refl

pub path_top : (n : ℕ) (o : Object) (p : ℕ) → parent_of (entries_of o) p ≡ None → path_of n o p ≡ []
path_top n o p top = ap (filter_map (piece_of n o)) (unit_is_last (entries_of o) p top)

-- ---- namespaces above heads

all_here : (test : Entry → Bool) (entries : List Entry) (xs : List ℕ) (a : ℕ) (e : Entry) → slice_get entries a ≡ Some e → list_all test (filter_map (slice_get entries) xs) ≡ true → list_any (λ (j : ℕ). j == a) xs ≡ true → test e ≡ true
all_here test entries [] a e at all here = absurd (both_ways _ refl here)
all_here test entries (x ∷ xs) a e at all here = go (slice_get entries x) refl (all_here test entries xs a e at) (either (x == a) (list_any (λ (j : ℕ). j == a) xs) here) where
  first : (y : Entry) → slice_get entries x ≡ Some y → (test y && list_all test (filter_map (slice_get entries) xs)) ≡ true
  first y found = sym (ap (λ (o : Option Entry). list_all test (cons_option o (filter_map (slice_get entries) xs))) found) ∙ all

  tail : (o : Option Entry) → slice_get entries x ≡ o → list_all test (filter_map (slice_get entries) xs) ≡ true
  tail None none = sym (ap (λ (o : Option Entry). list_all test (cons_option o (filter_map (slice_get entries) xs))) none) ∙ all
  tail (Some y) found = (both _ _ (first y found)).1

  go : (o : Option Entry) → slice_get entries x ≡ o → (list_all test (filter_map (slice_get entries) xs) ≡ true → list_any (λ (j : ℕ). j == a) xs ≡ true → test e ≡ true) → ((x == a) ≡ true) ⊎ (list_any (λ (j : ℕ). j == a) xs ≡ true) → test e ≡ true
  go o found rest (inr later) = rest (tail o found) later
  go None found rest (inl same) = absurd (none-some e (sym found ∙ ap (slice_get entries) (eqb-true x a same) ∙ at))
  go (Some y) found rest (inl same) = ap test (same_Some e y (sym at ∙ ap (slice_get entries) (sym (eqb-true x a same)) ∙ found)) ∙ (both _ _ (first y found)).0

-- an entry with a parent is one of those below the unit that stand above what is below it
among : (entries : List Entry) (a q m : ℕ) → ParentsStandBefore entries → parent_of entries a ≡ Some q → is_in entries a m ≡ true → list_any (λ (j : ℕ). j == a) (below_unit entries m) ≡ true
among entries a q m before up = by_parents entries (λ (m : ℕ). is_in entries a m ≡ true → list_any (λ (j : ℕ). j == a) (below_unit entries m) ≡ true) before
    (λ m top is. absurd (none-some q (sym top ∙ ap (parent_of entries) (in_top entries a m top is) ∙ up)))
    (λ m p below higher is. elim (in_below entries a m p before below is) [
      | inl above ↦ ap (list_any (λ (j : ℕ). j == a)) (one_up entries m p before below) ∙ list_any-append (λ (j : ℕ). j == a) (below_unit entries p) (m ∷ []) ∙ left_true _ _ (higher above)
      | inr same ↦ ap (list_any (λ (j : ℕ). j == a)) (one_up entries m p before below) ∙ list_any-append (λ (j : ℕ). j == a) (below_unit entries p) (m ∷ []) ∙ right_true _ _ (left_true _ false (eq-eqb m a same))
    ]) m m (omega arith)

-- what stands above a head, and is no unit, is a namespace
pub above_is_namespace : (o : Object) (a : ℕ) (e : Entry) → ParentsStandBefore (entries_of o) → slice_get (entries_of o) a ≡ Some e → is_above_head o a ≡ true → e.tag ≡ DW_TAG_namespace
above_is_namespace o a e before at above =
    let w = above_head o a above in
    let up = some_parent (parent_of (entries_of o) a) refl (both _ _ above).0 in
    let parts = both _ _ w.3 in
    let head = head_parent o w.0 w.2 in
    let in_parent : is_in (entries_of o) a head.0 ≡ true = elim (in_below (entries_of o) a w.0 head.0 before head.1 parts.1) [
      | inl higher ↦ higher
      | inr same ↦ absurd (let no : not (w.0 == a) ≡ false = ap not (eq-eqb w.0 a same) in both_ways _ no parts.0)
    ] in
    let here = among (entries_of o) a up.0 head.0 before up.1 in_parent in
    elim (either _ _ w.2) [
      | inl named ↦ (
          let it = named_entry o w.0 named in
          let reached = (both _ _ it.2).1 in
          let numbers : numbers_above (entries_of o) w.0 ≡ below_unit (entries_of o) head.0 = ap (λ (p : Option ℕ). option_map_or (below_unit (entries_of o)) p []) head.1 in
          let all = ap (λ (xs : List ℕ). list_all is_open_namespace (filter_map (slice_get (entries_of o)) xs)) (sym numbers) ∙ reached in
          let is = all_here is_open_namespace (entries_of o) (below_unit (entries_of o) head.0) a e at all here in
          eqb-true e.tag DW_TAG_namespace (both _ _ is).0)
      | inr derived ↦ absurd (
          let it = derived_entry o w.0 derived in
          let top = top_parent o w.0 it.0 it.1 it.2 in
          let same : head.0 ≡ top.0 = same_Some head.0 top.0 (sym head.1 ∙ top.1) in
          let is_a = in_top (entries_of o) a head.0 (ap (parent_of (entries_of o)) same ∙ top.2) in_parent in
          none-some up.0 (sym (ap (parent_of (entries_of o)) same ∙ top.2) ∙ ap (parent_of (entries_of o)) is_a ∙ up.1))
    ] where
      some_parent : (x : Option ℕ) → parent_of (entries_of o) a ≡ x → is_some x ≡ true → (p : ℕ) × (parent_of (entries_of o) a ≡ Some p)
      some_parent None at t = absurd (both_ways _ refl t)
      some_parent (Some p) at t = (p, at)

-- ---- entries that are told by their parts

named_told : (o : Object) (k : ℕ) (e : Entry) → slice_get (entries_of o) k ≡ Some e → is_named_head o k ≡ true → is_named_type e ≡ true
unfolding is_named_head
named_told o k e at is = go (name_of e) refl (parts (takes_part o k e) (is_type e.tag) (option_map_or (tells o k) (name_of e) false) _ (sym (ap (λ (x : Option Entry). option_map_or (is_named_head_entry o k) x false) at) ∙ is)) where
  parts : (a b c d : Bool) → (a && (b && (c && d))) ≡ true → (b ≡ true) × (c ≡ true)
  parts false b c d t = absurd (both_ways _ refl t)
  parts true false c d t = absurd (both_ways _ refl t)
  parts true true false d t = absurd (both_ways _ refl t)
  parts true true true d t = (refl, refl)

  go : (name : Option Text) → name_of e ≡ name → (is_type e.tag ≡ true) × (option_map_or (tells o k) (name_of e) false ≡ true) → is_named_type e ≡ true
  go None none w = absurd (both_ways _ (ap (λ (x : Option Text). option_map_or (tells o k) x false) none) w.1)
  go (Some text) some w = joined (is_type e.tag) (is_some (name_of e)) w.0 (ap (λ (x : Option Text). is_some x) some)

-- a pooled entry that its parts do not tell stands below one in the subtree of a head
pub told_or_inside : (o : Object) (k : ℕ) (e : Entry) → ParentsStandBefore (entries_of o) → slice_get (entries_of o) k ≡ Some e → is_pooled o k ≡ true → is_told_by_parts o k e ≡ false → is_inside o k ≡ true
told_or_inside o k e before at pooled untold = elim (either (is_live o k && is_in_head o k) (is_above_head o k) pooled) [
  | inr above ↦ absurd (never_namespace (eq-eqb e.tag DW_TAG_namespace (above_is_namespace o k e before at above)))
  | inl inside ↦ go (parent_of (entries_of o) k) refl (both (is_live o k) (is_in_head o k) inside).1
] where
  never_namespace : e.tag == DW_TAG_namespace ≡ true → ⊥
  never_namespace is = both_ways _ untold (left_true (e.tag == DW_TAG_namespace) (is_named_type e || is_some (derived_name o k)) is)

  never_head : is_head o k ≡ true → ⊥
  never_head head = elim (either (is_named_head o k) (is_some (derived_name o k)) head) [
    | inl named ↦ both_ways _ untold (right_true (e.tag == DW_TAG_namespace) (is_named_type e || is_some (derived_name o k)) (left_true (is_named_type e) (is_some (derived_name o k)) (named_told o k e at named)))
    | inr derived ↦ both_ways _ untold (right_true (e.tag == DW_TAG_namespace) (is_named_type e || is_some (derived_name o k)) (right_true (is_named_type e) (is_some (derived_name o k)) derived))
  ]

  go : (x : Option ℕ) → parent_of (entries_of o) k ≡ x → is_in_head o k ≡ true → option_map_or (is_in_head o) (parent_of (entries_of o) k) false ≡ true
  go None top inside = absurd (never_head (or_false (is_head o k) (sym (ap (list_any (is_head o)) (lineage_top (entries_of o) k top)) ∙ inside)))
  go (Some p) up inside = elim (either (is_in_head o p) (list_any (is_head o) (k ∷ [])) (sym (ap (list_any (is_head o)) (lineage_below (entries_of o) k p before up) ∙ list_any-append (is_head o) (lineage (entries_of o) p) (k ∷ [])) ∙ inside)) [
    | inl higher ↦ ap (λ (x : Option ℕ). option_map_or (is_in_head o) x false) up ∙ higher
    | inr last ↦ absurd (never_head (or_false (is_head o k) last))
  ]

-- a namespace spells nothing
never : (a c : Bool) {b : Bool} → b ≡ false → (a && (b && c)) ≡ false
never true c is = ap (λ (b : Bool). b && c) is
never false c is = refl

namespace_spells : (o : Object) (k : ℕ) (e : Entry) → slice_get (entries_of o) k ≡ Some e → e.tag ≡ DW_TAG_namespace → spelled_of o k e ≡ None
unfolding derived_name
namespace_spells o k e at space =
    let plain : is_overloaded e ≡ false = ap (λ (tag : ℕ). tag == DW_TAG_subprogram && not (is_some (linkage_of e))) space in
    let no : may_be_derived o k e ≡ false = never (takes_part o k e) (is_clean o k) (ap (λ (tag : ℕ). is_derived tag && is_at_top (entries_of o) e) space) in
    ap (λ (b : Bool). cond b (spelled_parameters (entries_of o) k) (derived_name o k)) plain
    ∙ ap (option_and_then (derived_name_entry o k)) at ∙ ap (λ (b : Bool). cond b (spelling (is_common o) (entries_of o) k) None) no

-- an entry whose tag is not that of a derived type has no spelling as one
underived : (o : Object) (k : ℕ) (e : Entry) → slice_get (entries_of o) k ≡ Some e → is_derived e.tag ≡ false → derived_name o k ≡ None
unfolding derived_name
underived o k e at plain =
    let no : may_be_derived o k e ≡ false = never (takes_part o k e) (is_clean o k) (ap (λ (b : Bool). b && is_at_top (entries_of o) e) plain) in
    ap (option_and_then (derived_name_entry o k)) at ∙ ap (λ (b : Bool). cond b (spelling (is_common o) (entries_of o) k) None) no

-- the text of a pooled entry's piece is told
pub spelled_pooled : (o : Object) (k : ℕ) → ParentsStandBefore (entries_of o) → is_pooled o k ≡ true → IsSpelled o k
spelled_pooled o k before pooled = λ e at. go e at (is_in_head o k) refl where
  go : (e : Entry) → slice_get (entries_of o) k ≡ Some e → (b : Bool) → is_in_head o k ≡ b → piece_text o k ≡ spelled_of o k e
  go e at true inside = spelled_in_head o k inside e at
  go e at false outside = (
      let above : is_above_head o k ≡ true = elim (either (is_live o k && is_in_head o k) (is_above_head o k) pooled) [
        | inl lives ↦ absurd (both_ways _ outside (both (is_live o k) (is_in_head o k) lives).1)
        | inr above ↦ above
      ] in
      let space = above_is_namespace o k e before at above in
      let none : piece_text o k ≡ None = ap (λ (b : Bool). cond b (option_and_then (spelled_of o k) (slice_get (entries_of o) k)) None) outside in
      none ∙ sym (namespace_spells o k e at space))

-- what the code tests, where it knows the spelled text
pub told_is : (o : Object) (k : ℕ) (e : Entry) (spelled : Option Text) → slice_get (entries_of o) k ≡ Some e → spelled ≡ spelled_of o k e
    → (e.tag == DW_TAG_namespace || (is_named_type e || (not (is_overloaded e) && is_some spelled))) ≡ is_told_by_parts o k e
told_is o k e spelled at is = ap (λ (b : Bool). e.tag == DW_TAG_namespace || (is_named_type e || b)) (go (is_overloaded e) refl) where
  go : (b : Bool) → is_overloaded e ≡ b → (not (is_overloaded e) && is_some spelled) ≡ is_some (derived_name o k)
  go false plain = ap (λ (b : Bool). not b && is_some spelled) plain ∙ ap (λ (t : Option Text). is_some t) (is ∙ ap (λ (b : Bool). cond b (spelled_parameters (entries_of o) k) (derived_name o k)) plain)
  go true over = ap (λ (b : Bool). not b && is_some spelled) over ∙ ap (λ (t : Option Text). is_some t) (sym (underived o k e at (ap (λ (tag : ℕ). is_derived tag) (eqb-true e.tag DW_TAG_subprogram (both (e.tag == DW_TAG_subprogram) (not (is_some (linkage_of e))) over).0))))

abbrev bits_tell : ℕ → Bool → Bool → Bool → Bool
bits_tell tag named linked spelled = tag == DW_TAG_namespace || ((is_type tag && named) || (not (tag == DW_TAG_subprogram && not linked) && spelled))

-- a class is told as a structure is
class_tells : (tag : ℕ) (named linked spelled : Bool) → bits_tell (if tag == DW_TAG_class_type then DW_TAG_structure_type else tag) named linked spelled ≡ bits_tell tag named linked spelled
class_tells tag named linked spelled = go (tag == DW_TAG_class_type) refl where
  go : (b : Bool) → tag == DW_TAG_class_type ≡ b → bits_tell (cond b DW_TAG_structure_type tag) named linked spelled ≡ bits_tell tag named linked spelled
  go false other = refl
  go true is = subst (λ (tag : ℕ). bits_tell DW_TAG_structure_type named linked spelled ≡ bits_tell tag named linked spelled) (sym (eqb-true tag DW_TAG_class_type is)) refl

-- whether an entry is told by its parts follows from these alone
pub told_alone : (n : ℕ) (o : Object) (k : ℕ) (e : Entry) → slice_get (entries_of o) k ≡ Some e → tell_alone (parts_of n o k e) ≡ is_told_by_parts o k e
told_alone n o k e at = class_tells e.tag (is_some (name_of e)) (is_some (linkage_of e)) (is_some (spelled_of o k e)) ∙ told_is o k e (spelled_of o k e) at refl

-- a pooled entry that its parts do not tell has its twins counted
pub ordinal_wanted : (n : ℕ) (o : Object) (k : ℕ) (e : Entry) → ParentsStandBefore (entries_of o) → slice_get (entries_of o) k ≡ Some e → is_pooled o k ≡ true → is_told_by_parts o k e ≡ false → wants_ordinal n o k ≡ true
ordinal_wanted n o k e before at pooled untold = wanted n o k (told_or_inside o k e before at pooled untold) (told_told n o k e at ∙ told_alone n o k e at ∙ untold)

-- a unit is not pooled
pub unit_is_plain : (o : Object) (p : ℕ) → parent_of (entries_of o) p ≡ None → is_pooled o p ≡ false
unit_is_plain o p top = go (is_pooled o p) refl where
  go : (b : Bool) → is_pooled o p ≡ b → b ≡ false
  go false is = refl
  go true is = absurd (elim (either (is_live o p && is_in_head o p) (is_above_head o p) is) [
    | inl inside ↦ (
        let head = or_false (is_head o p) (sym (ap (list_any (is_head o)) (lineage_top (entries_of o) p top)) ∙ (both (is_live o p) (is_in_head o p) inside).1) in
        none-some (head_parent o p head).0 (sym top ∙ (head_parent o p head).1))
    | inr above ↦ both_ways _ (ap (λ (x : Option ℕ). is_some x) top) (both (is_some (parent_of (entries_of o) p)) (list_any (λ (e : ℕ × Entry). is_head o e.0 && is_below (entries_of o) p e.0) (enumerate_from 0 (entries_of o))) above).0
  ])

-- ---- ordinals

pub ordinal_told : (n : ℕ) (o : Object) (k : ℕ) (e : Entry) → is_told_by_parts o k e ≡ true → 0 ≡ ordinal_of n o k e
ordinal_told n o k e told = sym (ap (λ (b : Bool). cond b 0 (option_map_or (λ (p : ℕ). length (earlier_twins n o p k (parts_of n o k e))) e.parent 0)) told)

pub ordinal_untold : (n : ℕ) (o : Object) (k : ℕ) (e : Entry) → slice_get (entries_of o) k ≡ Some e → is_told_by_parts o k e ≡ false → twins_before n o k ≡ ordinal_of n o k e
ordinal_untold n o k e at told =
    ap (λ (x : Option Entry). option_map_or (λ (e : Entry). option_map_or (λ (p : ℕ). length (earlier_twins n o p k (parts_of n o k e))) e.parent 0) x 0) at
    ∙ sym (ap (λ (b : Bool). cond b 0 (option_map_or (λ (p : ℕ). length (earlier_twins n o p k (parts_of n o k e))) e.parent 0)) told)
