-- Merged entries have no field that ties them to their unit.
use Rattle.std.proofs.Common.{◌≡◌, ◌⊎◌, inl, inr, ℕ, ◌+◌, ◌==◌, ◌&&◌, ◌||◌, not, Bool, true, false, cond, List, [], ◌∷◌, Option, Some, None, is_some, slice_get, refl, sym, ap, ◌∙◌, arith}
use Rattle.std.specs.List.{cons_option, enumerate_from, filter_map, list_all, list_any}
use Rattle.std.specs.Option.{option_and_then, option_map_or}
use Rattle.std.proofs.lemmas.Bool.{both_ways, eq-eqb, eqb-true}
use Rattle.std.proofs.lemmas.List.Folds.{list_any-append}
use Rattle.std.proofs.lemmas.Option.{none-some, same_Some}
use Rattle.ds_base.specs.DwarfNumbers.{DW_TAG_base_type, DW_TAG_namespace}
use Rattle.dwarf_types.specs.declared.entry.Entry.{Entry}
use Rattle.dwarf_types.specs.Tree.{ParentsStandBefore}
use Rattle.odr_names.proofs.Closed.{head_parent}
use Rattle.type_names.specs.Entries.{has_field, is_type, name_of}
use Rattle.type_names.specs.Heads.{Object, derived_name, derived_name_entry, entries_of, is_above_head, is_clean, is_derived, is_derived_at_top, is_head, is_in_head, is_live, is_named_head, is_named_head_entry, is_open_namespace, is_pooled, is_reached, may_be_derived, takes_part, tells}
use Rattle.type_names.specs.Tree.{below_unit, is_at_top, is_below, is_in, numbers_above, parent_of}
use Rattle.type_names.proofs.Pooling.{any_numbers}
use Rattle.type_names.proofs.Scopes.{one_up}
use Rattle.type_names.proofs.Subtrees.{by_parents, in_below, in_top}
use Rattle.merged_laws.proofs.Plain.{and_parts, not_true, or_cases, or_left, or_right, untied_in_head}

all_here : (test : Entry → Bool) (entries : List Entry) (xs : List ℕ) (a : ℕ) (e : Entry) → slice_get entries a ≡ Some e → list_all test (filter_map (slice_get entries) xs) ≡ true → list_any (λ (j : ℕ). j == a) xs ≡ true → test e ≡ true
all_here test entries [] a e at all here = absurd (both_ways _ refl here)
all_here test entries (x ∷ xs) a e at all here = go (slice_get entries x) refl all (λ h k. all_here test entries xs a e at h k) (or_cases (x == a) (list_any (λ (j : ℕ). j == a) xs) here)
  where
    rest : List Entry
    rest = filter_map (slice_get entries) xs

    go : (o : Option Entry) → slice_get entries x ≡ o → list_all test (cons_option (slice_get entries x) rest) ≡ true → (list_all test rest ≡ true → list_any (λ (j : ℕ). j == a) xs ≡ true → test e ≡ true) → ((x == a) ≡ true) ⊎ (list_any (λ (j : ℕ). j == a) xs ≡ true) → test e ≡ true
    go None found all later (inl same) = absurd (none-some e (sym found ∙ ap (slice_get entries) (eqb-true x a same) ∙ at))
    go None found all later (inr there) = later (ap (λ (o : Option Entry). list_all test (cons_option o rest)) (sym found) ∙ all) there
    go (Some y) found all later (inl same) =
        ap test (same_Some e y (sym at ∙ ap (slice_get entries) (sym (eqb-true x a same)) ∙ found)) ∙ (and_parts (test y) (list_all test rest) (ap (λ (o : Option Entry). list_all test (cons_option o rest)) (sym found) ∙ all)).0
    go (Some y) found all later (inr there) = later (and_parts (test y) (list_all test rest) (ap (λ (o : Option Entry). list_all test (cons_option o rest)) (sym found) ∙ all)).1 there

-- an entry with a parent is one of those below the unit that stand above what is below it
among : (entries : List Entry) (a q m : ℕ) → ParentsStandBefore entries → parent_of entries a ≡ Some q → is_in entries a m ≡ true → list_any (λ (j : ℕ). j == a) (below_unit entries m) ≡ true
among entries a q m before up = by_parents entries (λ (m : ℕ). is_in entries a m ≡ true → list_any (λ (j : ℕ). j == a) (below_unit entries m) ≡ true) before
    (λ m top is. absurd (none-some q (sym top ∙ ap (parent_of entries) (in_top entries a m top is) ∙ up)))
    (λ m p below higher is. elim (in_below entries a m p before below is) [
      | inl above ↦ ap (list_any (λ (j : ℕ). j == a)) (one_up entries m p before below) ∙ list_any-append (λ (j : ℕ). j == a) (below_unit entries p) (m ∷ []) ∙ or_left _ _ (higher above)
      | inr same ↦ ap (list_any (λ (j : ℕ). j == a)) (one_up entries m p before below) ∙ list_any-append (λ (j : ℕ). j == a) (below_unit entries p) (m ∷ []) ∙ or_right _ _ (or_left _ false (eq-eqb m a same))
    ]) m m (omega arith)

module _ (o : Object) where
  abbrev entries : List Entry
  entries = entries_of o

  -- ---- what stands above a head

  reached_by : (a b c d e : Bool) → (a && (b && (c && (d && e)))) ≡ true → d ≡ true
  reached_by a b c d e is = (and_parts d e (and_parts c (d && e) (and_parts b (c && (d && e)) (and_parts a (b && (c && (d && e))) is).1).1).1).0

  named_reached : (h : ℕ) → is_named_head o h ≡ true → (e : Entry) × (is_reached entries h e ≡ true)
  unfolding is_named_head
  named_reached h is = go (slice_get entries h) is
    where
      go : (x : Option Entry) → option_map_or (is_named_head_entry o h) x false ≡ true → (e : Entry) × (is_reached entries h e ≡ true)
      go None t = absurd (both_ways _ refl t)
      go (Some e) t = (e, reached_by (takes_part o h e) (is_type e.tag) (option_map_or (tells o h) (name_of e) false) (is_reached entries h e) (is_clean o h) t)

  derived_top : (h : ℕ) → is_some (derived_name o h) ≡ true → (e : Entry) × (slice_get entries h ≡ Some e) × (is_at_top entries e ≡ true)
  unfolding derived_name
  derived_top h is = go (slice_get entries h) refl is
    where
      decide : (e : Entry) (b : Bool) (text : Option (List ℕ)) → may_be_derived o h e ≡ b → is_some (cond b text None) ≡ true → is_at_top entries e ≡ true
      decide e true text may t = (and_parts (is_derived e.tag) (is_at_top entries e) (and_parts (is_derived_at_top entries e) (is_clean o h) (and_parts (takes_part o h e) _ may).1).0).1
      decide e false text may t = absurd (both_ways _ refl t)

      go : (x : Option Entry) → slice_get entries h ≡ x → is_some (option_and_then (derived_name_entry o h) x) ≡ true → (e : Entry) × (slice_get entries h ≡ Some e) × (is_at_top entries e ≡ true)
      go None at t = absurd (both_ways _ refl t)
      go (Some e) at t = (e, at, decide e (may_be_derived o h e) _ refl t)

  top_parent : (h p : ℕ) (e : Entry) → slice_get entries h ≡ Some e → parent_of entries h ≡ Some p → is_at_top entries e ≡ true → parent_of entries p ≡ None
  top_parent h p e at up top = go e.parent (sym (ap (option_and_then (λ (e : Entry). e.parent)) at) ∙ up) top
    where
      none_above : (x : Option ℕ) → not (is_some x) ≡ true → x ≡ None
      none_above None t = refl
      none_above (Some q) t = absurd (both_ways _ refl t)

      go : (x : Option ℕ) → x ≡ Some p → option_map_or (λ (p : ℕ). is_some (slice_get entries p) && not (is_some (parent_of entries p))) x false ≡ true → parent_of entries p ≡ None
      go None is t = absurd (none-some p is)
      go (Some q) is t = sym (ap (parent_of entries) (same_Some q p is)) ∙ none_above (parent_of entries q) (and_parts (is_some (slice_get entries q)) _ t).1

  -- it is an open namespace
  above_is_open : (a : ℕ) (e : Entry) → ParentsStandBefore entries → slice_get entries a ≡ Some e → is_above_head o a ≡ true → is_open_namespace e ≡ true
  above_is_open a e before at above =
      let parts = and_parts (is_some (parent_of entries a)) (list_any (λ (e : ℕ × Entry). is_head o e.0 && is_below entries a e.0) (enumerate_from 0 entries)) above in
      let up = some_parent (parent_of entries a) refl parts.0 in
      let each = any_numbers (λ (k : ℕ). is_head o k && is_below entries a k) entries 0 in
      let w = each.0 parts.1 in
      let zeroth : 0 + w.0 ≡ w.0 = omega arith in
      let found = and_parts (is_head o w.0) (is_below entries a w.0) (ap (λ (k : ℕ). is_head o k && is_below entries a k) (sym zeroth) ∙ w.2) in
      let below = and_parts (not (w.0 == a)) (is_in entries a w.0) found.1 in
      let head = head_parent o w.0 found.0 in
      let inside : is_in entries a head.0 ≡ true = elim (in_below entries a w.0 head.0 before head.1 below.1) [
        | inl higher ↦ higher
        | inr same ↦ absurd (both_ways _ (not_true (w.0 == a) below.0) (eq-eqb w.0 a same))
      ] in
      elim (or_cases (is_named_head o w.0) (is_some (derived_name o w.0)) found.0) [
        | inl named ↦ (
            let reached = (and_parts (is_some (named_reached w.0 named).0.parent) _ (named_reached w.0 named).1).1 in
            let numbers : numbers_above entries w.0 ≡ below_unit entries head.0 = ap (λ (p : Option ℕ). option_map_or (below_unit entries) p []) head.1 in
            all_here is_open_namespace entries (below_unit entries head.0) a e at (ap (λ (xs : List ℕ). list_all is_open_namespace (filter_map (slice_get entries) xs)) (sym numbers) ∙ reached) (among entries a up.0 head.0 before up.1 inside))
        | inr derived ↦ absurd (
            let it = derived_top w.0 derived in
            let top = top_parent w.0 head.0 it.0 it.1 head.1 it.2 in
            none-some up.0 (sym top ∙ ap (parent_of entries) (in_top entries a head.0 top inside) ∙ up.1))
      ]
    where
      some_parent : (x : Option ℕ) → parent_of entries a ≡ x → is_some x ≡ true → (p : ℕ) × (parent_of entries a ≡ Some p)
      some_parent None at t = absurd (both_ways _ refl t)
      some_parent (Some p) at t = (p, at)

  -- ---- pooled entries

  none_right : (a b : Bool) → (a || b) ≡ false → b ≡ false
  none_right true b is = absurd (both_ways _ is refl)
  none_right false b is = is

  pub no_field : (k : ℕ) (e : Entry) → ParentsStandBefore entries → slice_get entries k ≡ Some e → is_pooled o k ≡ true → has_field e ≡ false
  no_field k e before at pooled = elim (or_cases (is_live o k && is_in_head o k) (is_above_head o k) pooled) [
    | inl inside ↦ none_right (e.tag == DW_TAG_base_type) (has_field e) (untied_in_head o k e at (and_parts (is_live o k) (is_in_head o k) inside).1)
    | inr above ↦ not_true (has_field e) (and_parts (is_some (name_of e)) (not (has_field e)) (and_parts (e.tag == DW_TAG_namespace) _ (above_is_open k e before at above)).1).1
  ]
