-- The tests by which heads are told, over rows.
use Rattle.std.proofs.Common.{◌≡◌, ℕ, ◌+◌, ◌<◌, ◌≤◌, ◌==◌, ◌&&◌, ◌||◌, not, Bool, true, false, cond, List, [], ◌∷◌, ◌++◌, length, drop, take, set, replicate, Option, Some, None, is_some, slice_get, refl, sym, ap, ◌∙◌, arith, inl, inr}
use Rattle.std.specs.List.{enumerate_from, filter, filter_map, list_all, list_any}
use Rattle.std.specs.Option.{option_and_then, option_map_or}
use Rattle.std.proofs.lemmas.Bool.{cases_eq, cases_lt, eq-eqb, ne_eqb}
use Rattle.std.proofs.lemmas.List.{get_or-set_other, get_or-set_same, length-replicate, length-set, take_all, take_more}
use Rattle.std.proofs.lemmas.List.Elements.{filter-append, filter_map-append}
use Rattle.std.proofs.lemmas.List.Folds.{list_all-append, list_any-append}
use Rattle.std.proofs.lemmas.Option.{get_or_from_slice_get, slice_get_past, slice_get_within}
use Rattle.dwarf_types.specs.declared.analysis.Analysis.{Analysis}
use Rattle.dwarf_types.specs.declared.entry.Entry.{Entry}
use Rattle.dwarf_types.specs.Tree.{ParentsStandBefore}
use Rattle.type_names.specs.declared.heads.HeadRows.{HeadRows}
use Rattle.type_names.specs.Entries.{is_template_parameter, is_tied}
use Rattle.type_names.specs.HeadRows.{AreRows, HasParametersTo, has_parameter_before, is_open_at, is_tied_at, template_of}
use Rattle.type_names.specs.Heads.{has_template_parameter, is_clean, is_open_namespace, is_reached}
use Rattle.type_names.specs.Objects.{object_of}
use Rattle.type_names.specs.Rows.{IsRow}
use Rattle.type_names.specs.Tree.{below_unit, is_marked, parent_of}
use Rattle.type_names.proofs.Cleaning.{clean_is}
use Rattle.type_names.proofs.Lineages.{lineage_top}
use Rattle.type_names.proofs.Scopes.{one_up}
use Rattle.type_names.proofs.Subtrees.{none_marked}

-- ---- rows as tests

-- the row of a test that no number past the end passes is that test
pub row_is : (test : ℕ → Bool) (n : ℕ) (row : List Bool) → IsRow test n row → ((k : ℕ) → n ≤ k → test k ≡ false) → (k : ℕ) → is_marked row k ≡ test k
row_is test n row is past k = elim (cases_lt k n) [
  | inl within ↦ is.each k within
  | inr beyond ↦ is.none k beyond ∙ sym (past k beyond)
]

pub tied_past : (entries : List Entry) (k : ℕ) → length entries ≤ k → is_tied_at entries k ≡ false
tied_past entries k past = ap (λ (o : Option Entry). option_map_or is_tied o false) (slice_get_past entries k past)

pub clean_by_rows : (seen : Analysis) (live : List Bool) (rows : HeadRows) (k : ℕ) → ParentsStandBefore seen.entries → AreRows seen.entries rows → is_clean (object_of seen live) k ≡ not (is_marked rows.tied k || is_marked rows.tied_below k)
clean_by_rows seen live rows k before are =
    clean_is seen.entries rows.tied rows.tied_below k before (row_is (is_tied_at seen.entries) (length seen.entries) rows.tied are.tied (tied_past seen.entries)) (are.below k)

-- ---- open namespaces

open_top : (entries : List Entry) (k : ℕ) → parent_of entries k ≡ None → is_open_at entries k ≡ true
open_top entries k top = ap (λ (ks : List ℕ). list_all is_open_namespace (filter_map (slice_get entries) (drop 1 ks))) (lineage_top entries k top)

open_below : (entries : List Entry) (k p : ℕ) (e : Entry) → ParentsStandBefore entries → slice_get entries k ≡ Some e → parent_of entries k ≡ Some p → is_open_at entries k ≡ (is_open_at entries p && is_open_namespace e)
open_below entries k p e before at below =
    ap (λ (ks : List ℕ). list_all is_open_namespace (filter_map (slice_get entries) ks)) (one_up entries k p before below)
    ∙ ap (list_all is_open_namespace) (filter_map-append (slice_get entries) (below_unit entries p) (k ∷ []))
    ∙ list_all-append is_open_namespace (filter_map (slice_get entries) (below_unit entries p)) (filter_map (slice_get entries) (k ∷ []))
    ∙ ap (λ (b : Bool). is_open_at entries p && b) last where
      and_true : (b : Bool) → (b && true) ≡ b
      and_true true = refl
      and_true false = refl

      last : list_all is_open_namespace (filter_map (slice_get entries) (k ∷ [])) ≡ is_open_namespace e
      last = rw at (and_true (is_open_namespace e))

pub open_more : (entries : List Entry) (row : List Bool) (k : ℕ) (e : Entry) → ParentsStandBefore entries → slice_get entries k ≡ Some e → ((p : ℕ) → p < k → is_marked row p ≡ is_open_at entries p)
    → option_map_or (λ p. is_marked row p && is_open_namespace e) e.parent true ≡ is_open_at entries k
open_more entries row k e before at so_far = go e.parent refl where
  go : (o : Option ℕ) → e.parent ≡ o → option_map_or (λ p. is_marked row p && is_open_namespace e) o true ≡ is_open_at entries k
  go None is = sym (open_top entries k (rw at is))
  go (Some p) is = rw (so_far p (before k p e at is)) (sym (open_below entries k p e before at (rw at is)))

pub reached_is : (entries : List Entry) (k : ℕ) (e : Entry) → slice_get entries k ≡ Some e → is_reached entries k e ≡ option_map_or (is_open_at entries) e.parent false
reached_is entries k e at = go e.parent refl where
  go : (o : Option ℕ) → e.parent ≡ o → (is_some e.parent && list_all is_open_namespace (filter_map (slice_get entries) (option_map_or (below_unit entries) (option_and_then (λ (e : Entry). e.parent) (slice_get entries k)) []))) ≡ option_map_or (is_open_at entries) o false
  go None is = rw is refl
  go (Some p) is = rw (at, is) refl

-- ---- parameters of templates

pub enumerated_more : {X : Type 0} (n : ℕ) (xs : List X) (x : X) → enumerate_from n (xs ++ x ∷ []) ≡ enumerate_from n xs ++ (n + length xs, x) ∷ []
enumerated_more n [] x = (let here : n ≡ n + 0 = omega arith in ap (λ (m : ℕ). (m, x) ∷ []) here)
enumerated_more {X} n (y ∷ xs) x = (let next : n + 1 + length xs ≡ n + length (y ∷ xs) = omega arith in ap (λ (es : List (ℕ × X)). (n, y) ∷ es) (enumerated_more (n + 1) xs x ∙ ap (λ (m : ℕ). enumerate_from (n + 1) xs ++ (m, x) ∷ []) next))

parameter_more : (entries : List Entry) (i k : ℕ) (e : Entry) → slice_get entries i ≡ Some e → has_parameter_before entries (i + 1) k ≡ (has_parameter_before entries i k || (option_map_or (λ p. p == k) e.parent false && is_template_parameter e.tag))
parameter_more entries i k e at =
    let q : ℕ × Entry → Bool = λ c. option_map_or (λ p. p == k) c.1.parent false in
    let t : ℕ × Entry → Bool = λ c. is_template_parameter c.1.tag in
    let m : ℕ = length (take i entries) in
    let one : take (i + 1) entries ≡ take i entries ++ e ∷ [] = take_more entries i e (slice_get_within entries i e at) ∙ ap (λ (x : Entry). take i entries ++ x ∷ []) (get_or_from_slice_get entries i e e at) in
    ap (λ (es : List Entry). list_any t (filter q (enumerate_from 0 es))) one
    ∙ ap (λ (es : List (ℕ × Entry)). list_any t (filter q es)) (enumerated_more 0 (take i entries) e)
    ∙ ap (list_any t) (filter-append q (enumerate_from 0 (take i entries)) ((0 + m, e) ∷ []))
    ∙ list_any-append t (filter q (enumerate_from 0 (take i entries))) (filter q ((0 + m, e) ∷ []))
    ∙ ap (λ (b : Bool). has_parameter_before entries i k || b) (last (option_map_or (λ p. p == k) e.parent false) (0 + m)) where
      alone : (b : Bool) → (b || false) ≡ b
      alone true = refl
      alone false = refl

      last : (a : Bool) (n : ℕ) → list_any (λ (c : ℕ × Entry). is_template_parameter c.1.tag) (cond a ((n, e) ∷ []) []) ≡ (a && is_template_parameter e.tag)
      last true n = alone (is_template_parameter e.tag)
      last false n = refl

pub parameters_none : (entries : List Entry) → HasParametersTo entries (replicate (length entries) false) 0
parameters_none entries = record {
  len = length-replicate (length entries) false;
  each = λ k within. none_marked (length entries) k;
}

pub parameters_more : (entries : List Entry) (row : List Bool) (i : ℕ) (e : Entry) (o : Option ℕ) → ParentsStandBefore entries → slice_get entries i ≡ Some e → o ≡ template_of e → HasParametersTo entries row i
    → HasParametersTo entries (option_map_or (λ p. set row p true) o row) (i + 1)
parameters_more entries row i e o before at is so_far = go (is_template_parameter e.tag) refl e.parent refl where
  or_false : (b : Bool) → (b || false) ≡ b
  or_false true = refl
  or_false false = refl

  and_false : (b : Bool) → (b && false) ≡ false
  and_false true = refl
  and_false false = refl

  or_true : (b : Bool) → (b || true) ≡ true
  or_true true = refl
  or_true false = refl

  same : o ≡ None → ((k : ℕ) → (option_map_or (λ p. p == k) e.parent false && is_template_parameter e.tag) ≡ false) → HasParametersTo entries (option_map_or (λ p. set row p true) o row) (i + 1)
  same none never = rw none (record {
    len = so_far.len;
    each = λ k within. so_far.each k within ∙ sym (or_false (has_parameter_before entries i k)) ∙ ap (λ (b : Bool). has_parameter_before entries i k || b) (sym (never k)) ∙ sym (parameter_more entries i k e at);
  })

  go : (t : Bool) → is_template_parameter e.tag ≡ t → (parent : Option ℕ) → e.parent ≡ parent → HasParametersTo entries (option_map_or (λ p. set row p true) o row) (i + 1)
  go false t parent at_parent = same (is ∙ ap (λ (b : Bool). cond b e.parent None) t) (λ k. ap (λ (b : Bool). option_map_or (λ p. p == k) e.parent false && b) t ∙ and_false (option_map_or (λ p. p == k) e.parent false))
  go true t None at_parent = same (is ∙ ap (λ (b : Bool). cond b e.parent None) t ∙ at_parent) (λ k. ap (λ (q : Option ℕ). option_map_or (λ p. p == k) q false && is_template_parameter e.tag) at_parent)
  go true t (Some p) at_parent = (
      let some : o ≡ Some p = is ∙ ap (λ (b : Bool). cond b e.parent None) t ∙ at_parent in
      let inside : p < length row = omega (arith, before i p e at at_parent, slice_get_within entries i e at, so_far.len) in
      rw some (record {
        len = length-set row p true ∙ so_far.len;
        each = λ k within. elim (cases_eq k p) [
          | inl here ↦ (
              let found : (option_map_or (λ p. p == k) e.parent false && is_template_parameter e.tag) ≡ true = ap (λ (q : Option ℕ). option_map_or (λ p. p == k) q false && is_template_parameter e.tag) at_parent ∙ ap (λ (b : Bool). b && is_template_parameter e.tag) (eq-eqb p k (sym here)) ∙ t in
              ap (is_marked (set row p true)) here ∙ get_or-set_same row p true false inside ∙ sym (or_true (has_parameter_before entries i k)) ∙ ap (λ (b : Bool). has_parameter_before entries i k || b) (sym found) ∙ sym (parameter_more entries i k e at))
          | inr other ↦ (
              let missed : (option_map_or (λ p. p == k) e.parent false && is_template_parameter e.tag) ≡ false = ap (λ (q : Option ℕ). option_map_or (λ p. p == k) q false && is_template_parameter e.tag) at_parent ∙ ap (λ (b : Bool). b && is_template_parameter e.tag) (ne_eqb p k (λ x. other (sym x))) in
              get_or-set_other row p k true false other ∙ so_far.each k within ∙ sym (or_false (has_parameter_before entries i k)) ∙ ap (λ (b : Bool). has_parameter_before entries i k || b) (sym missed) ∙ sym (parameter_more entries i k e at))
        ];
      }))

pub parameters_all : (entries : List Entry) (row : List Bool) (k : ℕ) → k < length entries → HasParametersTo entries row (length entries) → is_marked row k ≡ has_template_parameter entries k
parameters_all entries row k within are = are.each k within ∙ ap (λ (es : List Entry). list_any (λ (child : ℕ × Entry). is_template_parameter child.1.tag) (filter (λ (e : ℕ × Entry). option_map_or (λ p. p == k) e.1.parent false) (enumerate_from 0 es))) (take_all (length entries) entries (omega arith))
