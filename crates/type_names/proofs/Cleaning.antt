-- A subtree is clean where neither its entry nor one below it is tied, as two rows tell.
use Rattle.std.proofs.Common.{◌≡◌, ◌↔◌, ◌+◌, ◌==◌, ◌||◌, ◌&&◌, not, inl, inr, ℕ, zero, suc, Bool, true, false, List, [], ◌∷◌, map, Option, Some, None, refl, sym, ap, ◌∙◌, arith, slice_get, cond}
use Rattle.std.specs.List.{enumerate_from, filter, list_all}
use Rattle.std.proofs.lemmas.Bool.{both_ways, cases_Bool, cases_eq, false_from_ne_true, ne_eqb}
use Rattle.dwarf_types.specs.declared.entry.Entry.{Entry}
use Rattle.dwarf_types.specs.Tree.{ParentsStandBefore}
use Rattle.type_names.specs.Tree.{HasMarkedBelow, is_below, is_in, is_marked, subtree}
use Rattle.std.specs.Option.{option_map_or}
use Rattle.type_names.specs.Entries.{is_tied}
use Rattle.type_names.specs.HeadRows.{is_tied_at}
use Rattle.type_names.proofs.Subtrees.{in_itself}

and_both : (a b : Bool) → (a && b) ≡ true → (a ≡ true) × (b ≡ true)
and_both true b is = (refl, is)
and_both false b is = absurd (cc)

and_from : (a b : Bool) → a ≡ true → b ≡ true → (a && b) ≡ true
and_from true b x y = y
and_from false b x y = absurd (cc)

-- all of those that pass a test on their numbers
all_chosen : (p : Entry → Bool) (q : ℕ → Bool) (es : List Entry) (n : ℕ) → (list_all p (map (λ e. e.1) (filter (λ e. q e.0) (enumerate_from n es))) ≡ true) ↔ ((i : ℕ) (e : Entry) → slice_get es i ≡ Some e → q (n + i) ≡ true → p e ≡ true)
all_chosen p q [] n = ((λ all i e at. absurd (cc)), (λ each. refl))
all_chosen p q (x ∷ es) n = go (q n) refl (all_chosen p q es (n + 1)) where
  rest : ℕ → List Entry
  rest m = map (λ (e : ℕ × Entry). e.1) (filter (λ (e : ℕ × Entry). q e.0) (enumerate_from m es))

  later : ((i : ℕ) (e : Entry) → slice_get es i ≡ Some e → q (n + 1 + i) ≡ true → p e ≡ true) → (q n ≡ true → p x ≡ true) → (i : ℕ) (e : Entry) → slice_get (x ∷ es) i ≡ Some e → q (n + i) ≡ true → p e ≡ true
  later each first zero e at is = (let same : x ≡ e = (cc) in let here : n + zero ≡ n = omega arith in ap p (sym same) ∙ first (ap q (sym here) ∙ is))
  later each first (suc i) e at is = (let next : n + 1 + i ≡ n + suc i = omega arith in each i e at (ap q next ∙ is))

  earlier : ((i : ℕ) (e : Entry) → slice_get (x ∷ es) i ≡ Some e → q (n + i) ≡ true → p e ≡ true) → (i : ℕ) (e : Entry) → slice_get es i ≡ Some e → q (n + 1 + i) ≡ true → p e ≡ true
  earlier each i e at is = (let next : n + 1 + i ≡ n + suc i = omega arith in each (suc i) e at (ap q (sym next) ∙ is))

  go : (b : Bool) → q n ≡ b → (list_all p (rest (n + 1)) ≡ true) ↔ ((i : ℕ) (e : Entry) → slice_get es i ≡ Some e → q (n + 1 + i) ≡ true → p e ≡ true)
      → (list_all p (map (λ (e : ℕ × Entry). e.1) (cond (q n) ((n, x) ∷ filter (λ (e : ℕ × Entry). q e.0) (enumerate_from (n + 1) es)) (filter (λ (e : ℕ × Entry). q e.0) (enumerate_from (n + 1) es)))) ≡ true)
      ↔ ((i : ℕ) (e : Entry) → slice_get (x ∷ es) i ≡ Some e → q (n + i) ≡ true → p e ≡ true)
  go true is so_far = rw is (
    (λ all. (let parts = and_both (p x) (list_all p (rest (n + 1))) all in later (so_far.0 parts.1) (λ h. parts.0))),
    (λ each. (let here : n + zero ≡ n = omega arith in and_from (p x) (list_all p (rest (n + 1))) (each zero x refl (ap q here ∙ is)) (so_far.1 (earlier each)))),
  )
  go false is so_far = rw is (
    (λ all. later (so_far.0 all) (λ h. absurd (both_ways _ is h))),
    (λ each. so_far.1 (earlier each)),
  )

tied_at : (entries : List Entry) (tied : List Bool) (k : ℕ) (e : Entry) → ((j : ℕ) → is_marked tied j ≡ is_tied_at entries j) → slice_get entries k ≡ Some e → is_marked tied k ≡ is_tied e
tied_at entries tied k e row at = row k ∙ ap (λ (o : Option Entry). option_map_or is_tied o false) at

untied_past : (entries : List Entry) (tied : List Bool) (k : ℕ) → ((j : ℕ) → is_marked tied j ≡ is_tied_at entries j) → slice_get entries k ≡ None → is_marked tied k ≡ false
untied_past entries tied k row none = row k ∙ ap (λ (o : Option Entry). option_map_or is_tied o false) none

pub clean_is : (entries : List Entry) (tied below : List Bool) (k : ℕ) → ParentsStandBefore entries → ((j : ℕ) → is_marked tied j ≡ is_tied_at entries j) → ((is_marked below k ≡ true) ↔ HasMarkedBelow entries tied k)
    → list_all (λ e. not (is_tied e)) (subtree entries k) ≡ not (is_marked tied k || is_marked below k)
clean_is entries tied below k before row told = go (is_marked tied k) refl (is_marked below k) refl where
  each : (list_all (λ e. not (is_tied e)) (subtree entries k) ≡ true) ↔ ((i : ℕ) (e : Entry) → slice_get entries i ≡ Some e → is_in entries k (0 + i) ≡ true → not (is_tied e) ≡ true)
  each = all_chosen (λ e. not (is_tied e)) (λ j. is_in entries k j) entries 0

  -- a tied entry of the subtree spoils it
  spoilt : (j : ℕ) → is_in entries k j ≡ true → is_marked tied j ≡ true → list_all (λ e. not (is_tied e)) (subtree entries k) ≡ false
  spoilt j inside is = false_from_ne_true (list_all (λ e. not (is_tied e)) (subtree entries k)) (λ all. found (slice_get entries j) refl all) where
    found : (o : Option Entry) → slice_get entries j ≡ o → list_all (λ e. not (is_tied e)) (subtree entries k) ≡ true → ⊥
    found None none all = both_ways _ (untied_past entries tied j row none) is
    found (Some e) at all = (let here : 0 + j ≡ j = omega arith in let t = each.0 all j e at (ap (is_in entries k) here ∙ inside) in let u : is_tied e ≡ true = sym (tied_at entries tied j e row at) ∙ is in let f = ap not u in cc)

  go : (a : Bool) → is_marked tied k ≡ a → (b : Bool) → is_marked below k ≡ b → list_all (λ e. not (is_tied e)) (subtree entries k) ≡ not (a || b)
  go true own b is = spoilt k (in_itself entries k before) own
  go false own true is = (let it = told.0 is in spoilt it.0 (in_below_of it.0 it.1) it.2) where
    in_below_of : (j : ℕ) → is_below entries k j ≡ true → is_in entries k j ≡ true
    in_below_of j h = (and_both (not (j == k)) (is_in entries k j) h).1
  go false own false is = each.1 (λ i e at inside. elim (cases_Bool (is_tied e)) [
    | inr untied ↦ ap not untied
    | inl t ↦ absurd (
        let here : 0 + i ≡ i = omega arith in
        let marked : is_marked tied i ≡ true = tied_at entries tied i e row at ∙ t in
        elim (cases_eq i k) [
          | inl same ↦ both_ways _ own (ap (is_marked tied) (sym same) ∙ marked)
          | inr other ↦ both_ways _ is (told.1 (i, and_from (not (i == k)) (is_in entries k i) (ap not (ne_eqb i k other)) (ap (is_in entries k) (sym here) ∙ inside), marked))
        ])
  ])
