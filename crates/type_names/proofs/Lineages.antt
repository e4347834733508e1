-- The lineage of an entry is that of its parent, and itself.
use Rattle.std.proofs.Common.{◌≡◌, ℕ, zero, suc, ◌<◌, ◌≤◌, Bool, true, false, List, [], ◌∷◌, ◌++◌, Option, Some, None, refl, sym, ap, ◌∙◌, arith, slice_get, ◌||◌}
use Rattle.std.specs.List.{list_any}
use Rattle.std.specs.Option.{option_and_then, option_map_or}
use Rattle.std.proofs.lemmas.List.Folds.{list_any-append}
use Rattle.dwarf_types.specs.declared.entry.Entry.{Entry}
use Rattle.dwarf_types.specs.Tree.{ParentsStandBefore}
use Rattle.type_names.specs.Tree.{is_marked, lineage, lineage_of, parent_of}

-- the parent stands before
pub parent_before : (entries : List Entry) (k p : ℕ) → ParentsStandBefore entries → parent_of entries k ≡ Some p → p < k
parent_before entries k p before is = go (slice_get entries k) refl is where
  go : (o : Option Entry) → slice_get entries k ≡ o → option_and_then (λ (e : Entry). e.parent) o ≡ Some p → p < k
  go None at is = absurd (cc)
  go (Some e) at is = before k p e at is

-- two bounds that are not below the entry's number give one lineage
same_lineage : (n m : ℕ) (entries : List Entry) (k : ℕ) → ParentsStandBefore entries → k ≤ n → k ≤ m → lineage_of n entries k ≡ lineage_of m entries k
same_lineage zero zero entries k before a b = refl
same_lineage zero (suc m) entries k before a b = go (parent_of entries k) refl where
  go : (o : Option ℕ) → parent_of entries k ≡ o → k ∷ [] ≡ option_map_or (lineage_of m entries) (parent_of entries k) [] ++ k ∷ []
  go None is = rw is refl
  go (Some p) is = let h = parent_before entries k p before is in absurd (omega arith)
same_lineage (suc n) zero entries k before a b = go (parent_of entries k) refl where
  go : (o : Option ℕ) → parent_of entries k ≡ o → option_map_or (lineage_of n entries) (parent_of entries k) [] ++ k ∷ [] ≡ k ∷ []
  go None is = rw is refl
  go (Some p) is = let h = parent_before entries k p before is in absurd (omega arith)
same_lineage (suc n) (suc m) entries k before a b = go (parent_of entries k) refl (λ p h. same_lineage n m entries p before (omega arith) (omega arith)) where
  go : (o : Option ℕ) → parent_of entries k ≡ o → ((p : ℕ) → p < k → lineage_of n entries p ≡ lineage_of m entries p)
      → option_map_or (lineage_of n entries) (parent_of entries k) [] ++ k ∷ [] ≡ option_map_or (lineage_of m entries) (parent_of entries k) [] ++ k ∷ []
  go None is above = rw is refl
  go (Some p) is above = rw is (ap (λ (xs : List ℕ). xs ++ k ∷ []) (above p (parent_before entries k p before is)))

pub lineage_top : (entries : List Entry) (k : ℕ) → parent_of entries k ≡ None → lineage entries k ≡ k ∷ []
unfolding lineage
lineage_top entries zero is = refl
lineage_top entries (suc k) is = rw is refl

pub lineage_below : (entries : List Entry) (k p : ℕ) → ParentsStandBefore entries → parent_of entries k ≡ Some p → lineage entries k ≡ lineage entries p ++ k ∷ []
unfolding lineage
lineage_below entries zero p before is = absurd (omega (arith, parent_before entries zero p before is))
lineage_below entries (suc k) p before is =
    let h = parent_before entries (suc k) p before is in
    rw is (ap (λ (xs : List ℕ). xs ++ suc k ∷ []) (same_lineage k p entries p before (omega arith) (omega arith)))

-- ---- tests over lineages

any_top : (entries : List Entry) (test : ℕ → Bool) (k : ℕ) → parent_of entries k ≡ None → list_any test (lineage entries k) ≡ test k
any_top entries test k is = rw (lineage_top entries k is) (or_false (test k)) where
  or_false : (b : Bool) → (b || false) ≡ b
  or_false true = refl
  or_false false = refl

any_below : (entries : List Entry) (test : ℕ → Bool) (k p : ℕ) → ParentsStandBefore entries → parent_of entries k ≡ Some p
    → list_any test (lineage entries k) ≡ (test k || list_any test (lineage entries p))
any_below entries test k p before is =
    rw (lineage_below entries k p before is, list_any-append test (lineage entries p) (k ∷ [])) (turned (list_any test (lineage entries p)) (test k)) where
      turned : (a b : Bool) → (a || (b || false)) ≡ (b || a)
      turned true true = refl
      turned true false = refl
      turned false true = refl
      turned false false = refl

-- an entry passes, or its parent stands where the row tells it
any_more : (entries : List Entry) (test : ℕ → Bool) (row : List Bool) (k : ℕ) (e : Entry) → ParentsStandBefore entries → slice_get entries k ≡ Some e
    → ((p : ℕ) → p < k → is_marked row p ≡ list_any test (lineage entries p))
    → (test k || option_map_or (is_marked row) e.parent false) ≡ list_any test (lineage entries k)
any_more entries test row k e before at so_far = go e.parent refl where
  go : (o : Option ℕ) → e.parent ≡ o → (test k || option_map_or (is_marked row) o false) ≡ list_any test (lineage entries k)
  go None is = or_false (test k) ∙ sym (any_top entries test k (rw at is)) where
    or_false : (b : Bool) → (b || false) ≡ b
    or_false true = refl
    or_false false = refl
  go (Some p) is =
      let above = so_far p (before k p e at is) in
      rw above (sym (any_below entries test k p before (rw at is)))

pub inside_more : (entries : List Entry) (test : ℕ → Bool) (row : List Bool) (k : ℕ) (e : Entry) (passes : Bool) (parent : Option ℕ) → ParentsStandBefore entries → slice_get entries k ≡ Some e
    → ((p : ℕ) → p < k → is_marked row p ≡ list_any test (lineage entries p)) → passes ≡ test k → parent ≡ e.parent
    → (passes || option_map_or (is_marked row) parent false) ≡ list_any test (lineage entries k)
inside_more entries test row k e passes parent before at so_far is above =
    (λ i. is i || option_map_or (is_marked row) (above i) false) ∙ any_more entries test row k e before at so_far
