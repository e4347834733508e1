-- How deep each node stands, by the nodes before it.
use Rattle.std.proofs.Common.{◌≡◌, ℕ, zero, suc, ◌+◌, ◌<◌, ◌≤◌, ◌∷◌, [], List, All, if◌then◌else◌, Bool, true, false, nat_lt, get_or, length, map, slice_get, slice_index, Option, Some, None, inl, inr, sym, ap, subst, ◌∙◌, arith}
use Rattle.std.specs.List.{range_with_len}
use Rattle.std.specs.Option.{option_and_then, option_map_or}
use Rattle.std.proofs.lemmas.Bool.{cases_lt}
use Rattle.std.proofs.lemmas.List.{get_or_past}
use Rattle.std.proofs.lemmas.List.FromFn.{get_or-map-range_with_len, length-map-range_with_len}
use Rattle.std.proofs.lemmas.Option.{slice_get-get_or, slice_get_past}
use Rattle.dwarf_types.specs.declared.graph.Node.{Node}
use Rattle.dwarf_types.specs.Entries.{ancestors_up, depth_of, parent_of}
use Rattle.dwarf_types.proofs.Ancestors.{ancestors_of_child, ancestors_of_stray, no_ancestors}
use Rattle.unit_draft.specs.Depths.{depths_of}

module _ (nodes : List Node) where
  abbrev first_depths : ℕ → List ℕ
  first_depths n = map (depth_of nodes) (range_with_len 0 n)

  told : (n k : ℕ) → k < n → slice_index (first_depths n) k ≡ depth_of nodes k
  told n k lt = get_or-map-range_with_len (depth_of nodes) 0 n k k 0 lt (omega arith)

  untold : (n k : ℕ) → n ≤ k → slice_index (first_depths n) k ≡ 0
  untold n k le = get_or_past (first_depths n) k 0 (omega (arith, le, length-map-range_with_len (depth_of nodes) 0 n))

  -- the parent of a node, as it is told of each node that stands there
  pub parent_told : (k : ℕ) (parent : Option ℕ) → k < length nodes → ((n : Node) → slice_get nodes k ≡ Some n → parent ≡ n.parent) → parent_of nodes k ≡ parent
  parent_told k parent lt is =
      let blank : Node = record { parent = None; tag = 0; attrs = [] } in
      let at = slice_get-get_or nodes k blank lt in
      ap (option_and_then (λ (n : Node). n.parent)) at ∙ sym (is (get_or nodes k blank) at)

  -- the depth of the next node, by those before it
  pub next_depth : (depths : List ℕ) (k depth : ℕ) (parent : Option ℕ) → depths ≡ map (depth_of nodes) (range_with_len 0 k) → parent_of nodes k ≡ parent
      → depth ≡ option_map_or (λ p. slice_index depths p + 1) parent 0 → depth ≡ depth_of nodes k
  next_depth depths k depth None depths_are parent is = is ∙ sym (ap length (no_ancestors nodes k parent))
  next_depth depths k depth (Some p) depths_are parent is = elim (cases_lt p k) [
    | inl lt ↦ omega (arith, is, ap (λ (ds : List ℕ). slice_index ds p) depths_are, told k p lt, ap length (ancestors_of_child nodes k p parent lt))
    | inr le ↦ omega (arith, is, ap (λ (ds : List ℕ). slice_index ds p) depths_are, untold k p le, ap length (ancestors_of_stray nodes k p parent le))
  ]

  -- the depth of a node; 0 behind the last
  pub depth_is : (k : ℕ) → slice_index (depths_of nodes) k ≡ depth_of nodes k
  depth_is k = elim (cases_lt k (length nodes)) [
    | inl lt ↦ told (length nodes) k lt
    | inr le ↦ untold (length nodes) k le ∙ sym (ap length (no_ancestors nodes k (ap (option_and_then (λ (n : Node). n.parent)) (slice_get_past nodes k le))))
  ]

  -- there are no more ancestors than are asked for
  few_ancestors : (most k : ℕ) → length (ancestors_up most nodes k) ≤ most
  few_ancestors zero k = omega arith
  few_ancestors (suc most) k = by (few_ancestors most) (parent_of nodes k)
    where
      rest : ((p : ℕ) → length (ancestors_up most nodes p) ≤ most) → (further : Bool) (p : ℕ) → length (if further then ancestors_up most nodes p else []) ≤ most
      rest few true p = few p
      rest few false p = omega arith

      by : ((p : ℕ) → length (ancestors_up most nodes p) ≤ most) → (parent : Option ℕ) → length (option_map_or (λ p. p ∷ (if nat_lt p k then ancestors_up most nodes p else [])) parent []) ≤ suc most
      by few None = omega arith
      by few (Some p) = let h = rest few (nat_lt p k) p in omega (arith, h)

  pub depths_small : (depths : List ℕ) (n most : ℕ) → depths ≡ map (depth_of nodes) (range_with_len 0 n) → n < most → All (λ depth. depth < most) depths
  depths_small depths n most are lt = subst (λ (ds : List ℕ). All (λ depth. depth < most) ds) (sym are)
      (λ k d within.
      let inside : k < n = omega (arith, within, length-map-range_with_len (depth_of nodes) 0 n) in
      omega (arith, lt, inside, get_or-map-range_with_len (depth_of nodes) 0 n k k d inside (omega arith), few_ancestors (k + 1) k))

-- a depth among small ones, or none
pub small_depth : (depths : List ℕ) (p most : ℕ) → All (λ depth. depth < most) depths → 0 < most → slice_index depths p < most
small_depth depths p most small some = elim (cases_lt p (length depths)) [
  | inl lt ↦ small p 0 lt
  | inr le ↦ omega (arith, some, get_or_past depths p 0 le)
]
