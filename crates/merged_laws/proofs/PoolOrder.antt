-- The nodes of merged entries stand in preorder.
use Rattle.std.proofs.Common.{◌≡◌, inl, inr, ℕ, zero, suc, ◌+◌, ◌<◌, ◌≤◌, Bool, false, List, [], ◌∷◌, ◌++◌, length, map, slice_get, Option, Some, None, refl, sym, ap, subst, ◌∙◌, arith, append_assoc, append-nil, length-append}
use Rattle.std.specs.List.{All, AllPairs, Contains, flat_map, position}
use Rattle.std.specs.Option.{option_and_then, option_map}
use Rattle.std.proofs.lemmas.Bool.{cases_eq, cases_lt, false_from_ne_true}
use Rattle.std.proofs.lemmas.List.Elements.{All-contains_itself, All-head, All-tail, All-weaker}
use Rattle.std.proofs.lemmas.Option.{none-some, same_Some, slice_get-map, slice_get_within}
use Rattle.dwarf_types.specs.declared.graph.Node.{Node}
use Rattle.dwarf_types.specs.WellNodes.{IsPreorderParent, IsUp}
use Rattle.link_graph.specs.Pool.{children_of, node_above, node_of_path, pool_names, preorder, same_path}
use Rattle.link_graph.proofs.Positions.{position_found}
use Rattle.type_names.specs.Names.{Named}
use Rattle.type_names.specs.Paths.{Piece}
use Rattle.merged_laws.proofs.Members.{Apart, apart_before}
use Rattle.merged_laws.proofs.Names.{paths_same, same_paths}
use Rattle.merged_laws.proofs.PathTree.{Differs, above_is, branch, child_above, pool_apart}

at_seam : {A : Type 0} (xs : List A) (y : A) (zs : List A) → slice_get (xs ++ y ∷ zs) (length xs) ≡ Some y
at_seam [] y zs = refl
at_seam (x ∷ xs) y zs = at_seam xs y zs

-- one chain of parents behind the other
up_then : (nodes : List Node) (m n k j a : ℕ) → IsUp nodes m k j → IsUp nodes n j a → IsUp nodes (m + n) k a
up_then nodes zero n k j a first second = subst (λ (x : ℕ). IsUp nodes (zero + n) x a) first (subst (λ (x : ℕ). IsUp nodes x j a) (let same : n ≡ zero + n = omega arith in same) second)
up_then nodes (suc m) n k j a first second =
    subst (λ (x : ℕ). IsUp nodes x k a) (let same : suc (m + n) ≡ suc m + n = omega arith in same)
    (first.0, first.1, first.2, first.3, up_then nodes m n first.1 j a first.4 second)

module _ (ns : List Named) (bids : AllPairs (λ a b. a.bid ≡ b.bid → ⊥) ns) (root : Node) (f : Named → Node) (parent_is : (w : Named) → (f w).parent ≡ node_above ns w.path) where
  abbrev all : List Named
  all = pool_names ns

  abbrev nodes : List Node
  nodes = root ∷ map f all

  -- the name behind these stands at the node behind as many
  node_found : (before : List Named) (w : Named) (behind : List Named) (path : List Piece) → all ≡ before ++ w ∷ behind → w.path ≡ path → (path ≡ [] → ⊥) → node_of_path ns path ≡ Some (length before + 1)
  node_found before w behind [] whole is some = absurd (some refl)
  node_found before w behind (p ∷ path) whole is some =
      let test : Named → Bool = λ w. same_path w.path (p ∷ path) in
      let apart : Apart Differs (before ++ w ∷ behind) = subst (Apart Differs) whole (pool_apart ns bids) in
      let none : All (λ v. test v ≡ false) before = All-weaker (λ v. Differs v w) (λ v. test v ≡ false) (λ v differ. false_from_ne_true (test v) (λ same. differ (paths_same v.path (p ∷ path) same ∙ sym is))) before (apart_before Differs before w behind apart) in
      ap (option_map (λ (n : ℕ). n + 1)) (ap (position test) whole ∙ position_found test before w behind none (ap (λ (q : List Piece). same_path q (p ∷ path)) is ∙ same_paths (p ∷ path)))

  node_at : (before : List Named) (w : Named) (behind : List Named) → all ≡ before ++ w ∷ behind → slice_get nodes (length before + 1) ≡ Some (f w)
  node_at before w behind whole =
      let next : length before + 1 ≡ suc (length before) = omega arith in
      ap (slice_get nodes) next ∙ slice_get-map f all (length before) ∙ ap (option_map f) (ap (λ (ws : List Named). slice_get ws (length before)) whole ∙ at_seam before w behind)

  -- the name at a place has a parent in preorder
  abbrev IsPlaced : ℕ → Type 0
  IsPlaced j = (v : Named) → slice_get all j ≡ Some v → IsPreorderParent nodes j (node_above ns v.path)

  -- so have all of a stretch, and its last node stands below one
  record AreBelow (from count q : ℕ) : Type 0 where
    placed : (j : ℕ) → from ≤ j → j < from + count → IsPlaced j
    steps : ℕ
    up : IsUp nodes steps (from + count) q

  none_below : (from q steps : ℕ) → IsUp nodes steps from q → AreBelow from 0 q
  none_below from q steps up = record {
    placed = λ j le lt. absurd (omega (arith, le, lt));
    steps = steps;
    up = subst (λ (n : ℕ). IsUp nodes steps n q) (let same : from ≡ from + 0 = omega arith in same) up;
  }

  abbrev Subtrees : ℕ → Type 0
  Subtrees levels = (path : List Piece) (before behind : List Named) (q steps : ℕ) → all ≡ before ++ (preorder levels ns path ++ behind) → node_of_path ns path ≡ Some q → q ≤ length before → IsUp nodes steps (length before) q
      → AreBelow (length before) (length (preorder levels ns path)) q

  not_empty : (path : List Piece) (piece : Piece) → path ++ piece ∷ [] ≡ [] → ⊥
  not_empty path piece is = (let long = ap length is ∙ refl in omega (arith, length-append path (piece ∷ []), long))

  branches : (levels : ℕ) → Subtrees levels → (path : List Piece) (cs before behind : List Named) (q steps : ℕ) → All (Contains (children_of ns path)) cs → all ≡ before ++ (flat_map (branch ns levels) cs ++ behind) → node_of_path ns path ≡ Some q → q ≤ length before
      → IsUp nodes steps (length before) q → AreBelow (length before) (length (flat_map (branch ns levels) cs)) q
  branches levels below path [] before behind q steps are whole is le up = none_below (length before) q steps up
  branches levels below path (w ∷ cs) before behind q steps are whole is le up =
      let child = child_above ns path w (All-head (Contains (children_of ns path)) w cs are) in
      let inner = preorder levels ns w.path in
      let rest = flat_map (branch ns levels) cs in
      let parent : node_above ns w.path ≡ Some q = ap (option_and_then (node_of_path ns)) child.1 ∙ is in
      let own_place : all ≡ before ++ w ∷ (inner ++ (rest ++ behind)) = whole ∙ ap (λ (xs : List Named). before ++ w ∷ xs) (append_assoc inner rest behind) in
      let piece = above_is w.path path child.1 in
      let its_node = node_found before w (inner ++ (rest ++ behind)) w.path own_place refl (λ none. not_empty path piece.0 (sym piece.1 ∙ none)) in
      let at = node_at before w (inner ++ (rest ++ behind)) own_place in
      let len_own : length (before ++ w ∷ []) ≡ length before + 1 = length-append before (w ∷ []) in
      -- its own subtree
      let in_order : all ≡ (before ++ w ∷ []) ++ (inner ++ (rest ++ behind)) = own_place ∙ sym (append_assoc before (w ∷ []) (inner ++ (rest ++ behind))) in
      let sub = below w.path (before ++ w ∷ []) (rest ++ behind) (length before + 1) 0 in_order its_node (omega (arith, len_own)) (let same : length (before ++ w ∷ []) ≡ length before + 1 = len_own in sym same) in
      -- the last node there, and the way up to the parent
      let last : length (before ++ w ∷ []) + length inner ≡ length (before ++ w ∷ inner) = omega (arith, len_own, length-append before (w ∷ inner)) in
      let higher : IsUp nodes 1 (length before + 1) q = (f w, q, at, parent_is w ∙ parent, refl) in
      let up_last : IsUp nodes (sub.steps + 1) (length (before ++ w ∷ inner)) q = subst (λ (n : ℕ). IsUp nodes (sub.steps + 1) n q) last (up_then nodes sub.steps 1 (length (before ++ w ∷ []) + length inner) (length before + 1) q sub.up higher) in
      -- its siblings
      let behind_place : all ≡ (before ++ w ∷ inner) ++ (rest ++ behind) = own_place ∙ sym (append_assoc before (w ∷ inner) (rest ++ behind)) in
      let others = branches levels below path cs (before ++ w ∷ inner) behind q (sub.steps + 1) (All-tail (Contains (children_of ns path)) w cs are) behind_place is (omega (arith, le, length-append before (w ∷ inner))) up_last in
      let here : IsPlaced (length before) = (λ v found.
      let same : w ≡ v = same_Some w v (sym (ap (λ (ws : List Named). slice_get ws (length before)) own_place ∙ at_seam before w (inner ++ (rest ++ behind))) ∙ found) in
      subst (λ (v : Named). IsPreorderParent nodes (length before) (node_above ns v.path)) same (record { number = q; is = parent; earlier = le; steps = steps; up = up })) in
      let total : length before + length (w ∷ (inner ++ rest)) ≡ length (before ++ w ∷ inner) + length rest = omega (arith, length-append inner rest, length-append before (w ∷ inner)) in
      record {
        placed = λ j from to. elim (cases_eq j (length before)) [
          | inl first ↦ subst IsPlaced (sym first) here
          | inr later ↦ elim (cases_lt j (length (before ++ w ∷ inner))) [
            | inl inside ↦ sub.placed j (omega (arith, len_own, from, later)) (omega (arith, inside, last))
            | inr outside ↦ others.placed j outside (omega (arith, to, total))
          ]
        ];
        steps = others.steps;
        up = subst (λ (n : ℕ). IsUp nodes others.steps n q) (sym total) others.up;
      }

  subtrees : (levels : ℕ) → Subtrees levels
  unfolding preorder
  subtrees zero path before behind q steps whole is le up = none_below (length before) q steps up
  subtrees (suc levels) path before behind q steps whole is le up = branches levels (subtrees levels) path (children_of ns path) before behind q steps (All-contains_itself (children_of ns path)) whole is le up

  -- node j of these stands right behind node j of the unit
  pub pool_preorder : (j : ℕ) (node : Node) → slice_get (map f all) j ≡ Some node → IsPreorderParent nodes j node.parent
  pool_preorder j node at = go (slice_get all j) refl (sym (slice_get-map f all j) ∙ at)
    where
      go : (o : Option Named) → slice_get all j ≡ o → option_map f o ≡ Some node → IsPreorderParent nodes j node.parent
      go None none e = absurd (none-some node e)
      go (Some v) some e =
          let whole = subtrees (length ns) [] [] [] 0 0 (sym (append-nil all)) refl (omega arith) refl in
          let placed = whole.placed j (omega arith) (omega (arith, slice_get_within all j v some)) v some in
          subst (λ (n : Node). IsPreorderParent nodes j n.parent) (same_Some (f v) node e) (subst (IsPreorderParent nodes j) (sym (parent_is v)) placed)
