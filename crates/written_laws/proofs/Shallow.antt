-- How deep the trees of a unit stand: as deep as its nodes do.
use Rattle.std.proofs.Common.{◌≡◌, ◌<◌, ◌+◌, ◌++◌, ℕ, suc, true, List, [], ◌∷◌, length, slice_get, Option, Some, refl, sym, ap, subst, ◌∙◌, length-append, arith}
use Rattle.std.specs.Option.{option_and_then}
use Rattle.dwarf_types.specs.declared.graph.Node.{Node}
use Rattle.dwarf_types.specs.Abbreviations.{has_children}
use Rattle.dwarf_types.specs.Entries.{behind_node, depth_of, lists_ended, parent_of}
use Rattle.dwarf_types.specs.Places.{ListPlaces, Places}
use Rattle.unit_tree.specs.Spelling.{Forest, IsShallow, Node as TreeNode, size}
use Rattle.unit_tree.specs.Spelling.Forest.{no_more, tree}
use Rattle.written_laws.specs.ReadEntries.{IsPreorder, head_bytes, listed, made_from}
use Rattle.written_laws.proofs.Ancestors.{ancestors_of_child}
use Rattle.written_laws.proofs.Children.{parent_before}

pub length-listed : (parent : Option ℕ) (number : ℕ) (f : Forest) → length (listed parent number f) ≡ size f
length-listed parent number no_more = refl
length-listed parent number (tree node kids others) =
    omega (
      arith,
      length-append (listed (Some number) (number + 1) kids) (listed parent (number + 1 + size kids) others),
      length-listed (Some number) (number + 1) kids,
      length-listed parent (number + 1 + size kids) others,
    )

module _ (nodes : List Node) (order : IsPreorder nodes) where
  -- entries, the first of which has a number, have the parents of their nodes, and children where these have
  abbrev pub AreOf : ℕ → List (Option ℕ × TreeNode) → Type 0
  AreOf n [] = Unit {0}
  AreOf n (e ∷ es) = ((parent_of nodes n ≡ e.0) × (e.1.declared.children ≡ has_children nodes n)) × AreOf (n + 1) es

  of_front : (n : ℕ) (xs ys : List (Option ℕ × TreeNode)) → AreOf n (xs ++ ys) → AreOf n xs
  of_front n [] ys h = tt
  of_front n (x ∷ xs) ys h = (h.0, of_front (n + 1) xs ys h.1)

  of_back : (n : ℕ) (xs ys : List (Option ℕ × TreeNode)) → AreOf n (xs ++ ys) → AreOf (n + length xs) ys
  of_back n [] ys h = let same : n ≡ n + 0 = omega arith in subst (λ (m : ℕ). AreOf m ys) same h
  of_back n (x ∷ xs) ys h = let same : n + 1 + length xs ≡ n + suc (length xs) = omega arith in subst (λ (m : ℕ). AreOf m ys) same (of_back (n + 1) xs ys h.1)

  pub made_are : (places : Places) (ns : List Node) (next : ListPlaces) (place k : ℕ) → ((i : ℕ) → slice_get ns i ≡ slice_get nodes (k + i)) → AreOf k (made_from places nodes next place k ns)
  made_are places [] next place k same = tt
  made_are places (node ∷ more) next place k same =
      let here : k + 0 ≡ k = omega arith in
      let at : slice_get nodes k ≡ Some node = ap (slice_get nodes) (sym here) ∙ sym (same 0) in (
        (ap (option_and_then (λ (n : Node). n.parent)) at, refl),
        made_are places more (behind_node places.version next node) (place + length (head_bytes places nodes next k node) + lists_ended nodes k) (k + 1) (λ i. let step : k + suc i ≡ k + 1 + i = omega arith in same (suc i) ∙ ap (slice_get nodes) step),
      )

  -- trees below node p, inside of as many lists as it has ancestors and one more
  pub are_shallow : ((k : ℕ) → has_children nodes k ≡ true → depth_of nodes k < 1000) → (p n : ℕ) (f : Forest) (lists : ℕ) → depth_of nodes p + 1 ≡ lists → AreOf n (listed (Some p) n f) → IsShallow lists f
  are_shallow flat p n no_more lists deep are = tt
  are_shallow flat p n (tree node kids others) lists deep (here, more) =
      let lt = parent_before nodes order n p here.0 in
      let own = ap length (ancestors_of_child nodes n p here.0 lt) in
      let depth : depth_of nodes n ≡ lists = omega (arith, own, deep) in
      let few : node.declared.children ≡ true → lists < 1000 = λ e. omega (arith, flat n (sym here.1 ∙ e), depth) in
      let len : n + 1 + length (listed (Some n) (n + 1) kids) ≡ n + 1 + size kids = ap (λ (m : ℕ). n + 1 + m) (length-listed (Some n) (n + 1) kids) in
      let behind = of_back (n + 1) (listed (Some n) (n + 1) kids) (listed (Some p) (n + 1 + size kids) others) more in (
        (few, are_shallow flat n (n + 1) kids (suc lists) (omega (arith, depth)) (of_front (n + 1) (listed (Some n) (n + 1) kids) (listed (Some p) (n + 1 + size kids) others) more)),
        are_shallow flat p (n + 1 + size kids) others lists deep (subst (λ (m : ℕ). AreOf m (listed (Some p) (n + 1 + size kids) others)) len behind),
      )
