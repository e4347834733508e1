-- The whole: the root, and what is below it.
use Rattle.std.proofs.Common.{◌≡◌, ℕ, suc, ◌+◌, Bool, true, false, List, [], ◌∷◌, ◌++◌, length, map, replicate, slice_get, if◌then◌else◌, Option, Some, None, refl, sym, ap, ap₂, subst, ◌∙◌, append-nil, arith}
use Rattle.std.specs.Option.{option_and_then}
use Rattle.std.specs.List.{enumerate_from}
use Rattle.dwarf_types.specs.declared.abbrev.Abbrev.{Abbrev}
use Rattle.dwarf_types.specs.declared.graph.Node.{Node}
use Rattle.dwarf_types.specs.declared.graph.OutUnit.{OutUnit}
use Rattle.dwarf_types.specs.Abbreviations.{has_children}
use Rattle.dwarf_types.specs.Entries.{behind_node, entries_bytes, entry_of, lists_ended}
use Rattle.dwarf_types.specs.Places.{ListPlaces, Places}
use Rattle.dwarf_types.specs.SectionBytes.{SectionBytes}
use Rattle.unit_tree.specs.Spelling.{Forest, Node as TreeNode, Origin, SpellsBelow, SpellsNode, SpellsTrees}
use Rattle.unit_tree.specs.Spelling.Forest.{no_more}
use Rattle.written_laws.specs.ReadValues.{IsOrigin}
use Rattle.written_laws.specs.ReadEntries.{AllThere, AreCoded, IsPreorder, IsSpelledTree, head_bytes, listed, made, made_from}
use Rattle.written_laws.proofs.Ancestors.{no_ancestors}
use Rattle.written_laws.proofs.Children.{open_behind, opened_by}
use Rattle.written_laws.proofs.OpenLists.{Open, OpenThere, open_entries}
use Rattle.written_laws.proofs.FromLast.{node_spelled, rest_is, split}

module _ (places : Places) (sections : SectionBytes) (o : Origin) (table : List Abbrev) (nodes : List Node) (order : IsPreorder nodes) (origin : IsOrigin places o) (coded : AreCoded table places.unit nodes) (next : ListPlaces) (place : ℕ) (all : AllThere places sections next nodes) where
  there : AllThere places sections next (order.root ∷ order.below)
  there = subst (AllThere places sections next) order.nodes_are all

  behind_root : (i : ℕ) → slice_get order.below i ≡ slice_get nodes (0 + 1 + i)
  behind_root i = let step : 0 + 1 + i ≡ suc i = omega arith in sym (ap (slice_get nodes) step ∙ ap (λ (ns : List Node). slice_get ns (suc i)) order.nodes_are)

  root_at : slice_get nodes 0 ≡ Some order.root
  root_at = ap (λ (ns : List Node). slice_get ns 0) order.nodes_are

  abbrev root : TreeNode
  root = made places nodes next place 0 order.root

  abbrev head : List ℕ
  head = head_bytes places nodes next 0 order.root

  abbrev after : ListPlaces
  after = behind_node places.version next order.root

  abbrev behind : List ℕ
  behind = replicate (lists_ended nodes 0) 0 ++ entries_bytes places after (map (λ n. entry_of places.unit nodes n.0 n.1) (enumerate_from (0 + 1) order.below))

  abbrev others : List (Option ℕ × TreeNode)
  others = made_from places nodes after (place + length head + lists_ended nodes 0) (0 + 1) order.below

  -- what is below the root
  record Below (at : ℕ) : Type 0 where
    kids : Forest
    spells : SpellsBelow (has_children nodes 0) (λ p b. SpellsTrees sections o table kids p b) kids at behind
    are : others ≡ listed (Some 0) 1 kids

  below_by : (b : Bool) (at : ℕ) → has_children nodes 0 ≡ b → Open sections o table (if b then 0 ∷ [] else []) (0 + 1) others at behind → Below at
  below_by true at e w = with_kids w.forests w.there w.are
    where
      with_kids : (forests : List Forest) → OpenThere sections o table (0 ∷ []) forests at behind → others ≡ open_entries sections o table (0 + 1) (0 ∷ []) forests → Below at
      with_kids [] t are = absurd t
      with_kids (kids ∷ (f ∷ fs)) t are = absurd t.second
      with_kids (kids ∷ []) t are =
          let whole : behind ≡ t.front = t.is ∙ ap (λ (b : List ℕ). t.front ++ b) t.second ∙ append-nil t.front in
          record {
            kids = kids;
            spells = subst (λ (c : Bool). SpellsBelow c (λ p b. SpellsTrees sections o table kids p b) kids at behind) (sym e) (subst (SpellsTrees sections o table kids at) (sym whole) t.first);
            are = are ∙ append-nil (listed (Some 0) 1 kids);
          }
  below_by false at e w = without w.forests w.there w.are
    where
      without : (forests : List Forest) → OpenThere sections o table [] forests at behind → others ≡ open_entries sections o table (0 + 1) [] forests → Below at
      without [] t are = record { kids = no_more; spells = subst (λ (c : Bool). SpellsBelow c (λ p b. SpellsTrees sections o table no_more p b) no_more at behind) (sym e) t; are = are }
      without (f ∷ fs) t are = absurd t

  open_root : (b : Bool) → has_children nodes 0 ≡ b → open_behind nodes order 0 ≡ (if b then 0 ∷ [] else [])
  open_root b e = opened_by nodes order 0 b e ∙ ap (λ (xs : List ℕ). if b then 0 ∷ xs else xs) (no_ancestors nodes 0 (ap (option_and_then (λ (n : Node). n.parent)) root_at ∙ order.no_parent))

  below_root : Below (place + length head)
  below_root = by_children (has_children nodes 0) refl (rest_is places sections o table nodes order origin coded 0 after order.below (place + length head) behind_root there.1)
    where
      by_children : (b : Bool) → has_children nodes 0 ≡ b → Open sections o table (open_behind nodes order 0) (0 + 1) others (place + length head) behind → Below (place + length head)
      by_children b e w = below_by b (place + length head) e (subst (λ (stack : List ℕ). Open sections o table stack (0 + 1) others (place + length head) behind) (open_root b e) w)

  abbrev all_bytes : List ℕ
  all_bytes = entries_bytes places next (map (λ n. entry_of places.unit nodes n.0 n.1) (enumerate_from 0 nodes))

  bytes_are : all_bytes ≡ head ++ behind
  bytes_are = ap (λ (ns : List Node). entries_bytes places next (map (λ (n : ℕ × Node). entry_of places.unit nodes n.0 n.1) (enumerate_from 0 ns))) order.nodes_are ∙ split places sections o table nodes order origin coded next 0 order.root order.below

  entries_are : (b : Below (place + length head)) → (None, root) ∷ listed (Some 0) 1 b.kids ≡ made_from places nodes next place 0 nodes
  entries_are b =
      let parent : None ≡ order.root.parent = sym order.no_parent in
      ap₂ (λ (p : Option ℕ) (es : List (Option ℕ × TreeNode)). (p, root) ∷ es) parent (sym b.are) ∙ ap (made_from places nodes next place 0) (sym order.nodes_are)

  root_spelled : SpellsNode sections o table true root place head
  root_spelled = node_spelled places sections o table nodes order origin coded true next place 0 order.root root_at there.0

pub tree_spelled : (places : Places) (sections : SectionBytes) (o : Origin) (table : List Abbrev) (unit : OutUnit) (next : ListPlaces) (place : ℕ) → IsPreorder unit.nodes → IsOrigin places o → AreCoded table places.unit unit.nodes → AllThere places sections next unit.nodes → IsSpelledTree places sections o table unit next place
tree_spelled places sections o table unit next place order origin coded all =
    let b = below_root places sections o table unit.nodes order origin coded next place all in
    record {
      root = root places sections o table unit.nodes order origin coded next place all;
      kids = b.kids;
      spells = record {
        front = head places sections o table unit.nodes order origin coded next place all;
        back = behind places sections o table unit.nodes order origin coded next place all;
        is = bytes_are places sections o table unit.nodes order origin coded next place all;
        first = root_spelled places sections o table unit.nodes order origin coded next place all;
        second = b.spells;
      };
      are = entries_are places sections o table unit.nodes order origin coded next place all b;
    }
