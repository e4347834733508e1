-- The entries of a unit as they are read again, and what has to be there for that.
use Rattle.std.specs.Prelude.{◌≡◌, ◌<◌, ◌+◌, ◌++◌, ◌^◌, ℕ, true, List, [], ◌∷◌, length, slice_get, Option, Some, None}
use Rattle.ds_base.specs.Leb.{uleb}
use Rattle.dwarf_types.specs.declared.abbrev.Abbrev.{Abbrev}
use Rattle.dwarf_types.specs.declared.graph.Node.{Node}
use Rattle.dwarf_types.specs.declared.graph.OutUnit.{OutUnit}
use Rattle.dwarf_types.specs.Abbreviations.{code_in, declaration_of, table_of}
use Rattle.dwarf_types.specs.Entries.{behind_node, entries_bytes, entries_of, lists_ended}
use Rattle.dwarf_types.specs.Places.{ListPlaces, Places}
use Rattle.dwarf_types.specs.SectionBytes.{SectionBytes}
use Rattle.dwarf_types.specs.Values.{values_bytes}
use Rattle.dwarf_types.specs.WellNodes.{IsPreorderParent}
use Rattle.unit_tree.specs.Entry.{declared_as}
use Rattle.unit_tree.specs.Spelling.{Forest, Node as TreeNode, Origin, SpellsBelow, SpellsNode, SpellsTrees, InTurnFrom, preorder, entry_of}
use Rattle.written_laws.specs.ReadValues.{AreThere, raw_attrs}
use Rattle.written_laws.specs.ReadDeclarations.{abbrev_of}

pub record IsPreorder (nodes : List Node) : Type 0 where
  pub root : Node
  pub below : List Node
  pub nodes_are : nodes ≡ root ∷ below
  pub no_parent : root.parent ≡ None
  pub preorder : (k : ℕ) (node : Node) → slice_get nodes (k + 1) ≡ Some node → IsPreorderParent nodes k node.parent

-- the code of node k in its unit's own table
abbrev pub code_of : ℕ → List Node → ℕ → Node → ℕ
code_of u nodes k node = code_in (table_of u nodes) (declaration_of u nodes k node)

-- each node's code finds its declaration, and is one
pub record IsCoded (table : List Abbrev) (u : ℕ) (nodes : List Node) (k : ℕ) (node : Node) : Type 0 where
  pub some : 0 < code_of u nodes k node
  pub fits : code_of u nodes k node < 2 ^ 64
  pub found : declared_as (code_of u nodes k node) table ≡ Some (abbrev_of (code_of u nodes k node) (declaration_of u nodes k node))

abbrev pub AreCoded : List Abbrev → ℕ → List Node → Type 0
AreCoded table u nodes = (k : ℕ) (node : Node) → slice_get nodes k ≡ Some node → IsCoded table u nodes k node

-- what the values of each node name is there
abbrev pub AllThere : Places → SectionBytes → ListPlaces → List Node → Type 0
AllThere places sections next [] = Unit {0}
AllThere places sections next (node ∷ nodes) = AreThere places sections next node.attrs × AllThere places sections (behind_node places.version next node) nodes

-- a code and the values
abbrev pub head_bytes : Places → List Node → ListPlaces → ℕ → Node → List ℕ
head_bytes places nodes next k node = uleb (code_of places.unit nodes k node) ++ values_bytes places next node.attrs

-- the entry in the tree that node k is at a place
abbrev pub made : Places → List Node → ListPlaces → ℕ → ℕ → Node → TreeNode
made places nodes next place k node = record {
  declared = abbrev_of (code_of places.unit nodes k node) (declaration_of places.unit nodes k node);
  place = place;
  attrs = raw_attrs places next (place + length (uleb (code_of places.unit nodes k node))) node.attrs;
}

-- nodes from node k on as entries as they are read, the first of which stands at a place; numbers of parents count on from one
abbrev pub made_from : Places → List Node → ListPlaces → ℕ → ℕ → List Node → List (Option ℕ × TreeNode)
made_from places nodes next place k [] = []
made_from places nodes next place k (node ∷ more) =
    (node.parent, made places nodes next place k node) ∷ made_from places nodes (behind_node places.version next node) (place + length (head_bytes places nodes next k node) + lists_ended nodes k) (k + 1) more

-- the entries of trees, each with the number of its parent
abbrev pub listed : Option ℕ → ℕ → Forest → List (Option ℕ × TreeNode)
listed parent number Forest.no_more = []
listed parent number (Forest.tree node kids others) = (parent, node) ∷ (listed (Some number) (number + 1) kids ++ listed parent (number + 1 + Rattle.unit_tree.specs.Spelling.size kids) others)

-- the bytes are a tree, and its entries are the nodes
pub record IsSpelledTree (places : Places) (sections : SectionBytes) (o : Origin) (table : List Abbrev) (unit : OutUnit) (next : ListPlaces) (place : ℕ) : Type 0 where
  pub root : TreeNode
  pub kids : Forest
  pub spells : InTurnFrom (SpellsNode sections o table true root) (SpellsBelow root.declared.children (λ p b. SpellsTrees sections o table kids p b) kids) place (entries_bytes places next (entries_of places.unit unit))
  pub are : (None, root) ∷ listed (Some 0) 1 kids ≡ made_from places unit.nodes next place 0 unit.nodes
