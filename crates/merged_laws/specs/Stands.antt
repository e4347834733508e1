-- For which entries the nodes of a link with merged entries stand.
use Rattle.std.specs.Prelude.{◌≡◌, ◌⊎◌, ℕ, ◌+◌, ◌&&◌, Bool, true, false, List, Some}
use Rattle.ds_base.specs.DwarfNumbers.{DW_TAG_namespace}
use Rattle.dwarf_types.specs.declared.analysis.Analysis.{Analysis}
use Rattle.dwarf_types.specs.declared.entry.Entry.{Entry}
use Rattle.dwarf_types.specs.declared.graph.Target.{Target}
use Rattle.dwarf_types.specs.declared.shape.Origin.{Origin}
use Rattle.dwarf_types.specs.Live.{IsLive}
use Rattle.dwarf_types.specs.Tree.{is_in}
use Rattle.link_graph.specs.Graph.{image_of}
use Rattle.link_graph.specs.Merged.{shape_of}
use Rattle.linked_laws.specs.Nodes.{origin_at}
use Rattle.type_names.specs.Heads.{Object, entries_of, is_pooled}
use Rattle.merged_laws.specs.Leads.{IsLiveEntry}

module _ (odr : Bool) (seen : List Analysis) (live : List (List Bool)) where
  -- entry k of an object is a namespace that is merged, and an entry below it is live and isn't
  pub record IsParted (k : ℕ) (o : Object) (e : Entry) : Type 0 where
    pub merged : (odr && is_pooled o k) ≡ true
    pub namespace : e.tag ≡ DW_TAG_namespace
    pub below : ℕ
    pub inside : is_in (entries_of o) k below ≡ true
    pub lives : IsLive (entries_of o) below
    pub alone : (odr && is_pooled o below) ≡ false

  -- references to the entry for which a node stands lead to the node
  abbrev pub IsLedTo : Target → Origin → ℕ → Type 0
  IsLedTo target origin object = image_of (shape_of odr seen live) object origin.entry ≡ Some target

  -- The node at a place stands for a live entry, and references to that entry lead to it, unless the entry is a merged namespace above one that is not merged.
  pub record IsOfLiveEntry (target : Target) (origin : Origin) : Type 0 where
    pub object : ℕ
    pub counted : origin.object ≡ object + 1
    pub o : Object
    pub e : Entry
    pub is : IsLiveEntry seen live object origin.entry o e
    pub why : IsLedTo target origin object ⊎ IsParted origin.entry o e

  -- the node at a place stands for entry k of object i
  pub record IsNodeOf (i k : ℕ) (target : Target) : Type 0 where
    pub origin : Origin
    pub stands : origin_at (shape_of odr seen live).units target ≡ Some origin
    pub counted : origin.object ≡ i + 1
    pub its_entry : origin.entry ≡ k
