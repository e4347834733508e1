-- Where references to live entries lead in a link with merged entries, and what stands there.
use Rattle.std.specs.Prelude.{◌≡◌, ◌≤◌, ℕ, ◌+◌, Bool, List, slice_get, Some}
use Rattle.std.specs.List.{All, Contains}
use Rattle.dwarf_types.specs.declared.analysis.Analysis.{Analysis}
use Rattle.dwarf_types.specs.declared.entry.Entry.{Entry}
use Rattle.dwarf_types.specs.declared.graph.Target.{Target}
use Rattle.dwarf_types.specs.declared.shape.Origin.{Origin}
use Rattle.dwarf_types.specs.declared.shape.Shape.{Shape}
use Rattle.dwarf_types.specs.Live.{IsLive, Stands}
use Rattle.link_graph.specs.Graph.{image_of}
use Rattle.linked_laws.specs.Nodes.{origin_at}
use Rattle.odr_names.specs.Numbered.{objects_of}
use Rattle.type_names.specs.Heads.{Object, entries_of}
use Rattle.type_names.specs.Names.{Named}
use Rattle.type_names.specs.Paths.{Piece}

-- entry k of object i is live
pub record IsLiveEntry (seen : List Analysis) (live : List (List Bool)) (i k : ℕ) (o : Object) (e : Entry) : Type 0 where
  pub object : slice_get (objects_of seen live) i ≡ Some o
  pub stands : Stands (entries_of o) k e
  pub lives : IsLive (entries_of o) k

-- a reference to entry k of object i leads to a node that stands for some entry of some object, which is counted from 1
pub record LeadsTo (shape : Shape) (i k object entry : ℕ) : Type 0 where
  pub target : Target
  pub leads : image_of shape i k ≡ Some target
  pub origin : Origin
  pub stands : origin_at shape.units target ≡ Some origin
  pub its_object : origin.object ≡ object
  pub its_entry : origin.entry ≡ entry

-- of the names of a path this one has the lowest bid
pub record Wins (names : List Named) (path : List Piece) (w : Named) : Type 0 where
  pub named : Contains names w
  pub its_path : w.path ≡ path
  pub least : All (λ v. v.path ≡ path → w.bid ≤ v.bid) names

-- references to two entries of an object lead to their own nodes, which are in one unit
pub record LeadsBeside (shape : Shape) (i k j : ℕ) : Type 0 where
  pub one : LeadsTo shape i k (i + 1) k
  pub other : LeadsTo shape i j (i + 1) j
  pub same_unit : one.target.unit ≡ other.target.unit
