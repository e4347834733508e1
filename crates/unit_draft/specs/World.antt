-- Where everything stands that a unit names, and the filling that says so.
use Rattle.std.specs.Prelude.{◌≡◌, ℕ, ◌+◌, false, List, nat_eq, slice_get, Some}
use Rattle.dwarf_types.specs.declared.graph.OutUnit.{OutUnit}
use Rattle.dwarf_types.specs.declared.graph.Target.{Target}
use Rattle.dwarf_types.specs.Entries.{node_place}
use Rattle.dwarf_types.specs.Places.{ListPlaces, Places, own_node}
use Rattle.patches.specs.declared.hole.Outer.TheVariants as outer
use Rattle.patches.specs.Filling.{Filling}

pub record World : Type 0 where
  -- the number of each hole
  pub filling : Filling
  pub places : Places
  -- the unit's first lists
  pub lists : ListPlaces
  -- the unit's abbreviations
  pub table : ℕ

-- the unit of a number stands in a world, whose filling says where its texts and those of its line table, by their numbers, and all else outside of it stand
pub record Stands (number : ℕ) (clone : OutUnit) (texts line_texts : List (List ℕ)) (w : World) : Type 0 where
  pub unit : w.places.unit ≡ number
  pub version : w.places.version ≡ clone.version
  pub own : (k : ℕ) → own_node w.places k ≡ node_place number clone k
  pub table : w.filling.outer outer.Table ≡ w.table
  pub text : (i : ℕ) (t : List ℕ) → slice_get texts i ≡ Some t → w.filling.outer (outer.Text i) ≡ w.places.text t
  pub entry : (target : Target) → nat_eq target.unit number ≡ false → w.filling.outer (outer.Entry target) ≡ w.places.start target.unit + w.places.node target
  pub ranges : (n : ℕ) → w.filling.outer (outer.Ranges n) ≡ w.lists.ranges + n
  pub locations : (n : ℕ) → w.filling.outer (outer.Locations n) ≡ w.lists.locations + n
  pub lines : w.filling.outer outer.Lines ≡ w.places.lines
  pub line_text : (i : ℕ) (t : List ℕ) → slice_get line_texts i ≡ Some t → w.filling.outer (outer.LineText i) ≡ w.places.line_text t
