-- What the shape of a link is joined of, made by several workers: the nodes of merged entries first, and then what each object gives.
use Rattle.std.specs.Prelude.{◌≡◌, ℕ, ◌-◌, ◌^◌, ◌<◌, ◌≤◌, Bool, List, length, slice_get, Some, Result, Ok, IfOk}
use Rattle.std.specs.List.{All}
use Rattle.ds_base.specs.declared.fault.NoMemory.{NoMemory}
use Rattle.dwarf_types.specs.declared.analysis.Analysis.{Analysis}
use Rattle.dwarf_types.specs.LinkedShape.{AreMarked}
use Rattle.dwarf_types.specs.Sound.{IsSound}
use Rattle.link_graph.specs.declared.object.ObjectShape.{ObjectShape}
use Rattle.link_graph.specs.declared.pool.PathNodes.{PathNodes}
use Rattle.link_graph.specs.Joining.{ArePathNodes}
use Rattle.link_graph.specs.Merged.{kept_objects, linked_names}
use Rattle.link_graph.specs.OwnShapes.{IsOwnShapeAt}
use Rattle.odr_names.specs.Winners.{AreWinners}
use Rattle.type_names.specs.Names.{Named}
use Rattle.unit_drafts.specs.declared.shaping.Made.{Made}
use Rattle.unit_drafts.specs.declared.shaping.Made.TheVariants as made

-- the nodes of merged entries, or what an object gives, may be made, by the names of the link and their winners
pub record MayMake (seen : List Analysis) (live : List (List Bool)) (names : List Named) (winners : List ℕ) (item : ℕ) : Type 0 where
  pub there : item ≤ length seen
  pub few : length seen < 2 ^ 16
  pub sound : All IsSound seen
  pub marked : AreMarked seen live
  pub odr : Bool
  pub named : names ≡ linked_names odr seen live
  pub won : AreWinners names winners

-- what is made of an item: 0 is the nodes of merged entries, and behind it stand the objects
abbrev pub IsMade : List Analysis → List (List Bool) → List Named → List ℕ → ℕ → Made → Type 0
IsMade seen live names winners item (made.Paths paths) = (item ≡ 0) × ArePathNodes names winners paths
IsMade seen live names winners item (made.Object own) = (0 < item) × ((odr : Bool) → names ≡ linked_names odr seen live → IsOwnShapeAt (kept_objects odr seen live) (item - 1) own)

-- what is made of it; want of memory says nothing
abbrev pub GivesMade : List Analysis → List (List Bool) → List Named → List ℕ → ℕ → Result Made NoMemory → Type 0
GivesMade seen live names winners item out = IfOk out (IsMade seen live names winners item)

-- the nodes of merged entries come first and nowhere else, unless memory ran out for them
pub record IsPathsFirst (outs : List (Result Made NoMemory)) : Type 0 where
  pub some_item : 0 < length outs
  pub paths : (i : ℕ) (paths : PathNodes) → slice_get outs i ≡ Some (Ok (made.Paths paths)) → i ≡ 0
  pub objects : (i : ℕ) (own : ObjectShape) → slice_get outs i ≡ Some (Ok (made.Object own)) → 0 < i
