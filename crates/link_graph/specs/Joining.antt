-- How the shapes of objects are joined: where references to the entries of each lead among all units, and the nodes of merged entries.
use Rattle.std.specs.Prelude.{◌≡◌, ℕ, ◌+◌, ◌-◌, ◌^◌, ◌<◌, ◌≤◌, ◌==◌, Bool, List, length, map, slice_get, slice_index_or, Option, Some, if◌then◌else◌}
use Rattle.std.specs.List.{All}
use Rattle.std.specs.Option.{IfSome}
use Rattle.dwarf_types.specs.declared.analysis.Analysis.{Analysis}
use Rattle.dwarf_types.specs.declared.graph.Target.{Target}
use Rattle.dwarf_types.specs.declared.shape.Origin.{Origin}
use Rattle.dwarf_types.specs.declared.shape.Shape.{Shape}
use Rattle.type_names.specs.Names.{Named}
use Rattle.link_graph.specs.declared.placing.Place.{Place}
use Rattle.link_graph.specs.declared.pool.PathNodes.{PathNodes}
use Rattle.link_graph.specs.Merged.{pool_origin, pool_root, shape_of}
use Rattle.link_graph.specs.OwnShapes.{target_behind}
use Rattle.link_graph.specs.Passes.{names_between, path_target, put_each}
use Rattle.link_graph.specs.PoolOrder.{AreNodes, IsPreorder, name_at, own_node}

-- ---- merged entries

-- the winners of a link in preorder, and of each name its own node
pub record ArePathNodes (names : List Named) (winners : List ℕ) (made : PathNodes) : Type 0 where
  pub order : IsPreorder names winners made.order.items
  pub few : length made.order.items < 2 ^ 32
  pub nodes : AreNodes names winners made.nodes.items
  pub len : length made.nodes.items ≡ length names
  pub each : (x : ℕ) → x < length names → slice_get made.nodes.items x ≡ Some (own_node names winners x)

-- the node at a place of the pool's unit: its root, and behind it those of the winners
abbrev pub origin_at : List Named → List ℕ → ℕ → Origin
origin_at names order i = if i == 0 then pool_root else pool_origin names (name_at names (slice_index_or order (i - 1) 0))

-- the nodes from the one at `start` on
abbrev pub AreOriginsFrom : List Named → List ℕ → ℕ → List Origin → Type 0
AreOriginsFrom names order start part = (k : ℕ) (d : Origin) → k < length part → slice_index_or part k d ≡ origin_at names order (start + k)

-- ---- one object

-- where references to the entries of an object lead: behind so many units, and those to its merged entries to the nodes of their paths
abbrev pub placed : List Named → Place → List (Option Target) → List (Option Target)
placed names place images = put_each (path_target names) (names_between names place.from place.end) (map (target_behind place.before) images)

-- an object has such a place
pub record MayPlace (names : List Named) (place : Place) (images : List (Option Target)) : Type 0 where
  pub numbered : All (λ image. IfSome image (λ target. place.before + target.unit < 2 ^ 32)) images
  pub order : place.from ≤ place.end
  pub within : place.end ≤ length names
  pub entries : All (λ w. w.entry < length images) (names_between names place.from place.end)

-- ---- all objects

abbrev pub place_at : List Place → ℕ → Place
place_at places i = slice_index_or places i (record { before = 0; from = 0; end = 0 })

-- it holds of the items at each place of two lists
abbrev pub EachPair : {A B : Type 0} → (ℕ → A → B → Type 0) → List A → List B → Type 0
EachPair {A} {B} P xs ys = (i : ℕ) (x : A) (y : B) → slice_get xs i ≡ Some x → slice_get ys i ≡ Some y → P i x y

-- there is a place for each object
pub record HavePlaces (names : List Named) (places : List Place) (images : List (List (Option Target))) : Type 0 where
  pub len : length places ≡ length images
  pub each : EachPair (λ _ place row. MayPlace names place row) places images

-- each row became what this makes of it
pub record Became (make : ℕ → List (Option Target) → List (Option Target)) (old new : List (List (Option Target))) : Type 0 where
  pub len : length new ≡ length old
  pub each : (i : ℕ) (d : List (Option Target)) → i < length old → slice_index_or new i d ≡ make i (slice_index_or old i d)

-- The shape of a link, but for where references lead: those to the entries of each object still have to lead to its place.
abbrev pub IsUnplaced : Bool → List Analysis → List (List Bool) → List Named → Shape → List Place → Type 0
IsUnplaced odr seen live names shape places =
    (images : List (List (Option Target))) → Became (λ i row. placed names (place_at places i) row) shape.images images → record { units = shape.units; plain = shape.plain; images = images } ≡ shape_of odr seen live
