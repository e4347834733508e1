use Rattle.std.proofs.Common.{◌≡◌, ℕ, Bool, Some, length, slice_get}
use Rattle.link_graph.specs.declared.object.ObjectShape.{ObjectShape}
use Rattle.link_graph.specs.Merged.{kept_objects, linked_names}
use Rattle.link_graph.specs.OwnShapes.{IsOwnShapeAt}
use Rattle.link_graph.proofs.shape.build.Given as goal

-- the objects so far
abbrev pub invariant-loop-i : goal.invariant-loop-i
invariant-loop-i g l =
    record {
      len : length l.own.items ≡ l.i;
      each : (odr : Bool) → l.names ≡ linked_names odr l.seen l.live → (k : ℕ) (one : ObjectShape) → slice_get l.own.items k ≡ Some one → IsOwnShapeAt (kept_objects odr l.seen l.live) k one;
    }
