use Rattle.std.proofs.Common.{◌≡◌, ◌<◌, ◌^◌, ◌++◌, Bool, List, length}
use Rattle.dwarf_types.specs.declared.analysis.Analysis.{Analysis}
use Rattle.link_graph.specs.Joining.{EachPair, MayPlace}
use Rattle.link_graph.specs.OwnShapes.{AreOwnShapes}
use Rattle.link_graph.proofs.Joined.{IsShapedTo}
use Rattle.link_graph.proofs.joining.gathered.Given as goal

-- the objects so far, behind the pool's unit
abbrev pub invariant-loop-one : goal.invariant-loop-one
invariant-loop-one l =
    record {
      whole : l.yielded ++ l.one-iterator.rest.items ≡ l.fn.own.items;
      number : l.object ≡ length l.yielded;
      rows : length l.images ≡ l.object;
      wide : length l.places.items ≡ l.object;
      few : length l.units.items < 2 ^ 32;
      may : EachPair (λ _ place row. MayPlace l.names place row) l.places.items l.images;
      shaped : (odr : Bool) (seen : List Analysis) (live : List (List Bool)) → AreOwnShapes odr seen live l.names l.fn.own.items → IsShapedTo odr seen live l.names l.units.items l.plain l.images l.places.items l.object;
    }
