use Rattle.std.proofs.Common.{◌≡◌, ◌++◌, take, map}
use Rattle.object_view.proofs.locations.add_pieces.Given as goal

abbrev pub invariant-loop-span : goal.invariant-loop-span
invariant-loop-span l = l.locations ≡ l.initial.locations ++ map (λ span. record { span = span; ops = l.ops }) (take l.span-index l.pieces)
