use Rattle.std.proofs.Common.{◌≡◌, ◌++◌, take, map}
use Rattle.object_view.proofs.code.add_spans.Given as goal

abbrev pub invariant-loop-span : goal.invariant-loop-span
invariant-loop-span l = l.code ≡ l.initial.code ++ map (λ span. record { entry = l.number; span = span }) (take l.span-index l.spans)
