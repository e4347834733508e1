use Rattle.std.proofs.Common.{◌≡◌, take}
use Rattle.std.specs.List.{flat_map}
use Rattle.moved_parts.specs.Spans.{span_moved}
use Rattle.moved_parts.proofs.spans.move_spans.Given as goal

-- the pieces of the spans so far
abbrev pub invariant-loop-span : goal.invariant-loop-span
invariant-loop-span l = l.moved ≡ flat_map (span_moved l.map) (take l.span-index l.spans)
