use Rattle.std.proofs.Common.{◌≡◌, take}
use Rattle.std.specs.List.{flat_map}
use Rattle.unit_drafts.proofs.graph.frames_of.Given as goal

abbrev pub invariant-loop-object : goal.invariant-loop-object
invariant-loop-object l = l.frames ≡ flat_map (λ object. object.frames) (take l.object-index l.seen)
