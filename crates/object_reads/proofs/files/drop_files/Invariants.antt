use Rattle.std.proofs.Common.{◌<◌, ◌^◌, ℕ, List, length}
use Rattle.std.specs.List.{All}
use Rattle.object_reads.specs.Reading.{AreHeld}
use Rattle.object_reads.proofs.files.drop_files.Given as goal

abbrev pub invariant-loop-k : goal.invariant-loop-k
invariant-loop-k l =
    ((files : List (List ℕ)) → AreHeld l.end l.source files l.fn.left → AreHeld l.end l.source files l.left)
    × (All (λ file. length file < 2 ^ 32) l.fn.left → All (λ file. length file < 2 ^ 32) l.left)
