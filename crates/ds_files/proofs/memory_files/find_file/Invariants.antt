use Rattle.std.proofs.Common.{◌≡◌, drop}
use Rattle.std.specs.Ordering.{nat_cmp}
use Rattle.std.specs.Cmp.Lexicographic.{slice_cmp}
use Rattle.std.specs.FinMap as map
use Rattle.ds_files.proofs.memory_files.find_file.Given as goal

abbrev pub invariant-loop-key : goal.invariant-loop-key
invariant-loop-key l =
    map.find (slice_cmp nat_cmp) l.name (drop l.key-index l.stored) ≡ map.find (slice_cmp nat_cmp) l.name l.stored
