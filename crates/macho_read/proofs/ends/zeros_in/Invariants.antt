use Rattle.std.proofs.Common.{◌≡◌, ◌++◌, ◌<◌, All, length}
use Rattle.macho_read.specs.Ends.{zeros_from}
use Rattle.macho_read.proofs.ends.zeros_in.Given as goal

-- the places so far and those to come are all, and each is inside
abbrev pub invariant-loop-place : goal.invariant-loop-place
invariant-loop-place l =
    (l.zeros.items ++ l.place-iterator ≡ zeros_from 0 l.strings) × All (λ k. k < length l.strings) l.place-iterator
