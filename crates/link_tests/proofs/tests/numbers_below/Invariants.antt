use Rattle.std.proofs.Common.{◌≡◌, ◌<◌, length, IfSome}
use Rattle.std.specs.List.{All}
use Rattle.link_tests.proofs.tests.numbers_below.Given as goal

-- so many numbers so far, each of them one below
abbrev pub invariant-loop-k : goal.invariant-loop-k
invariant-loop-k l = (length l.numbers ≡ l.k) × All (λ k. IfSome k (λ n. n < l.count)) l.numbers
