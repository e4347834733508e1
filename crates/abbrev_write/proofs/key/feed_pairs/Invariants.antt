use Rattle.std.proofs.Common.{◌≡◌, drop, fold}
use Rattle.abbrev_write.specs.Feeding.{pairs_fed}
use Rattle.abbrev_write.proofs.key.feed_pairs.Given as goal

abbrev pub invariant-loop-name : goal.invariant-loop-name
invariant-loop-name g l = fold g.H.Hasher.write l.state (pairs_fed (drop l.name-index l.pairs)) ≡ fold g.H.Hasher.write l.fn.state (pairs_fed l.pairs)
