use Rattle.std.proofs.Common.{◌≡◌, drop}
use Rattle.type_names.specs.Start.{hash_from}
use Rattle.odr_names.proofs.hash.hash_each.Given as goal

abbrev pub invariant-loop-byte : goal.invariant-loop-byte
invariant-loop-byte l = hash_from l.state (drop l.byte-index l.bytes) ≡ hash_from l.hash l.bytes
