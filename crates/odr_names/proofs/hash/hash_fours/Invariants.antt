use Rattle.std.proofs.Common.{◌≡◌, ◌*◌, drop}
use Rattle.type_names.specs.Start.{hash_from}
use Rattle.odr_names.proofs.hash.hash_fours.Given as goal

abbrev pub invariant-loop-i : goal.invariant-loop-i
invariant-loop-i l = hash_from l.state (drop (4 * l.i) l.bytes) ≡ hash_from l.hash l.bytes
