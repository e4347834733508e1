use Rattle.std.proofs.Common.{length}
use Rattle.odr_names.specs.Twins.{IsWalked}
use Rattle.type_names.specs.Objects.{object_of}
use Rattle.odr_names.proofs.ordinals.count_at.Given as goal

abbrev pub invariant-loop : goal.invariant-loop
invariant-loop l = IsWalked l.object (object_of l.seen l.live) l.ranks (length l.chains.newest.items) l.here l.j l.i
