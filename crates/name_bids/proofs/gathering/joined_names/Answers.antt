use Rattle.std.proofs.Common.{arith}
use Rattle.odr_names.specs.Numbered.{objects_of}
use Rattle.odr_names.proofs.MakingBooks.{length_objects}
use Rattle.name_bids.proofs.gathering.joined_names.Goals as goal

pub names_together-requires-clause-few : goal.names_together-requires-clause-few
names_together-requires-clause-few g c =
    let long = length_objects c.args.seen.now c.args.live.now c.requires.live in
    rw c.as_slice.ensures (omega (arith, long, c.requires.few, c.requires.own.len))

pub names_together-requires-clause-own : goal.names_together-requires-clause-own
names_together-requires-clause-own g c = rw c.as_slice.ensures (objects_of c.args.seen.now c.args.live.now, c.requires.own)
