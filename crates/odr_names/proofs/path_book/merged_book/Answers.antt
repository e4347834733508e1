use Rattle.std.proofs.Common.{arith}
use Rattle.odr_names.specs.Numbered.{objects_of}
use Rattle.odr_names.proofs.MakingBooks.{length_objects}
use Rattle.odr_names.proofs.path_book.merged_book.Goals as goal

pub names_together-requires-clause-few : goal.names_together-requires-clause-few
names_together-requires-clause-few c =
    let long = length_objects c.args.seen.now c.args.live.now c.requires.live.len in
    rw c.deref.ensures.value (omega (arith, long, c.requires.few, c.in_ok-own.ensures.len))

pub names_together-requires-clause-own : goal.names_together-requires-clause-own
names_together-requires-clause-own c = rw c.deref.ensures.value (objects_of c.args.seen.now c.args.live.now, c.in_ok-own.ensures)
