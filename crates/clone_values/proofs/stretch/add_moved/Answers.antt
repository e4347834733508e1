use Rattle.std.proofs.Common.{ap, is_some}
use Rattle.std.proofs.lemmas.Bool.{both_ways}
use Rattle.clone_values.proofs.stretch.add_moved.Goals as goal

pub unreachable-requires : goal.unreachable-requires
unreachable-requires c = both_ways (is_some c.in-Some.place.linked) (ap is_some c.in_default-linked.is) (c.requires.moved c.in-Some.place c.in-Some.is)
