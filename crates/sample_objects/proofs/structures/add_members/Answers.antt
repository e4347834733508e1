use Rattle.std.proofs.Common.{refl, append_assoc, arith}
use Rattle.std.proofs.lemmas.List.FromFn.{map-range_with_len_more}
use Rattle.sample_objects.specs.GeneratedUnit.{member}
use Rattle.sample_objects.proofs.structures.add_members.Goals as goal

pub loop-k-preserved : goal.loop-k-preserved
loop-k-preserved c = rw (c.in_ok-add_member.ensures, c.loop-k.invariant, map-range_with_len_more (member c.args.j) 0 c.loop-k.k c.loop-k.k (omega arith), append_assoc) refl
