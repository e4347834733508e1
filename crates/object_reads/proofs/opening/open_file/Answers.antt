use Rattle.std.proofs.Common.{arith}
use Rattle.object_reads.proofs.Slices.{slice_within}
use Rattle.object_reads.proofs.opening.open_file.Goals as goal

pub invariant_of-result-clause-small : goal.invariant_of-result-clause-small
invariant_of-result-clause-small c = omega (arith, slice_within c.args.arch c.args.file.now c.in-Ok.bytes.now c.in-Ok.ensures, c.requires.small)
