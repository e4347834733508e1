use Rattle.object_reads.proofs.Slices.{refused_read, thin_read}
use Rattle.object_reads.proofs.objects.analysis.Goals as goal

pub returns-in-Thin-clause-exact : goal.returns-in-Thin-clause-exact
returns-in-Thin-clause-exact c = λ bytes is. thin_read c.args.target c.args.object.now bytes c.in-Some.file c.in-Thin.file c.analysis_of_thin.result c.in-Thin.is (rw c.in-Some.is at is) c.analysis_of_thin.ensures.exact

pub returns-in-Refused-clause-exact : goal.returns-in-Refused-clause-exact
returns-in-Refused-clause-exact c = λ bytes is. refused_read c.args.target c.args.object.now bytes c.in-Some.file c.in-Refused.fault c.in-Refused.is (rw c.in-Some.is at is)
