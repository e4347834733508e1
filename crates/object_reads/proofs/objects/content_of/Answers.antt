use Rattle.object_reads.proofs.Members.{content_within}
use Rattle.object_reads.proofs.objects.content_of.Goals as goal

pub returns-in-Some-clause-within : goal.returns-in-Some-clause-within
returns-in-Some-clause-within c = content_within _ c.args.file.now c.args.members.now _ c.requires c.find.ensures
