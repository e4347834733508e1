use Rattle.object_reads.proofs.objects.made_names.Goals as goal

pub returns : goal.returns
returns c = rw c.if-not-named.false c.in_ok-made.ensures
