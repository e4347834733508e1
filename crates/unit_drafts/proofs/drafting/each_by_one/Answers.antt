use Rattle.unit_drafts.proofs.drafting.each_by_one.Goals as goal

pub returns : goal.returns
returns g c = rw c.into_vec.ensures c.in_ok-outs.ensures
