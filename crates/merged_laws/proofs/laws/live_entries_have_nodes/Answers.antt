use Rattle.merged_laws.proofs.Leads.{leads_beside, leads_merged, leads_own, only_live}
use Rattle.merged_laws.proofs.laws.live_entries_have_nodes.Goals as goal

pub returns-clause-own : goal.returns-clause-own
returns-clause-own c = λ odr seen live sound rows i k o e it own. leads_own odr seen live sound rows i k o e it own

pub returns-clause-merged : goal.returns-clause-merged
returns-clause-merged c = λ odr seen live sound rows i k o e it merges. leads_merged odr seen live sound rows i k o e it merges

pub returns-clause-base : goal.returns-clause-base
returns-clause-base c = λ odr seen live sound rows i k j o e it there. leads_beside odr seen live sound rows i k j o e it there

pub returns-clause-only : goal.returns-clause-only
returns-clause-only c = λ odr seen live sound rows i k target is. only_live odr seen live sound rows i k target is
