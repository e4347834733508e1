use Rattle.unit_tree.proofs.Onward.{code_small}
use Rattle.unit_tree.proofs.entry.read_code.Goals as goal

pub returns-clause-small : goal.returns-clause-small
returns-clause-small c = λ h. code_small c.uleb.result _ _ c.uleb.ensures h
