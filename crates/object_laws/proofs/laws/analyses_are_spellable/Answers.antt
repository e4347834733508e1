use Rattle.object_laws.proofs.Whole.{analysis_given}
use Rattle.object_laws.proofs.laws.analyses_are_spellable.Goals as goal

pub returns : goal.returns
returns c = analysis_given
