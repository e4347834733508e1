use Rattle.std.proofs.Common.{◌∙◌}
use Rattle.sample_objects.specs.ObjectFile.{sections_in}
use Rattle.sample_objects.proofs.Told.{parts_told}
use Rattle.sample_objects.proofs.sections.sized_sections.Goals as goal

pub returns-clause-sized : goal.returns-clause-sized
unfolding sections_in
returns-clause-sized c = λ graph measured. c.in_ok-sized.ensures.sized ∙ parts_told graph c.args.layout.now measured
