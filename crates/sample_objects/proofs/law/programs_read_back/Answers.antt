use Rattle.sample_objects.proofs.ProgramReadBack.{program_again}
use Rattle.sample_objects.proofs.law.programs_read_back.Goals as goal

pub returns : goal.returns
returns c = program_again
