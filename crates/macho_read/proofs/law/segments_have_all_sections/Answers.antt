use Rattle.macho_read.proofs.Soundness.{all_own}
use Rattle.macho_read.proofs.law.segments_have_all_sections.Goals as goal

pub returns : goal.returns
returns c = λ image sound. all_own image.segments image.sections sound.counts
