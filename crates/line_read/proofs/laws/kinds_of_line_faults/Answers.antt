use Rattle.line_read.specs.Header.{line_at}
use Rattle.line_read.proofs.Refused.{line_kinds}
use Rattle.line_read.proofs.laws.kinds_of_line_faults.Goals as goal

pub returns : goal.returns
returns c = λ image relocs sections version offset f e. line_kinds image relocs sections version (line_at sections.line offset) f e
