use Rattle.std.proofs.Common.{sym}
use Rattle.layout.specs.Pass.{nothing}
use Rattle.layout.proofs.starts.lines_len.Goals as goal

pub returns : goal.returns
returns c = sym (c.len.ensures nothing)
