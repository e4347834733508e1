use Rattle.written_laws.proofs.OwnExpressions.{own_again}
use Rattle.written_laws.proofs.laws.whole_expressions_say_what_was_written.Goals as goal

pub returns : goal.returns
returns c graph u unit expression readable at whole short = own_again graph readable u unit at expression whole short
