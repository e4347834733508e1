use Rattle.written_laws.proofs.PlainParts.{says_again}
use Rattle.written_laws.proofs.laws.expressions_say_what_was_written.Goals as goal

pub returns : goal.returns
returns c nodes place node version inner w codes lead = says_again nodes place node version lead inner w codes
