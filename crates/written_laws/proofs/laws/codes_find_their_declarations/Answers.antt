use Rattle.written_laws.proofs.Codes.{code_finds}
use Rattle.written_laws.proofs.laws.codes_find_their_declarations.Goals as goal

pub returns : goal.returns
returns c = code_finds
