use Rattle.linked_laws.proofs.References.{base_written, inner_written, reference_written}
use Rattle.linked_laws.proofs.laws.references_are_written.Goals as goal

pub returns-clause-reference : goal.returns-clause-reference
returns-clause-reference c = λ image files e a j target there value left file goes. reference_written image files e a j target there value left file goes

pub returns-clause-base : goal.returns-clause-base
returns-clause-base c = λ image ops op j target there other base goes. base_written image ops op j target there other base goes

pub returns-clause-inner : goal.returns-clause-inner
returns-clause-inner c = λ image ops op one j target there row inside base goes. inner_written image ops op one j target there row inside base goes
