use Rattle.expr_walk.proofs.SpellingLaws.{expression_spelled, expression_read}
use Rattle.expr_walk.proofs.laws.expressions_are_read_as_spelled.Goals as goal

pub returns : goal.returns
returns c = record { found = expression_spelled; only = expression_read }
