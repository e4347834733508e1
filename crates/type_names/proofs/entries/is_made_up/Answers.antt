use Rattle.std.proofs.Common.{sym, ◌∙◌}
use Rattle.type_names.proofs.Parentheses.{not_made_up}
use Rattle.type_names.proofs.entries.is_made_up.Goals as goal

pub returns-else-has_parenthesis : goal.returns-else-has_parenthesis
returns-else-has_parenthesis c = c.if-has_parenthesis.false ∙ sym (not_made_up c.args.name.now (sym c.has_parenthesis.ensures ∙ c.if-has_parenthesis.false))
