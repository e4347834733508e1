use Rattle.std.proofs.Common.{◌∙◌}
use Rattle.type_names.proofs.Parentheses.{parenthesis_is}
use Rattle.type_names.proofs.entries.has_parenthesis.Goals as goal

pub returns : goal.returns
returns c = c.is_some.ensures ∙ parenthesis_is c.args.text.now c.memchr.result c.memchr.ensures
