use Rattle.std.proofs.Common.{◌∙◌}
use Rattle.type_names.specs.Entries.{is_named_type}
use Rattle.type_names.proofs.Orders.{and_not, and_so}
use Rattle.type_names.proofs.heads.is_named_inside.Goals as goal

pub returns-then-inside : goal.returns-then-inside
returns-then-inside c = c.is_named_type.ensures ∙ and_so (is_named_type c.args.entry.now) _ c.if-inside.true

pub returns : goal.returns
returns c = and_not (is_named_type c.args.entry.now) _ c.if-inside.false
