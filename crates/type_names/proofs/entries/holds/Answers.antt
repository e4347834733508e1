use Rattle.std.proofs.Common.{◌∙◌}
use Rattle.type_names.proofs.Holding.{found}
use Rattle.type_names.proofs.entries.holds.Goals as goal

pub returns : goal.returns
returns c = c.is_some.ensures ∙ found c.args.text.now c.args.part.now c.find.result c.requires c.find.ensures
