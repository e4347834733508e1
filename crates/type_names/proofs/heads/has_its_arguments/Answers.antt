use Rattle.std.proofs.Common.{◌∙◌, codes, sym}
use Rattle.type_names.specs.Entries.{holds}
use Rattle.type_names.proofs.Orders.{or_not, or_so}
use Rattle.type_names.proofs.heads.has_its_arguments.Goals as goal

pub returns-then-has_template_parameter : goal.returns-then-has_template_parameter
returns-then-has_template_parameter c = c.holds.ensures ∙ or_so (holds (codes "<") c.args.name.now) _ (sym c.has_template_parameter.ensures ∙ c.if-has_template_parameter.true)

pub returns : goal.returns
returns c = or_not (holds (codes "<") c.args.name.now) _ (sym c.has_template_parameter.ensures ∙ c.if-has_template_parameter.false)
