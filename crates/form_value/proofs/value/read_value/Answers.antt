use Rattle.form_value.proofs.Known.{small_form, always}
use Rattle.form_value.proofs.value.read_value.Goals as goal

pub returns-clause-known : goal.returns-clause-known
returns-clause-known c = always _ (small_form c.args.field.now.form c.in-Some.row (rw c.form_class.ensures at c.in-Some.is))
