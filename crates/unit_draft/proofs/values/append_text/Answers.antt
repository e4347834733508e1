use Rattle.unit_draft.proofs.Valuing.{text_appended}
use Rattle.unit_draft.proofs.values.append_text.Goals as goal

pub returns : goal.returns
returns c = text_appended c.args.number c.args.version c.args.drafting.now c.leave.new.self c.number_of.new.self c.args.text.now c.in_ok-i.i c.in_ok-i.ensures.grown c.in_ok-i.ensures.number c.in_ok-leave.ensures.ok
