use Rattle.unit_tree.proofs.Written.{is_written, written_is}
use Rattle.unit_tree.proofs.laws.written_units_lead_somewhere.Goals as goal

pub returns : goal.returns
returns c = record { found = written_is; only = is_written }
