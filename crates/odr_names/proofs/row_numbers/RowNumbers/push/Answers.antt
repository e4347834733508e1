use Rattle.odr_names.proofs.HeldNumbers.{held_more}
use Rattle.odr_names.proofs.row_numbers.RowNumbers.push.Goals as goal

pub returns : goal.returns
returns c = held_more c.self.inside.held.items c.push.new.self.items c.to_hold.result c.args.number c.args.self.now c.in_ok-push.ensures.items c.to_hold.ensures c.self.view_is
