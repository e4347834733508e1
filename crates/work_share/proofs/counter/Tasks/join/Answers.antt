use Rattle.std.proofs.Common.{arith, sym, ◌∙◌}
use Rattle.work_share.proofs.Rules.{joins, looks}
use Rattle.work_share.proofs.counter.Tasks.join.Goals as goal

pub join_seat-requires : goal.join_seat-requires
join_seat-requires c =
    let seat = c.args.seat.now in
    (c.requires.seat.0, c.requires.other.0, c.args.other.bare, omega arith, joins c.args.self.now.table.shared.key _ seat.seat.me.0 _ c.args.other.seat.me.0 (omega arith))

pub load-requires : goal.load-requires
load-requires c =
    let seat = c.args.seat.now in
    let e = c.join_seat.ensures in
    (e.0 ∙ c.requires.seat.0, omega arith, looks c.args.self.now.table.shared.key _ _ c.join_seat.new.seat.me (rw e.2 (c.requires.seat.1 ∙ sym c.args.self.now.sized.0)))
