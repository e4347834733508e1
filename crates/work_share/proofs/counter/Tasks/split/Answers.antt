use Rattle.std.proofs.Common.{arith}
use Rattle.work_share.proofs.Rules.{splits}
use Rattle.work_share.proofs.counter.Tasks.split.Goals as goal

pub split_seat-given-requires : goal.split_seat-given-requires
split_seat-given-requires c =
    let seat = c.args.seat.now in
    (c.requires.0, omega arith, splits c.args.self.now.table.shared.key _ seat.seat.me.0 (omega arith))
