use Rattle.std.proofs.Common.{◌≤◌, arith}
use Rattle.type_pool.proofs.table.Pool.split.Goals as goal
use Rattle.type_pool.proofs.Keep.{splits}

pub split_seat-other-requires : goal.split_seat-other-requires
split_seat-other-requires c =
    let pool = c.args.self.now in
    let seat = c.args.seat.now in
    let shared : 2 ≤ seat.seat.me.0.share = omega arith in
    (c.requires.belongs.0, omega arith, splits pool.table.shared.key seat.seat.id seat.seat.me.0 shared)
