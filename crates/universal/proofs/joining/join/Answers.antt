use Rattle.std.proofs.Common.{◌<◌, ◌^◌, length, arith}
use Rattle.universal.specs.Joined.{joined}
use Rattle.universal.proofs.Rooms.{parts_small}
use Rattle.universal.proofs.joining.join.Goals as goal

pub sizes_of-requires : goal.sizes_of-requires
sizes_of-requires c =
    let small : length (joined c.args.parts.now) < 2 ^ 32 = omega (arith, c.if-size-from.false, c.from.ensures, c.joined_size-size.ensures) in
    record { small = parts_small c.args.parts.now small }
