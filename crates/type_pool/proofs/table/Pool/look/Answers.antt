use Rattle.std.proofs.Common.{◌≡◌, ◌<◌, ◌≤◌, refl, ◌∙◌, arith}
use Rattle.type_pool.proofs.table.Pool.look.Goals as goal
use Rattle.type_pool.proofs.Keep.{looks}
use Rattle.type_pool.proofs.Seating.{IsNear, stays_looked}

pub load-requires : goal.load-requires
load-requires c =
    let pool = c.args.self.now in
    let seat = c.args.seat.now in
    let inside : c.args.cell < pool.table.shared.key.cells = omega arith in
    let shared : 1 ≤ seat.seat.me.0.share = omega arith in
    let names : seat.seat.me.0.names ≡ pool.table.shared.key.names = omega arith in
    (c.requires.belongs.0, omega arith, looks pool.table.shared.key pool.table.shared.table_id.slots seat.seat.id seat.seat.me c.args.cell names inside shared)

pub invariant_of-seat : goal.invariant_of-seat
invariant_of-seat c =
    let seat = c.args.seat.now in
    let stays = stays_looked seat.seat.me.0 c.load.new.seat.me.0 c.args.cell c.load.result (omega arith) (c.load.ensures.2.3 c.args.cell refl) in
    let old : IsNear seat.seat.me.0 = record { near = seat.near } in
    record {
      counted = (stays.share ∙ seat.counted.0, seat.counted.1, seat.counted.2);
      near = (stays.near old).near;
      empty_handed = c.load.ensures.2.1 ∙ seat.empty_handed;
    }

pub returns-clause-belongs : goal.returns-clause-belongs
returns-clause-belongs c =
    let stays = stays_looked c.args.seat.now.seat.me.0 c.load.new.seat.me.0 c.args.cell c.load.result (omega arith) (c.load.ensures.2.3 c.args.cell refl) in
    (c.load.ensures.0 ∙ c.requires.belongs.0, stays.cells ∙ c.requires.belongs.1, stays.names ∙ c.requires.belongs.2)
