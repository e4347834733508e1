use Rattle.std.proofs.Common.{◌<◌, ◌≤◌, refl, ◌∙◌, arith}
use Rattle.type_pool.proofs.table.Pool.bid.Goals as goal
use Rattle.type_pool.proofs.Keep.{underbids}
use Rattle.type_pool.proofs.Seating.{IsNear, stays_bidden}

pub fetch_min-requires : goal.fetch_min-requires
fetch_min-requires c =
    let pool = c.args.self.now in
    let seat = c.args.seat.now in
    let note = c.requires.noted in
    let near = seat.near c.args.cell note.0 note.1 in
    let inside : c.args.cell < pool.table.shared.key.cells = omega arith in
    let shared : 1 ≤ seat.seat.me.0.share = omega arith in
    (c.requires.belongs.0, omega arith, underbids pool.table.shared.key pool.table.shared.table_id.slots seat.seat.id seat.seat.me c.args.cell note.0 c.args.number inside shared note.1)

pub invariant_of-seat : goal.invariant_of-seat
invariant_of-seat c =
    let seat = c.args.seat.now in
    let stays = stays_bidden seat.seat.me.0 c.fetch_min.new.seat.me.0 c.args.cell c.args.number (c.fetch_min.ensures.2.1 c.args.cell refl) in
    let old : IsNear seat.seat.me.0 = record { near = seat.near } in
    record {
      counted = (stays.share ∙ seat.counted.0, seat.counted.1, seat.counted.2);
      near = (stays.near old).near;
      empty_handed = c.fetch_min.ensures.2.0 ∙ seat.empty_handed;
    }

pub returns-clause-belongs : goal.returns-clause-belongs
returns-clause-belongs c =
    let stays = stays_bidden c.args.seat.now.seat.me.0 c.fetch_min.new.seat.me.0 c.args.cell c.args.number (c.fetch_min.ensures.2.1 c.args.cell refl) in
    (c.fetch_min.ensures.0 ∙ c.requires.belongs.0, stays.cells ∙ c.requires.belongs.1, stays.names ∙ c.requires.belongs.2)
