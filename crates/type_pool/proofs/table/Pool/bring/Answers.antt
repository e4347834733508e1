use Rattle.std.proofs.Common.{◌≡◌, ℕ, eqb, cond, ◌+◌, ◌-◌, ◌<◌, ◌≤◌, refl, ap, ◌∙◌, arith}
use Rattle.type_pool.specs.declared.view.View.{View}
use Rattle.type_pool.specs.Views.{noted, put}
use Rattle.type_pool.proofs.table.Pool.bring.Goals as goal
use Rattle.type_pool.proofs.Keep.{tries}
use Rattle.type_pool.proofs.Seating.{IsNear, stays_brought}

pub compare_exchange-requires : goal.compare_exchange-requires
compare_exchange-requires c =
    let pool = c.args.self.now in
    let seat = c.args.seat.now in
    let inside : c.args.cell < pool.table.shared.key.cells = omega arith in
    let shared : 1 ≤ seat.seat.me.0.share = omega arith in
    let names : seat.seat.me.0.names ≡ pool.table.shared.key.names = omega arith in
    let known : c.from.result + 1 ≤ pool.table.shared.key.names = omega arith in
    (c.requires.belongs.0, omega arith, tries pool.table.shared.key pool.table.shared.table_id.slots seat.seat.id seat.seat.me c.args.cell (c.from.result + 1) names inside shared (omega arith) known)

pub returns-clause-put : goal.returns-clause-put
returns-clause-put c =
    let v : View = c.args.seat.now.seat.me.0 in
    let found : ℕ = c.compare_exchange.result in
    let same : c.from.result + 1 - 1 ≡ c.args.x = omega arith in
    c.compare_exchange.ensures.2.3 c.args.cell refl ∙ ap (λ (name : ℕ). cond (eqb found 0) (put v c.args.cell name) (noted v c.args.cell (found - 1))) same

pub invariant_of-seat : goal.invariant_of-seat
invariant_of-seat c =
    let seat = c.args.seat.now in
    let stays = stays_brought seat.seat.me.0 c.compare_exchange.new.seat.me.0 c.args.cell (c.from.result + 1 - 1) c.compare_exchange.result (omega arith) (c.compare_exchange.ensures.2.3 c.args.cell refl) in
    let old : IsNear seat.seat.me.0 = record { near = seat.near } in
    record {
      counted = (stays.share ∙ seat.counted.0, seat.counted.1, seat.counted.2);
      near = (stays.near old).near;
      empty_handed = c.compare_exchange.ensures.2.1 ∙ seat.empty_handed;
    }

pub returns-clause-belongs : goal.returns-clause-belongs
returns-clause-belongs c =
    let stays = stays_brought c.args.seat.now.seat.me.0 c.compare_exchange.new.seat.me.0 c.args.cell (c.from.result + 1 - 1) c.compare_exchange.result (omega arith) (c.compare_exchange.ensures.2.3 c.args.cell refl) in
    (c.compare_exchange.ensures.0 ∙ c.requires.belongs.0, stays.cells ∙ c.requires.belongs.1, stays.names ∙ c.requires.belongs.2)
