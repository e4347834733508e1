use Rattle.std.proofs.Common.{◌≡◌, ◌≤◌, ◌+◌, sym, ap, ◌∙◌, arith}
use Rattle.type_pool.specs.declared.view.View.{View}
use Rattle.type_pool.specs.Views.{united}
use Rattle.type_pool.proofs.table.Pool.join.Goals as goal
use Rattle.type_pool.proofs.Keep.{joins, weighs}
use Rattle.type_pool.proofs.Seating.{IsNear, near_united}

pub join_seat-requires : goal.join_seat-requires
join_seat-requires c =
    let pool = c.args.self.now in
    let seat = c.args.seat.now in
    let other = c.args.other in
    let shared : 1 ≤ seat.seat.me.0.share = omega arith in
    (c.requires.belongs.0.0, c.requires.belongs.1.0, other.empty_handed, omega arith, joins pool.table.shared.key seat.seat.id seat.seat.me.0 other.seat.id other.seat.me.0 shared)

pub load-requires : goal.load-requires
load-requires c =
    let pool = c.args.self.now in
    (c.join_seat.ensures.0 ∙ c.requires.belongs.0.0, omega arith, weighs pool.table.shared.key pool.table.shared.table_id.slots c.join_seat.new.seat.id c.join_seat.new.seat.me 0)

pub invariant_of-seat : goal.invariant_of-seat
invariant_of-seat c =
    let seat = c.args.seat.now in
    let other = c.args.other in
    let joined : c.join_seat.new.seat.me ≡ (united seat.seat.me.0 other.seat.me.0, seat.seat.me.1) = c.join_seat.ensures.2 in
    let weighed : c.load.new.seat.me ≡ c.join_seat.new.seat.me = c.load.ensures.2.0 in
    let few : c.join_seat.new.seat.me.0.share ≤ 64 = c.load.ensures.2.1 in
    let is : c.load.new.seat.me.0 ≡ united seat.seat.me.0 other.seat.me.0 = λ i. ((weighed ∙ joined) i).0 in
    let sum : c.join_seat.new.seat.me.0.share ≡ seat.seat.me.0.share + other.seat.me.0.share = λ i. (joined i).0.share in
    let mine : IsNear seat.seat.me.0 = record { near = seat.near } in
    let its : IsNear other.seat.me.0 = record { near = other.near } in
    let share : c.load.new.seat.me.0.share ≡ seat.seat.me.0.share + other.seat.me.0.share = ap (λ (v : View). v.share) is in
    record {
      counted = (omega arith, omega arith, omega arith);
      near = (near_united seat.seat.me.0 other.seat.me.0 c.load.new.seat.me.0 (c.requires.belongs.0.1 ∙ sym c.requires.belongs.1.1) is mine its).near;
      empty_handed = (λ i. ((weighed ∙ joined) i).1) ∙ seat.empty_handed;
    }
