use Rattle.std.proofs.Common.{arith, sym, ◌∙◌}
use Rattle.work_share.proofs.Rules.{draws, going, keeps_on, drawn_nearer}
use Rattle.work_share.proofs.counter.Tasks.claim.Goals as goal

pub fetch_add-next-requires : goal.fetch_add-next-requires
fetch_add-next-requires c =
    let seat = c.args.seat.now in
    let sized = c.args.self.now.sized in
    (c.requires.0, omega arith, draws c.args.self.now.table.shared.key _ _ seat.seat.me (c.requires.1 ∙ sym sized.0) (omega (arith, sized.0, sized.1)) (going seat.seat.me.0.kept (seat.ended ∙ c.if-seat.false)) (omega (arith, seat.counted.0, seat.counted.1)))

pub returns-then-seat-clause-none : goal.returns-then-seat-clause-none
returns-then-seat-clause-none c =
    let seat = c.args.seat.now in
    keeps_on c.args.self.now.count seat.seat.me.0 seat.fair c.requires.1 (seat.ended ∙ c.if-seat.true)

pub returns-then-next-from-clause-nearer : goal.returns-then-next-from-clause-nearer
returns-then-next-from-clause-nearer c =
    let drew = c.fetch_add-next.ensures.2 in
    drawn_nearer c.args.self.now.count c.fetch_add-next.result c.args.seat.now.seat.me.0 c.fetch_add-next.new.seat.me.0 c.requires.1 (omega arith) drew.0 drew.2
