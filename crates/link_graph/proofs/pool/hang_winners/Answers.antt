use Rattle.std.proofs.Common.{◌≡◌, ◌+◌, ◌-◌, ◌<◌, ◌≤◌, ℕ, length, subst, arith}
use Rattle.odr_names.specs.Numbered.{bid_at}
use Rattle.std.proofs.lemmas.List.{length-map}
use Rattle.link_graph.specs.declared.pool.Link.{Link}
use Rattle.link_graph.specs.PoolOrder.{AreHungFrom, Wins, firsts, name_of, nexts}
use Rattle.link_graph.proofs.Families.{hung_more, hung_past, key_few, linked_up, passed_high, passed_loser, passed_low, ranked_apart, right_below}
use Rattle.link_graph.proofs.pool.hang_winners.Goals as goal

pub loop-x-preserved-then-winners-x : goal.loop-x-preserved-then-winners-x
loop-x-preserved-then-winners-x c =
    let names = c.args.names.now in
    let winners = c.args.winners.now in
    let from = c.args.from in
    let to = c.args.to in
    let n = c.loop-x.x - 1 in
    let first = firsts c.loop-x.chains.items in
    let next = nexts c.loop-x.chains.items in
    let one : c.loop-x.x ≡ n + 1 = omega (arith, c.loop-x-test.true) in
    let so_far = subst (λ (k : ℕ). AreHungFrom names winners from to k first next) one c.loop-x.invariant.hung in
    record { within = omega (arith, c.loop-x.invariant.within); hung = hung_past names winners from to n first next (passed_loser names winners from to n c.if-winners-x.true) so_far }

pub loop-x-preserved-then-bid-from : goal.loop-x-preserved-then-bid-from
loop-x-preserved-then-bid-from c =
    let names = c.args.names.now in
    let winners = c.args.winners.now in
    let from = c.args.from in
    let to = c.args.to in
    let n = c.loop-x.x - 1 in
    let first = firsts c.loop-x.chains.items in
    let next = nexts c.loop-x.chains.items in
    let one : c.loop-x.x ≡ n + 1 = omega (arith, c.loop-x-test.true) in
    let so_far = subst (λ (k : ℕ). AreHungFrom names winners from to k first next) one c.loop-x.invariant.hung in
    let low : bid_at names n < from = omega (arith, c.if-bid-from.true, c.number-bid.ensures) in
    record { within = omega (arith, c.loop-x.invariant.within); hung = hung_past names winners from to n first next (passed_low names winners from to n low) so_far }

pub loop-x-preserved-then-bid-to : goal.loop-x-preserved-then-bid-to
loop-x-preserved-then-bid-to c =
    let names = c.args.names.now in
    let winners = c.args.winners.now in
    let from = c.args.from in
    let to = c.args.to in
    let n = c.loop-x.x - 1 in
    let first = firsts c.loop-x.chains.items in
    let next = nexts c.loop-x.chains.items in
    let one : c.loop-x.x ≡ n + 1 = omega (arith, c.loop-x-test.true) in
    let so_far = subst (λ (k : ℕ). AreHungFrom names winners from to k first next) one c.loop-x.invariant.hung in
    let high : to ≤ bid_at names n = omega (arith, c.if-bid-to.true, c.number-bid.ensures) in
    record { within = omega (arith, c.loop-x.invariant.within); hung = hung_past names winners from to n first next (passed_high names winners from to n high) so_far }

pub hang-requires-clause-key : goal.hang-requires-clause-key
hang-requires-clause-key c =
    let names = c.args.names.now in
    let winners = c.args.winners.now in
    let from = c.args.from in
    let to = c.args.to in
    let n = c.loop-x.x - 1 in
    let first = firsts c.loop-x.chains.items in
    let next = nexts c.loop-x.chains.items in
    let one : c.loop-x.x ≡ n + 1 = omega (arith, c.loop-x-test.true) in
    let so_far = subst (λ (k : ℕ). AreHungFrom names winners from to k first next) one c.loop-x.invariant.hung in
    let linked = linked_up names n c.above-up.result c.above-up.ensures.before c.above-up.ensures.path in
    let within : n < length names = omega (arith, one, c.loop-x.invariant.within) in
    let below = right_below names winners n c.key_of.result linked (ranked_apart names c.requires.ranked) c.requires.winners within c.key_of.ensures in
    omega (arith, key_few names winners c.key_of.result below.key_is, so_far.wide, length-map c.loop-x.chains.items (λ (link : Link). name_of link.first))

pub hang-requires-clause-name : goal.hang-requires-clause-name
hang-requires-clause-name c =
    let wide = c.loop-x.invariant.hung.wide in
    let long = length-map c.loop-x.chains.items (λ (link : Link). name_of link.first) in
    (omega (arith, c.loop-x-test.true, c.loop-x.invariant.within, wide, long), omega (arith, c.loop-x-test.true))

pub loop-x-preserved : goal.loop-x-preserved
loop-x-preserved c =
    let names = c.args.names.now in
    let winners = c.args.winners.now in
    let from = c.args.from in
    let to = c.args.to in
    let n = c.loop-x.x - 1 in
    let first = firsts c.loop-x.chains.items in
    let next = nexts c.loop-x.chains.items in
    let one : c.loop-x.x ≡ n + 1 = omega (arith, c.loop-x-test.true) in
    let so_far = subst (λ (k : ℕ). AreHungFrom names winners from to k first next) one c.loop-x.invariant.hung in
    let linked = linked_up names n c.above-up.result c.above-up.ensures.before c.above-up.ensures.path in
    let within : n < length names = omega (arith, one, c.loop-x.invariant.within) in
    let low : from ≤ bid_at names n = omega (arith, c.if-bid-from.false, c.number-bid.ensures) in
    let high : bid_at names n < to = omega (arith, c.if-bid-to.false, c.number-bid.ensures) in
    let wins : Wins names winners n = record { within = within; itself = c.if-winners-x.false } in
    record {
      within = omega (arith, c.loop-x.invariant.within);
      hung = rw (c.hang.ensures.first, c.hang.ensures.next)
          (hung_more names winners from to n first next c.key_of.result c.requires.ranked c.requires.winners c.requires.bounds c.requires.linked linked c.key_of.ensures wins low high so_far);
    }
