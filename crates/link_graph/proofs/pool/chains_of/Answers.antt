use Rattle.std.proofs.Common.{◌+◌, ◌-◌, ◌^◌, ◌∙◌, inr, ap, refl, arith}
use Rattle.link_graph.specs.PoolOrder.{AnyName, Passed, firsts, nexts}
use Rattle.link_graph.proofs.Families.{chains_same, hung_half, none_hung}
use Rattle.link_graph.proofs.Links.{firsts_none, nexts_none}
use Rattle.link_graph.proofs.pool.chains_of.Goals as goal

pub hang_winners-requires-clause-hung : goal.hang_winners-requires-clause-hung
hang_winners-requires-clause-hung c =
    let names = c.args.names.now in
    let links = c.in_ok-chains.chains.items in
    none_hung names c.args.winners.now (2 ^ 63) (2 ^ 64 - 1) (firsts links) (nexts links) (c.count.result + 1) c.count.result
    (ap firsts c.in_ok-chains.ensures ∙ firsts_none (c.count.result + 1)) (ap nexts c.in_ok-chains.ensures ∙ nexts_none c.count.result) refl c.count.ensures c.bids_are_some.ensures

pub hang_winners-requires-2-clause-hung : goal.hang_winners-requires-2-clause-hung
hang_winners-requires-2-clause-hung c = hung_half c.args.names.now c.args.winners.now (2 ^ 63) (2 ^ 64 - 1) (firsts c.hang_winners.new.chains.items) (nexts c.hang_winners.new.chains.items) (omega arith) c.hang_winners.ensures

pub returns-clause-chains : goal.returns-clause-chains
returns-clause-chains c =
    let names = c.args.names.now in
    let links = c.hang_winners-2.new.chains.items in
    chains_same names c.args.winners.now (Passed names 0 (2 ^ 63) 0) AnyName (firsts links) (nexts links) (λ x passed. tt) (λ x any wins. inr (omega arith, omega arith)) c.hang_winners-2.ensures
