use Rattle.std.specs.List.Sorted.{IsPermutation}
use Rattle.odr_names.proofs.Winning.{found_these, ranked_moved, ranks_whole}
use Rattle.odr_names.proofs.winners.put_winners.Goals as goal

pub rank_winners-requires-clause-ranked : goal.rank_winners-requires-clause-ranked
rank_winners-requires-clause-ranked c = rw c.deref.ensures.value (ranked_moved c.args.names.now c.in_ok-ranks.ranks.items c.sort_ranks.new.ranks.items (ranks_whole c.args.names.now c.args.some.now c.in_ok-ranks.ranks.items c.requires.whole c.in_ok-ranks.ensures) c.sort_ranks.ensures.same)

pub returns-clause-put : goal.returns-clause-put
returns-clause-put c =
    let moved : IsPermutation c.in_ok-ranks.ranks.items c.deref.result.now = rw c.deref.ensures.value c.sort_ranks.ensures.same in
    found_these c.args.names.now c.args.some.now c.in_ok-ranks.ranks.items c.deref.result.now c.args.winners.now.items c.rank_winners.new.winners.items c.in_ok-ranks.ensures moved c.requires.len c.rank_winners.ensures.found
    c.rank_winners.ensures.others
