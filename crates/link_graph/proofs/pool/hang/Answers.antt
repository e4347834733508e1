use Rattle.link_graph.proofs.Links.{firsts_hung, nexts_hung}
use Rattle.link_graph.proofs.pool.hang.Goals as goal

pub returns-clause-first : goal.returns-clause-first
returns-clause-first c = firsts_hung c.args.chains.now.items c.args.key c.args.x c.index_mut.result.now c.index.result.now c.index_mut-2.result.now _ _ c.index.result.now c.requires.key c.index_mut.ensures.value c.index.ensures

pub returns-clause-next : goal.returns-clause-next
returns-clause-next c = nexts_hung c.args.chains.now.items c.args.key c.args.x c.index_mut.result.now c.index.result.now c.index_mut-2.result.now _ _ _ c.requires.key c.index_mut.ensures.value c.index.ensures c.index_mut-2.ensures.value
