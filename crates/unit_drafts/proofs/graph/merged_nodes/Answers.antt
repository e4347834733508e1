use Rattle.std.proofs.Common.{sym, arith}
use Rattle.unit_drafts.proofs.Graphs.{pool_none}
use Rattle.unit_drafts.proofs.graph.merged_nodes.Goals as goal

pub returns-then-pooled-eq0 : goal.returns-then-pooled-eq0
returns-then-pooled-eq0 c = λ names e h. sym (pool_none names (omega (arith, e, c.if-pooled-eq0.true)))
