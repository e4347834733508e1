use Rattle.std.proofs.Common.{◌∙◌}
use Rattle.unit_drafts.proofs.Graphs.{has_pool, shape_whole}
use Rattle.unit_drafts.proofs.graph.shape_of.Goals as goal

pub returns : goal.returns
returns g c =
    let named = c.in_ok-open.ensures.names.0 in
    let is = c.in_ok-shape.ensures.0 in
    let pool = has_pool c.args.odr c.args.seen.now c.args.live.now c.in_ok-open.open.0 c.in_ok-shape.shape named is c.in_ok-shape.ensures.1 in
    shape_whole c.args.odr c.args.seen.now c.args.live.now c.in_ok-open.open.0 c.in_ok-shape.shape named is c.in_ok-shape.ensures.1 c.from.result c.merged_nodes-names.result c.in_ok-bids.bids.1 c.in_ok-open.ensures.names.1
    c.in_ok-shape.ensures.2 (c.from.ensures ∙ c.count-pooled.ensures) (c.merged_nodes-names.ensures c.in_ok-open.open.0 c.count-pooled.ensures pool) (record { table = c.in_ok-bids.ensures.table; book = c.in_ok-bids.ensures.book })
