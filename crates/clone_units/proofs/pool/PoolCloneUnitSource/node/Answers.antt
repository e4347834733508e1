use Rattle.std.proofs.Common.{◌∙◌}
use Rattle.std.proofs.lemmas.Result.{IfOk-weaker}
use Rattle.link_graph.specs.Graph.{files_of}
use Rattle.clone_units.specs.Sourced.{image_in}
use Rattle.clone_units.proofs.Asked.{pool_at, pool_many, pooled_at, root_at}
use Rattle.clone_units.proofs.pool.PoolCloneUnitSource.node.Goals as goal

pub origin_at-origin-requires : goal.origin_at-origin-requires
origin_at-origin-requires c = rw (← c.self.view_is, pool_many (image_in c.self.inside.images.now) c.self.inside.seen.now c.self.inside.images.now (files_of c.self.inside.seen.now c.self.inside.origins.now) c.self.inside.origins.now c.self.invariant.0) at c.requires

pub returns-then-k-eq0 : goal.returns-then-k-eq0
returns-then-k-eq0 c =
    rw (← c.self.view_is) (IfOk-weaker c.root_node.result _ _ (λ head is. root_at (image_in c.self.inside.images.now) c.self.inside.seen.now c.self.inside.images.now (files_of c.self.inside.seen.now c.self.inside.origins.now) c.self.inside.origins.now c.self.invariant.0 c.args.k _ c.if-k-eq0.true is) c.root_node.ensures)

pub merged_node-requires-clause-pooled : goal.merged_node-requires-clause-pooled
merged_node-requires-clause-pooled c =
    pooled_at (image_in c.self.inside.images.now) c.self.inside.seen.now c.self.inside.images.now (files_of c.self.inside.seen.now c.self.inside.origins.now) c.self.inside.origins.now c.self.invariant.0 c.args.k c.origin_at-origin.result c.if-k-eq0.false c.origin_at-origin.ensures

pub returns : goal.returns
returns c =
    let files = files_of c.self.inside.seen.now c.self.inside.origins.now in
    let made = c.merged_node.ensures files (c.as_slice-numbers.ensures ∙ c.self.invariant.1.numbers) in
    let there = pool_at (image_in c.self.inside.images.now) c.self.inside.seen.now c.self.inside.images.now (files_of c.self.inside.seen.now c.self.inside.origins.now) c.self.inside.origins.now c.self.invariant.0 c.args.k c.origin_at-origin.result c.if-k-eq0.false c.origin_at-origin.ensures in
    rw (← c.self.view_is) (IfOk-weaker c.merged_node.result _ _ (λ head is. there ∙ is) made)
