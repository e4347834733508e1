use Rattle.std.proofs.Common.{subst, sym}
use Rattle.link_graph.specs.PoolOrder.{AreRanked}
use Rattle.link_graph.proofs.LinkedRanks.{linked_ranked}
use Rattle.unit_drafts.proofs.shaping.Shaping.paths.Goals as goal

pub path_nodes-requires-clause-ranked : goal.path_nodes-requires-clause-ranked
path_nodes-requires-clause-ranked c =
    let job = c.args.self.now in
    subst AreRanked (sym c.requires.named) (linked_ranked c.requires.odr job.seen.now job.live.now c.requires.sound c.requires.few)
