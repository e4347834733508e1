use Rattle.link_graph.specs.Graph.{graph_in}
use Rattle.unit_drafts.proofs.Graphs.{given_whole, shape_few}
use Rattle.unit_drafts.proofs.drafting.drafts_of.Goals as goal

pub returns : goal.returns
returns g c =
    let seen = c.args.seen in
    let shape = c.args.shape.now in
    let may = c.requires.drafted in
    let done = c.in_ok-draft_others.ensures seen may (c.new-drafts.ensures shape) in
    c.all_drafted.ensures (graph_in seen shape) (shape_few seen shape may.is_shape may.few) (given_whole seen shape _ c.draft_others.new.self.outs.items may.is_shape done.1 done.0.given)
