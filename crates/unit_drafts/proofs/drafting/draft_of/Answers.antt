use Rattle.clone_units.specs.Given.{unit_given}
use Rattle.link_graph.specs.Graph.{graph_in}
use Rattle.unit_drafts.proofs.drafting.draft_of.Goals as goal

pub returns : goal.returns
returns g c = λ all is there. c.drafted.ensures (graph_in all c.args.shape.now) c.args.unit (unit_given c.in_ok-clone.clone) (c.in_ok-clone.ensures all is there) c.draft_unit.ensures
