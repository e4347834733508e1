use Rattle.graph_laws.proofs.Images.{image_told}
use Rattle.graph_laws.proofs.laws.images_tell_their_graph.Goals as goal

pub returns : goal.returns
returns c = image_told
