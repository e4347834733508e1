use Rattle.image_laws.proofs.WereRead.{read_fits}
use Rattle.graph_laws.proofs.Images.{image_told}
use Rattle.graph_laws.proofs.laws.bundles_tell_their_graph.Goals as goal

pub returns : goal.returns
returns c file program graph are read kind well readable small = image_told program graph (read_fits file program are read kind) kind well readable small
