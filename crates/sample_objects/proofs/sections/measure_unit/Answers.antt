use Rattle.std.proofs.Common.{sym, arith}
use Rattle.sample_objects.specs.ObjectFile.{graph_of}
use Rattle.sample_objects.proofs.sections.measure_unit.Goals as goal

pub place_drafts-requires-clause-few : goal.place_drafts-requires-clause-few
place_drafts-requires-clause-few g c = omega (arith, c.in_ok-drafts.ensures.count)

pub returns : goal.returns
returns g c = c.place_drafts.ensures (graph_of c.args.unit.now) c.in_ok-drafts.ensures (sym c.new-frames.ensures)
