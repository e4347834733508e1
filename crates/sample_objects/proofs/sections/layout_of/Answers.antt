use Rattle.std.proofs.Common.{subst, Err}
use Rattle.layout.specs.Laid.{Measures}
use Rattle.layout.specs.Lengths.{long_section, long_unit}
use Rattle.sample_objects.specs.ObjectFile.{graph_of}
use Rattle.sample_objects.proofs.Told.{not_both}
use Rattle.sample_objects.proofs.sections.layout_of.Goals as goal

pub unreachable-requires : goal.unreachable-requires
unreachable-requires g c =
    let long = subst (λ e. Measures (graph_of c.args.unit.now) (Err e)) c.in-Err-Unit.field-0-is c.in-Err-Unit.ensures in
    not_both (long_unit (graph_of c.args.unit.now)) _ c.requires.unit long

pub unreachable-requires-in-Err-Section : goal.unreachable-requires-in-Err-Section
unreachable-requires-in-Err-Section g c =
    let long = subst (λ e. Measures (graph_of c.args.unit.now) (Err e)) c.in-Err-Section.field-0-is c.in-Err-Section.ensures in
    not_both (long_section (graph_of c.args.unit.now)) _ c.requires.sections long.1
