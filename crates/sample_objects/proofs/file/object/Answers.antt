use Rattle.std.proofs.Common.{length, ◌∙◌, ap, arith}
use Rattle.layout.specs.Laid.{Laid}
use Rattle.layout.proofs.Limits.{line_short}
use Rattle.sample_objects.proofs.LineSizes.{below_limit, line_end, one_table}
use Rattle.sample_objects.specs.ObjectFile.{graph_of}
use Rattle.sample_objects.proofs.file.object.Goals as goal

pub layout_of-requires-clause-unit : goal.layout_of-requires-clause-unit
layout_of-requires-clause-unit g c κs within = c.requires.unit

pub layout_of-requires-clause-sections : goal.layout_of-requires-clause-sections
layout_of-requires-clause-sections g c κs within = c.requires.sections

pub contents_of-requires-clause-measured : goal.contents_of-requires-clause-measured
contents_of-requires-clause-measured g c κs within = record { graph = graph_of c.args.spec.now.unit; measured = c.in_ok-layout.ensures }

pub contents_of-requires-clause-sized : goal.contents_of-requires-clause-sized
contents_of-requires-clause-sized g c κs within = λ graph measured. c.as_slice.ensures ∙ c.in_ok-sized.ensures.sized graph measured

pub line_relocs-requires-clause-size : goal.line_relocs-requires-clause-size
line_relocs-requires-clause-size g c = c.section_size-lines.ensures ∙ ap (λ (l : Laid). l.ends.line) c.in_ok-layout.ensures.0 ∙ line_end c.args.spec.now.unit ∙ one_table c.args.spec.now.unit

pub line_relocs-requires-clause-small : goal.line_relocs-requires-clause-small
line_relocs-requires-clause-small g c = below_limit _ _ (c.section_size-lines.ensures ∙ ap (λ (l : Laid). l.ends.line) c.in_ok-layout.ensures.0 ∙ line_end c.args.spec.now.unit) (line_short (graph_of c.args.spec.now.unit) c.requires.sections)

pub object_of-requires-clause-few : goal.object_of-requires-clause-few
object_of-requires-clause-few g c = omega (arith, ap length c.as_slice-2.ensures, c.in_ok-sized.ensures.few)

pub object_of-requires-clause-sized : goal.object_of-requires-clause-sized
object_of-requires-clause-sized g c = c.as_slice-2.ensures ∙ c.in_ok-sized.ensures.sized (graph_of c.args.spec.now.unit) c.in_ok-layout.ensures

pub object_of-requires-clause-contents : goal.object_of-requires-clause-contents
object_of-requires-clause-contents g c = c.as_slice-3.ensures ∙ c.in_ok-contents.ensures (graph_of c.args.spec.now.unit) c.in_ok-layout.ensures

pub object_of-requires-clause-moved : goal.object_of-requires-clause-moved
object_of-requires-clause-moved g c = c.as_slice-4.ensures ∙ c.in_ok-moved.ensures

pub object_of-requires-clause-symbols : goal.object_of-requires-clause-symbols
object_of-requires-clause-symbols g c = c.requires.symbols

pub returns : goal.returns
returns g c = c.object_of.ensures
