use Rattle.std.proofs.Common.{◌∙◌, arith}
use Rattle.ds_base.proofs.Adding.{adds_whole}
use Rattle.layout.specs.declared.table.Content.TheVariants as contents
use Rattle.layout.proofs.SectionLengths.{layout_sizes}
use Rattle.section_write.proofs.sections.fill_lines.Goals as goal

pub emit_tables-requires-clause-fits : goal.emit_tables-requires-clause-fits
emit_tables-requires-clause-fits c = λ graph measured. omega (arith, c.requires.size, layout_sizes graph c.args.layout.now measured contents.Lines)

pub returns : goal.returns
returns c = λ graph measured. adds_whole _ _ _ _ (c.requires.size ∙ layout_sizes graph c.args.layout.now measured contents.Lines) (c.emit_tables.ensures graph measured)
