use Rattle.dwarf_types.specs.SectionBytes.{bytes_in}
use Rattle.range_lists.specs.Reading.{ranges_of}
use Rattle.range_lists.proofs.Spans.{ranges_given}
use Rattle.range_lists.proofs.ranges.read_ranges.Goals as goal

pub returns-clause-exact : goal.returns-clause-exact
unfolding ranges_of
returns-clause-exact c = rw (c.section_of-section.ensures.part, c.range_lists.ensures, c.section_of-section.ensures.form) at c.read_list.ensures

pub returns-clause-sound : goal.returns-clause-sound
unfolding ranges_of
returns-clause-sound c = ranges_given (bytes_in c.args.sections.now) c.args.relocs.now c.args.image.now c.args.offset c.args.version c.args.base.now c.args.addresses.now c.args.addr_base c.read_list.result (rw (c.section_of-section.ensures.part, c.range_lists.ensures, c.section_of-section.ensures.form) at c.read_list.ensures)
