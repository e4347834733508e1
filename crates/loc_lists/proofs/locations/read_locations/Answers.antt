use Rattle.dwarf_types.specs.SectionBytes.{bytes_in}
use Rattle.loc_lists.specs.Reading.{locations_of}
use Rattle.loc_lists.proofs.Items.{locations_given}
use Rattle.loc_lists.proofs.locations.read_locations.Goals as goal

pub returns-clause-exact : goal.returns-clause-exact
unfolding locations_of
returns-clause-exact c = rw (c.section_of-section.ensures.part, c.location_lists.ensures, c.section_of-section.ensures.form) at c.read_list.ensures

pub returns-clause-sound : goal.returns-clause-sound
unfolding locations_of
returns-clause-sound c = locations_given (bytes_in c.args.sections.now) c.args.relocs.now c.args.image.now c.args.offset c.args.version c.args.base.now c.args.addresses.now c.args.addr_base c.read_list.result (rw (c.section_of-section.ensures.part, c.location_lists.ensures, c.section_of-section.ensures.form) at c.read_list.ensures)
