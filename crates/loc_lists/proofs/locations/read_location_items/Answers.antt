use Rattle.dwarf_types.specs.SectionBytes.{bytes_in}
use Rattle.loc_lists.specs.Reading.{location_items_of}
use Rattle.loc_lists.proofs.Items.{items_sound}
use Rattle.loc_lists.proofs.locations.read_location_items.Goals as goal

pub returns-clause-exact : goal.returns-clause-exact
unfolding location_items_of
returns-clause-exact c = rw (c.section_of-section.ensures.part, c.location_lists.ensures, c.section_of-section.ensures.form) at c.read_list.ensures

pub returns-clause-sound : goal.returns-clause-sound
unfolding location_items_of
returns-clause-sound c = items_sound (bytes_in c.args.sections.now) c.args.relocs.now c.args.image.now c.args.offset c.args.version c.args.base.now c.args.addresses.now c.args.addr_base c.read_list.result (rw (c.section_of-section.ensures.part, c.location_lists.ensures, c.section_of-section.ensures.form) at c.read_list.ensures)
