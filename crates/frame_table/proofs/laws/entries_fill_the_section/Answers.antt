use Rattle.frame_table.proofs.Telling.{entries_fill, section_whole}
use Rattle.frame_table.proofs.laws.entries_fill_the_section.Goals as goal

pub returns-clause-entries : goal.returns-clause-entries
returns-clause-entries c = entries_fill

pub returns-clause-whole : goal.returns-clause-whole
returns-clause-whole c = section_whole
