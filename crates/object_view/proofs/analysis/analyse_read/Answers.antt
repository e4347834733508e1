use Rattle.dwarf_types.specs.SectionBytes.{bytes_in}
use Rattle.object_view.proofs.AfterReading.{read_gives, read_sound, read_spelled, read_with}
use Rattle.object_view.proofs.analysis.analyse_read.Goals as goal

pub returns-clause-exact : goal.returns-clause-exact
returns-clause-exact c = read_gives c.args.bytes.now c.args.read (bytes_in c.sections_of-sections.result) c.sections_of-sections.ensures c.requires c.args.object.now c.analyse_taken.result c.analyse_taken.ensures

pub returns-clause-sound : goal.returns-clause-sound
returns-clause-sound c = read_sound c.args.bytes.now c.args.read (bytes_in c.sections_of-sections.result) c.sections_of-sections.ensures c.requires c.args.object.now c.analyse_taken.result c.analyse_taken.ensures

pub returns-clause-spelled : goal.returns-clause-spelled
returns-clause-spelled c = read_spelled c.args.bytes.now c.args.read (bytes_in c.sections_of-sections.result) c.sections_of-sections.ensures c.requires c.args.object.now c.analyse_taken.result c.analyse_taken.ensures

pub analyse_taken-requires : goal.analyse_taken-requires
analyse_taken-requires c = read_with c.args.bytes.now c.args.read (bytes_in c.sections_of-sections.result) c.sections_of-sections.ensures c.requires

pub sections_of-sections-requires : goal.sections_of-sections-requires
sections_of-sections-requires c = c.requires.lie
