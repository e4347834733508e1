use Rattle.dwarf_types.specs.SectionBytes.{bytes_in}
use Rattle.object_read.specs.Seen.{read_in}
use Rattle.object_view.proofs.AfterReading.{analysis_gives, read_gives, read_sound, read_spelled, read_with}
use Rattle.object_view.proofs.analysis.analyse.Goals as goal

pub returns-clause-exact : goal.returns-clause-exact
returns-clause-exact c =
    let read = c.in_ok-read.read in
    analysis_gives c.args.bytes.now c.args.object.now c.args.cpu (read_in c.args.bytes.now read) c.analyse_taken.result c.in_ok-read.ensures.exact
    (read_gives c.args.bytes.now read (bytes_in c.in_ok-read.sections) c.in_ok-read.ensures.sections c.in_ok-read.ensures.sound c.args.object.now c.analyse_taken.result c.analyse_taken.ensures)

pub returns-clause-sound : goal.returns-clause-sound
returns-clause-sound c =
    read_sound c.args.bytes.now c.in_ok-read.read (bytes_in c.in_ok-read.sections) c.in_ok-read.ensures.sections c.in_ok-read.ensures.sound c.args.object.now c.analyse_taken.result c.analyse_taken.ensures

pub returns-clause-spelled : goal.returns-clause-spelled
returns-clause-spelled c =
    read_spelled c.args.bytes.now c.in_ok-read.read (bytes_in c.in_ok-read.sections) c.in_ok-read.ensures.sections c.in_ok-read.ensures.sound c.args.object.now c.analyse_taken.result c.analyse_taken.ensures
    c.args.cpu c.in_ok-read.ensures.exact

pub analyse_taken-requires : goal.analyse_taken-requires
analyse_taken-requires c = read_with c.args.bytes.now c.in_ok-read.read (bytes_in c.in_ok-read.sections) c.in_ok-read.ensures.sections c.in_ok-read.ensures.sound
