use Rattle.std.proofs.Common.{arith}
use Rattle.object_read.specs.Opened.{opened_seen}
use Rattle.object_read.proofs.Opening.{opened_is}
use Rattle.object_read.proofs.Reading.{read_as, read_so}
use Rattle.object_read.proofs.read.read_with_sections.Goals as goal

pub returns-clause-exact : goal.returns-clause-exact
returns-clause-exact c = read_as c.args.bytes.now c.args.cpu (opened_seen c.in_ok-image.field-0) c.in_ok-units.units c.in_ok-image.ensures.exact c.in_ok-units.ensures.exact

pub returns-clause-sound : goal.returns-clause-sound
returns-clause-sound c =
    read_so c.args.bytes.now c.args.cpu (opened_seen c.in_ok-image.field-0) c.in_ok-units.units c.in_ok-units.numbers (λ i. let h = c.type_inv.bytes i in omega (arith, h)) c.in_ok-image.ensures.exact
    c.in_ok-image.ensures.sound_image c.in_ok-image.ensures.sound (c.in_ok-image.ensures.small c.requires) c.in_ok-units.ensures.exact c.in_ok-units.ensures.sound c.in_ok-units.ensures.inside c.in_ok-units.ensures.numbers

pub returns-clause-sections : goal.returns-clause-sections
returns-clause-sections c = (opened_is c.args.bytes.now c.args.cpu (opened_seen c.in_ok-image.field-0) c.in_ok-image.ensures.exact).are
