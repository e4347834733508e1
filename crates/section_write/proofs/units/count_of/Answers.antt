use Rattle.std.proofs.Common.{ap, length, arith}
use Rattle.section_write.proofs.Between.{size_all}
use Rattle.section_write.proofs.UnitByUnit.{units_few}
use Rattle.section_write.proofs.units.count_of.Goals as goal

pub overflow_cast-result : goal.overflow_cast-result
overflow_cast-result c =
    let m = c.requires.measured in
    record { fits = omega (arith, ap length c.drafts.ensures, m.measured.3.count, units_few m.graph c.args.layout.now m.measured) }

pub returns-clause-size : goal.returns-clause-size
returns-clause-size c = rw (ap length c.drafts.ensures, c.requires.bytes) (size_all c.args.layout.now c.requires.measured)
