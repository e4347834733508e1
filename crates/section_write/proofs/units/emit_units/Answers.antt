use Rattle.std.proofs.Common.{◌∙◌, arith}
use Rattle.section_write.proofs.Between.{bytes_all}
use Rattle.section_write.proofs.units.emit_units.Goals as goal

pub returns : goal.returns
returns g c = λ graph measured. c.fill_units.ensures.bytes graph measured ∙ bytes_all graph c.count_of-count.result (omega (arith, c.count_of-count.ensures.all, measured.3.count))
