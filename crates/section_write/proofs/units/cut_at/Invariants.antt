use Rattle.section_write.specs.Emitting.{IsSizeOf}
use Rattle.section_write.proofs.units.cut_at.Given as goal

abbrev pub invariant-loop-unit : goal.invariant-loop-unit
invariant-loop-unit l = IsSizeOf l.layout l.first l.unit l.bytes
