use Rattle.std.proofs.Common.{arith, refl}
use Rattle.choosing_tests.proofs.SoundTests.{unit_sound}
use Rattle.choosing_tests.proofs.rows.analysis_in.Goals as goal

pub returns : goal.returns
returns g c = unit_sound _ _ c.unit_of.ensures refl c.len.ensures c.new.ensures (omega (arith, c.entries_of-entries.ensures.len)) (omega (arith, c.entries_of-entries.ensures.len, c.requires)) c.entries_of-entries.ensures.each
