use Rattle.std.proofs.Common.{◌≡◌, ◌+◌, [], length}
use Rattle.choosing_tests.specs.SoundTests.{AreSound}
use Rattle.choosing_tests.proofs.rows.entries_of.Given as goal

abbrev pub invariant-loop-row : goal.invariant-loop-row
invariant-loop-row g l = (l.built.attrs ≡ []) × (length l.built.entries ≡ l.row-index + 1) × AreSound l.count l.built.entries
