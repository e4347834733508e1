use Rattle.std.proofs.Common.{◌+◌, ◌*◌}
use Rattle.section_write.proofs.units.+fillers.Given as goal

abbrev pub decreases-fill_units : goal.decreases-fill_units
decreases-fill_units g l = 4 * l.workers + 3

abbrev pub decreases-fill_both : goal.decreases-fill_both
decreases-fill_both g l = 4 * (l.before + l.behind) + 2

abbrev pub decreases-fill_both-fill_front : goal.decreases-fill_both-fill_front
decreases-fill_both-fill_front g l = 4 * l.before + 4

abbrev pub decreases-fill_both-fill_back : goal.decreases-fill_both-fill_back
decreases-fill_both-fill_back g l = 4 * l.behind + 4
