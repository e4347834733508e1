use Rattle.std.proofs.Common.{◌+◌, ◌*◌}
use Rattle.name_bids.proofs.filling.+fillers.Given as goal

abbrev pub decreases-fill_both : goal.decreases-fill_both
decreases-fill_both g l = 3 * l.others + 2

abbrev pub decreases-fill_parts : goal.decreases-fill_parts
decreases-fill_parts g l = 3 * l.workers

abbrev pub decreases-fill_both-fill_rest : goal.decreases-fill_both-fill_rest
decreases-fill_both-fill_rest g l = 3 * l.others + 1
