use Rattle.ds_base.proofs.Onward.{small_kept}
use Rattle.unit_tree.proofs.Rising.{entry_onward}
use Rattle.unit_tree.proofs.entry.read_root.Goals as goal

pub returns-clause-small : goal.returns-clause-small
returns-clause-small c = small_kept _ _ (entry_onward _ _ _ _ _ _ _ _ c.in_ok-read_entry.ensures.read) c.in_ok-declared.ensures.small
