use Rattle.ds_base.proofs.Onward.{number_onward, small_kept}
use Rattle.list_items.proofs.Items.{uleb_small}
use Rattle.loc_lists.proofs.locations.read_len.Goals as goal

pub returns-then-version-eq-DWARF_5-clause-small : goal.returns-then-version-eq-DWARF_5-clause-small
returns-then-version-eq-DWARF_5-clause-small c = uleb_small c.uleb.result _ _ c.uleb.ensures c.requires.small

pub returns-clause-small : goal.returns-clause-small
returns-clause-small c = small_kept _ _ (number_onward 2 c.args.cursor.now _ c.in_ok-len.ensures) c.requires.small
