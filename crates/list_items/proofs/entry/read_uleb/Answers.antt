use Rattle.list_items.proofs.Items.{uleb_small}
use Rattle.list_items.proofs.entry.read_uleb.Goals as goal

pub returns-clause-small : goal.returns-clause-small
returns-clause-small c = uleb_small c.uleb.result _ _ c.uleb.ensures c.requires.small
