use Rattle.type_names.proofs.Unmerged.{view_missing}
use Rattle.type_names.proofs.text_table.TextTable.missing.Goals as goal

pub returns : goal.returns
returns c = view_missing _ _ _ c.args.count c.new.ensures.items c.new-2.ensures.items c.in_ok-no_numbers.ensures
