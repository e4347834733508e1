use Rattle.std.proofs.Common.{sym, ◌∙◌}
use Rattle.unit_tree.proofs.Places.{found_there, found_nowhere}
use Rattle.unit_tree.proofs.table.Table.find.Goals as goal

pub returns-in-Some-clause-found : goal.returns-in-Some-clause-found
returns-in-Some-clause-found c =
    rw (← c.self.view_is) (c.get.ensures ∙ sym (found_there c.self.inside.declarations c.in-Some.place c.args.code (rw c.self.view_is (sym c.place_of.ensures ∙ c.in-Some.is))))

pub returns-in-None-clause-found : goal.returns-in-None-clause-found
returns-in-None-clause-found c = sym (found_nowhere c.args.self.now c.args.code (sym c.place_of.ensures ∙ c.in-None.is))
