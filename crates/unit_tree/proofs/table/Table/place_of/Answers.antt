use Rattle.std.proofs.Common.{sym, ◌∙◌}
use Rattle.unit_tree.proofs.Places.{place_in_run, place_beyond, outside}
use Rattle.unit_tree.proofs.table.Table.place_of.Goals as goal

pub returns-then-is_in_run : goal.returns-then-is_in_run
returns-then-is_in_run c =
    let h = c.is_in_run.ensures.0 c.if-is_in_run.true in
    rw (← c.self.view_is) (sym (place_in_run _ _ c.args.code c.self.invariant.0 h.0 h.1))

pub returns : goal.returns
returns c =
    let behind = outside c.is_in_run.result c.args.code c.self.inside.run c.is_in_run.ensures.1 c.if-is_in_run.false in
    rw (← c.self.view_is) (c.copied.ensures ∙ c.get.ensures.value ∙ c.self.invariant.1 c.args.code ∙ sym (place_beyond _ _ c.args.code c.self.invariant.0 behind))
