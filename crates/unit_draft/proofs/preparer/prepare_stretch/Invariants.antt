use Rattle.std.proofs.Common.{◌-◌, ◌≤◌}
use Rattle.unit_draft.specs.Stretches.{HasFrom, IsReady}
use Rattle.unit_draft.proofs.preparer.prepare_stretch.Given as goal

-- the nodes up to the next one stand in the stretch
abbrev pub invariant-loop-it : goal.invariant-loop-it
invariant-loop-it g l =
    let given = g.S.UnitSource.unit in
    record {
      ready : IsReady given l.fn.it.number (given l.fn.it.unit.now) l.it;
      has : HasFrom l.fn.it.number (given l.fn.it.unit.now) l.fn.it.next l.it;
      within : l.fn.it.next ≤ l.it.next;
    }

abbrev pub decreases-loop-it : goal.decreases-loop-it
decreases-loop-it g l = l.end - l.it.next
