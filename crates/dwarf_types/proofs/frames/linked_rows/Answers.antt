use Rattle.dwarf_types.proofs.FrameRows.{linked_none, linked_one}
use Rattle.dwarf_types.proofs.frames.linked_rows.Goals.{in-Some+in_ok-push, in_default}
use Rattle.dwarf_types.proofs.frames.linked_rows.Goals as goal

pub loop-i-preserved : goal.loop-i-preserved
loop-i-preserved c =
    elim c.match-addresses-i.branch [
      | in-Some+in_ok-push w ↦ rw w.linked-is (linked_one c.args.rows.now c.args.addresses.now c.loop-i.i c.requires c.loop-i-test.true _ _ c.loop-i.invariant _ w.in-Some.address w.push.new.self.items w.in-Some.is w.in_ok-push.ensures.items)
      | in_default w ↦ rw w.linked-is (linked_none c.args.rows.now c.args.addresses.now c.loop-i.i c.requires c.loop-i-test.true _ _ c.loop-i.invariant w.in_default.is)
    ]
