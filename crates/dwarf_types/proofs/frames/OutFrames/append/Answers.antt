use Rattle.std.proofs.Common.{rules}
use Rattle.dwarf_types.proofs.FrameRows.{frames_behind, held_all, out_grows}
use Rattle.dwarf_types.proofs.frames.OutFrames.append.Goals as goal

pub returns-in_err-before-clause-unchanged : goal.returns-in_err-before-clause-unchanged
returns-in_err-before-clause-unchanged c =
    let kept = out_grows _ _ c.append.ensures.grows c.self.invariant.0 _ c.self.invariant.1 in
    search rules

pub returns-in_err-rows-clause-unchanged : goal.returns-in_err-rows-clause-unchanged
returns-in_err-rows-clause-unchanged c =
    let kept = out_grows _ _ c.append.ensures.grows c.self.invariant.0 _ c.self.invariant.1 in
    search rules

pub returns-in_err-extend_from_slice-clause-unchanged : goal.returns-in_err-extend_from_slice-clause-unchanged
returns-in_err-extend_from_slice-clause-unchanged c =
    let kept = out_grows _ _ c.append.ensures.grows c.self.invariant.0 _ c.self.invariant.1 in
    search rules

pub invariant_of-self-2 : goal.invariant_of-self-2
invariant_of-self-2 c =
    let sides = c.append.ensures in
    let own = c.self.invariant in
    rw (c.in_ok-extend_from_slice.ensures.items, c.deref-2.ensures.value, c.in_ok-rows.ensures, c.deref.ensures.value) (
      sides.cies,
      held_all c.self.inside.sides c.other.inside.sides c.append.new.self c.in_ok-before.ensures.new_cies c.in_ok-before.ensures.new_bytes sides.grows c.in_ok-before.before c.in_ok-before.ensures.before.0 c.in_ok-before.ensures.before.1 _ _ own.1 c.other.invariant.1,
    )

pub returns-clause-ok : goal.returns-clause-ok
returns-clause-ok c =
    let sides = c.append.ensures in
    let own = c.self.invariant in
    rw (c.in_ok-extend_from_slice.ensures.items, c.deref-2.ensures.value, c.in_ok-rows.ensures, c.deref.ensures.value, ← c.self.view_is, ← c.other.view_is)
    (frames_behind c.self.inside.sides c.other.inside.sides c.append.new.self c.in_ok-before.ensures.new_cies c.in_ok-before.ensures.new_bytes sides.grows own.0 c.in_ok-before.before c.in_ok-before.ensures.before.0 c.in_ok-before.ensures.before.1 _ _ own.1 c.other.invariant.1)
