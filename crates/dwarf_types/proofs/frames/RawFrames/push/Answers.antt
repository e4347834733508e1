use Rattle.std.proofs.Common.{rules}
use Rattle.std.proofs.lemmas.List.Elements.{All-push}
use Rattle.dwarf_types.specs.declared.frames.RawRow.{RawRow}
use Rattle.dwarf_types.specs.FrameColumns.{RawHeld}
use Rattle.dwarf_types.proofs.FrameRows.{raw_grows, raw_held_grow, raw_push}
use Rattle.dwarf_types.proofs.frames.RawFrames.push.Goals as goal

pub returns-in_err-parts-clause-unchanged : goal.returns-in_err-parts-clause-unchanged
returns-in_err-parts-clause-unchanged c =
    let kept = raw_grows _ _ c.put.ensures.grows c.self.invariant.0 _ c.self.invariant.1 in
    search rules

pub invariant_of-self : goal.invariant_of-self
invariant_of-self c = (c.put.ensures.cies, raw_held_grow _ _ c.put.ensures.grows _ c.self.invariant.1)

pub invariant_of-self-in_err-push : goal.invariant_of-self-in_err-push
invariant_of-self-in_err-push c = rw c.in_err-push.ensures.items (c.put.ensures.cies, raw_held_grow _ _ c.put.ensures.grows _ c.self.invariant.1)

pub returns-in_err-push-clause-unchanged : goal.returns-in_err-push-clause-unchanged
returns-in_err-push-clause-unchanged c =
    let kept = raw_grows _ _ c.put.ensures.grows c.self.invariant.0 _ c.self.invariant.1 in
    search rules

pub invariant_of-self-2 : goal.invariant_of-self-2
invariant_of-self-2 c =
    rw c.in_ok-push.ensures.items (
      c.put.ensures.cies,
      All-push (RawHeld c.put.new.self) c.self.inside.rows.items (record { at = c.args.at; parts = c.in_ok-parts.parts }) (raw_held_grow _ _ c.put.ensures.grows _ c.self.invariant.1) c.in_ok-parts.ensures.within,
    )

pub returns-clause-ok : goal.returns-clause-ok
returns-clause-ok c =
    let row : RawRow = record { at = c.args.at; parts = c.in_ok-parts.parts } in
    let means = c.in_ok-parts.ensures.means in
    rw (c.in_ok-push.ensures.items, ← c.self.view_is, ← c.in_ok-parts.ensures.len)
    (raw_push _ _ c.put.ensures.grows c.self.invariant.0 _ row c.args.cie.now c.args.code.now c.self.invariant.1 means.0 means.1)
