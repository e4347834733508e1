use Rattle.std.proofs.Common.{rules, ◌≡◌, ◌<◌, ◌∙◌, Some, length, map, slice_get}
use Rattle.std.proofs.lemmas.List.{length-map}
use Rattle.std.proofs.lemmas.List.Elements.{All-push}
use Rattle.dwarf_types.specs.declared.frames.RawRow.{RawRow}
use Rattle.dwarf_types.specs.FrameColumns.{RawHeld, raw_frame_of}
use Rattle.dwarf_types.proofs.FrameRows.{content_read, raw_grows, raw_held_grow, raw_push}
use Rattle.dwarf_types.proofs.frames.RawFrames.push_sharing.Goals as goal

pub returns-in_err-parts-clause-unchanged : goal.returns-in_err-parts-clause-unchanged
returns-in_err-parts-clause-unchanged c =
    let kept = raw_grows _ _ c.put_code.ensures.grows c.self.invariant.0 _ c.self.invariant.1 in
    search rules

pub invariant_of-self : goal.invariant_of-self
invariant_of-self c = (c.put_code.ensures.cies, raw_held_grow _ _ c.put_code.ensures.grows _ c.self.invariant.1)

pub invariant_of-self-in_err-push : goal.invariant_of-self-in_err-push
invariant_of-self-in_err-push c = rw c.in_err-push.ensures.items (c.put_code.ensures.cies, raw_held_grow _ _ c.put_code.ensures.grows _ c.self.invariant.1)

pub returns-in_err-push-clause-unchanged : goal.returns-in_err-push-clause-unchanged
returns-in_err-push-clause-unchanged c =
    let kept = raw_grows _ _ c.put_code.ensures.grows c.self.invariant.0 _ c.self.invariant.1 in
    search rules

pub invariant_of-self-2 : goal.invariant_of-self-2
invariant_of-self-2 c =
    rw c.in_ok-push.ensures.items (
      c.put_code.ensures.cies,
      All-push (RawHeld c.put_code.new.self) c.self.inside.rows.items (record { at = c.args.at; parts = c.in_ok-parts.parts }) (raw_held_grow _ _ c.put_code.ensures.grows _ c.self.invariant.1) c.in_ok-parts.ensures.within,
    )

pub returns-clause-ok : goal.returns-clause-ok
returns-clause-ok c f its =
    let row : RawRow = record { at = c.args.at; parts = c.in_ok-parts.parts } in
    let lt : c.args.k < length c.self.inside.rows.items = rw (← c.self.view_is, length-map) at c.requires in
    let read : slice_get (map (raw_frame_of c.self.inside.sides) c.self.inside.rows.items) c.args.k ≡ Some f = rw (← c.self.view_is) at its in
    let content = content_read c.self.inside.sides c.self.inside.rows.items c.args.k c.index.result.now f lt c.index.ensures read in
    let means = c.in_ok-parts.ensures.means in
    rw (c.in_ok-push.ensures.items, ← c.self.view_is, ← c.in_ok-parts.ensures.len)
    (raw_push _ _ c.put_code.ensures.grows c.self.invariant.0 _ row f.cie c.args.code.now c.self.invariant.1 (means.0 ∙ content) means.1)
