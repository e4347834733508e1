use Rattle.std.proofs.Common.{◌≡◌, List, ap, subst, ◌∙◌, IfOk}
use Rattle.std.proofs.lemmas.List.{length-map}
use Rattle.dwarf_types.specs.declared.frames.OutFrame.{OutFrame}
use Rattle.dwarf_types.specs.declared.frames.RawFrame.{RawFrame}
use Rattle.dwarf_types.specs.SeenFrames.{at_addresses}
use Rattle.addr_map.specs.Moved.{moved}
use Rattle.moved_parts.specs.Frames.{frames_moved}
use Rattle.moved_parts.proofs.Kept.{kept_are}
use Rattle.moved_parts.proofs.frames.move_frames.Goals as goal

pub into_linked-requires : goal.into_linked-requires
into_linked-requires c = rw (c.deref.ensures.value, c.in_ok-addresses.ensures) (length-map _ _)

pub returns : goal.returns
returns c =
    let kept : at_addresses c.args.frames c.deref.result.now ≡ frames_moved c.args.map.now c.args.frames =
    ap (at_addresses c.args.frames) (c.deref.ensures.value ∙ c.in_ok-addresses.ensures) ∙ kept_are (λ (f : RawFrame). moved c.args.map.now f.at) c.args.frames in
    subst (λ (frames : List OutFrame). IfOk c.into_linked.result (λ out. out ≡ frames)) kept c.into_linked.ensures
