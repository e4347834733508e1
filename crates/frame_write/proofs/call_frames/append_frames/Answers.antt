use Rattle.std.proofs.Common.{◌≡◌, ◌∙◌, ◌-◌, ◌++◌, ap, length, arith}
use Rattle.dwarf_types.specs.SeenFrames.{frame_seen}
use Rattle.frame_write.specs.Known.{bytes_from}
use Rattle.frame_write.proofs.Steps.{frame_appended, frames_bytes_are}
use Rattle.frame_write.proofs.call_frames.append_frames.Goals as goal

pub loop-k-init : goal.loop-k-init
loop-k-init c =
    let out = c.args.out.now in
    let frames = c.args.frames.now in
    let none : length out - c.len-start.result ≡ 0 = omega (arith, c.len-start.ensures) in (
      omega (arith, c.len-start.ensures),
      ap (λ n. out ++ bytes_from c.no_cies-known.result n frames) none ∙ ap (λ known. out ++ bytes_from known 0 frames) c.no_cies-known.ensures ∙ ap (λ bytes. out ++ bytes) (frames_bytes_are frames),
    )

pub loop-k-preserved : goal.loop-k-preserved
loop-k-preserved c =
    let h = c.loop-k.invariant in
    frame_appended c.loop-k.known c.append_frame.new.known c.loop-k.out c.append_frame.new.out _ c.len-start.result _ c.args.frames.now c.loop-k.k (frame_seen c.frame.result) (omega (arith, c.loop-k-test.true, c.len-k-end.ensures)) c.frame.ensures.item
    h.0 (ap (λ n. n - c.len-start.result) c.len.ensures) c.in_ok-append_frame.ensures.written c.in_ok-append_frame.ensures.known h.1
