use Rattle.std.proofs.Common.{◌++◌}
use Rattle.byteorder.specs.Endian.{little_bytes}
use Rattle.appending.proofs.Places.{append_more}
use Rattle.frame_write.proofs.call_frames.append_described.Goals as goal

pub returns : goal.returns
returns c =
    let f = c.args.frame.now in
    append_more _ _ _ (little_bytes 8 f.address) (little_bytes 8 f.length ++ f.code.now) c.in_ok-append_u64.ensures.ok
    (append_more _ _ _ (little_bytes 8 f.length) f.code.now c.in_ok-append_u64-2.ensures.ok c.in_ok-extend.ensures.ok)
