use Rattle.std.proofs.Common.{◌+◌, ◌++◌, length}
use Rattle.byteorder.specs.Endian.{little_bytes}
use Rattle.dwarf_types.specs.SeenFrames.{frame_seen}
use Rattle.appending.proofs.Places.{append_more}
use Rattle.frame_write.specs.Known.{described_bytes}
use Rattle.frame_write.proofs.call_frames.append_description.Goals as goal

pub returns : goal.returns
returns c =
    let told = described_bytes (frame_seen c.args.frame.now) in
    append_more _ _ _ (little_bytes 4 (20 + length c.args.frame.now.code.now)) (little_bytes 4 c.args.cie ++ told) c.in_ok-append_offset.ensures.ok
    (append_more _ _ _ (little_bytes 4 c.args.cie) told c.in_ok-append_offset-2.ensures.ok c.in_ok-append_described.ensures)
