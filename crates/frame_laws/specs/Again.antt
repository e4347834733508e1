-- Written frames as they are read again.
use Rattle.std.specs.Prelude.{List, map}
use Rattle.dwarf_types.specs.declared.address.Addr.TheVariants as addrs
use Rattle.dwarf_types.specs.declared.frames.OutFrame.{OutFrame}
use Rattle.dwarf_types.specs.declared.frames.RawFrame.{RawFrame}

-- a frame, whose address no relocation moves
abbrev pub read_frame : OutFrame → RawFrame
read_frame frame = record { cie = frame.cie; at = addrs.Fixed frame.address; length = frame.length; code = frame.code }

abbrev pub read_frames : List OutFrame → List RawFrame
read_frames frames = map read_frame frames
