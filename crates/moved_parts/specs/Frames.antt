-- Which frame descriptions went to the linked program (DWARF 4, section 6.4.1): those whose first instruction did.
use Rattle.std.specs.Prelude.{ℕ, List, Option}
use Rattle.std.specs.List.{filter_map}
use Rattle.std.specs.Option.{option_map}
use Rattle.dwarf_types.specs.declared.frames.OutFrame.{OutFrame}
use Rattle.dwarf_types.specs.declared.frames.RawFrame.{RawFrame}
use Rattle.addr_map.specs.declared.map.AddrMap.{AddrMap}
use Rattle.addr_map.specs.Moved.{moved}

-- a frame whose first instruction moved here
abbrev pub framed_at : RawFrame → ℕ → OutFrame
framed_at frame address = record { cie = frame.cie; address = address; length = frame.length; code = frame.code }

abbrev pub frame_moved : AddrMap → RawFrame → Option OutFrame
frame_moved map frame = option_map (framed_at frame) (moved map frame.at)

abbrev pub frames_moved : AddrMap → List RawFrame → List OutFrame
frames_moved map frames = filter_map (frame_moved map) frames
