use Rattle.std.proofs.Common.{◌≡◌, ◌≤◌, ◌-◌, ◌++◌, drop, length}
use Rattle.dwarf_types.specs.Frames.{frames_bytes}
use Rattle.frame_write.specs.Known.{bytes_from}
use Rattle.frame_write.proofs.call_frames.append_frames.Given as goal

-- the frames so far and what those behind them add are the section
abbrev pub invariant-loop-k : goal.invariant-loop-k
invariant-loop-k l = (l.start ≤ length l.out) × (l.out ++ bytes_from l.known (length l.out - l.start) (drop l.k l.frames) ≡ l.fn.out ++ frames_bytes l.frames)
