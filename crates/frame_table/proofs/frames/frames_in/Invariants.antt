use Rattle.std.proofs.Common.{◌≡◌, ◌≤◌, length, take, drop, IfSome}
use Rattle.std.specs.List.{filter_map}
use Rattle.frame_table.specs.Entry.{content_of}
use Rattle.frame_table.specs.Frames.{tried, in_turn, frame_of}
use Rattle.frame_table.specs.Order.{entry_of}
use Rattle.frame_table.specs.Sharing.{AreFirsts}
use Rattle.frame_table.proofs.frames.frames_in.Given as goal

-- what is left to be tried is what is tried in all; the frames are those of the entries so far, which miss no CIE
abbrev pub invariant-loop-i : goal.invariant-loop-i
invariant-loop-i l =
    record {
      tried : in_turn (tried l.bytes l.entries) (drop l.i l.entries) ≡ in_turn (tried l.bytes l.entries) l.entries;
      frames : l.frames ≡ filter_map (frame_of l.image l.relocs l.bytes l.entries) (take l.i l.entries);
      behind : IfSome l.missed (λ m. l.i ≤ m.at);
      firsts : AreFirsts (λ i. content_of l.bytes (entry_of l.entries i)) l.frames l.firsts.items;
      noted : length l.firsts.items ≡ length l.entries;
    }
