use Rattle.std.proofs.Common.{◌≡◌, ◌+◌, ◌*◌, ◌^◌, ◌≤◌, length, drop}
use Rattle.std.specs.List.{flat_map}
use Rattle.ds_base.specs.Room.{put}
use Rattle.universal.specs.Joined.{placed, places, record_bytes}
use Rattle.universal.proofs.joining.put_records.Given as goal

-- what is left to be put makes what all records make
abbrev pub invariant-loop-part : goal.invariant-loop-part
invariant-loop-part l = record {
  place : l.at ≡ 8 + 20 * l.part-index;
  small : l.end ≤ 328 + l.part-index * 2 ^ 33;
  size : length l.room ≡ length l.fn.room;
  all : put l.room l.at (flat_map record_bytes (placed l.end (drop l.part-index l.parts))) ≡ put l.fn.room 8 (flat_map record_bytes (places l.parts));
}
