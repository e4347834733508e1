use Rattle.std.proofs.Common.{◌≡◌, ◌++◌, take}
use Rattle.std.specs.List.{flat_map}
use Rattle.byteorder.specs.Endian.{little_bytes}
use Rattle.macho_write.proofs.fields.append_longs.Given as goal

abbrev pub invariant-loop-long : goal.invariant-loop-long
invariant-loop-long l = l.out ≡ l.fn.out ++ flat_map (little_bytes 8) (take l.long-index l.longs)
