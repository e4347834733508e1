use Rattle.std.proofs.Common.{◌≡◌, ◌^◌, ◌<◌, drop}
use Rattle.std.specs.List.{fold}
use Rattle.accel_tables.specs.Hash.{hash_of, hashed}
use Rattle.accel_tables.proofs.hash.name_hash.Given as goal

-- the bytes that are left make of the hash so far that of the name
abbrev pub invariant-loop-byte : goal.invariant-loop-byte
invariant-loop-byte l = record {
  all : fold hashed l.hash (drop l.byte-index l.name) ≡ hash_of l.name;
  small : l.hash < 2 ^ 32;
}
