use Rattle.std.proofs.Common.{◌≡◌, ◌+◌, ◌*◌, ◌-◌, []}
use Rattle.ds_base.specs.Reading.{items_at}
use Rattle.universal.specs.Records.{slice_at}
use Rattle.universal.proofs.records.read_records.Given as goal

-- what is still read behind these slices is what is read in all
abbrev pub invariant-loop : goal.invariant-loop
invariant-loop l = record {
  place : l.at ≡ 8 + 20 * l.counter;
  all : items_at (slice_at l.bytes) (l.count - l.counter) l.slices l.at ≡ items_at (slice_at l.bytes) l.count [] 8;
}
