use Rattle.std.proofs.Common.{length, refl}
use Rattle.list_laws.proofs.Whole.{ranges_written}
use Rattle.list_laws.proofs.laws.ranges_are_read_as_written.Goals as goal

pub returns : goal.returns
returns c sections relocs image version addresses addr_base spans front more none all are is =
    ranges_written sections relocs image version addresses addr_base none (length front) spans all are (record { front = front; more = more; is = is; there = refl })
