use Rattle.std.proofs.Common.{◌≡◌, ◌≤◌, drop, length}
use Rattle.ds_base.specs.Leb.{digits_value}
use Rattle.ds_base.proofs.leb.value_of.Given as goal

abbrev pub invariant-loop-i : goal.invariant-loop-i
invariant-loop-i l = record { within : l.i ≤ length l.bytes; is : l.value ≡ digits_value l.flip (drop l.i l.bytes) }

abbrev pub decreases-loop-i : goal.decreases-loop-i
decreases-loop-i l = l.i
