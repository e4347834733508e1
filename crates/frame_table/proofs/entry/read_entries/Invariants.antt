use Rattle.std.proofs.Common.{◌≤◌, ◌-◌, length}
use Rattle.std.specs.List.{All}
use Rattle.frame_table.specs.Order.{StandApart}
use Rattle.frame_table.proofs.Trying.{Goes}
use Rattle.frame_table.proofs.entry.read_entries.Given as goal

-- what is listed from here on, behind the entries so far, is what is listed in all; these stand apart, and end here at most
abbrev pub invariant-loop-place : goal.invariant-loop-place
invariant-loop-place l =
    record {
      goes : Goes l.bytes l.list.items l.place;
      apart : StandApart l.list.items;
      ends : All (λ e. e.end ≤ l.place) l.list.items;
      within : l.place ≤ length l.bytes;
    }

abbrev pub decreases-loop-place : goal.decreases-loop-place
decreases-loop-place l = length l.bytes - l.place
