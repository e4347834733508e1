-- Counters and their seats, as contracts see them.
use Rattle.std.specs.Prelude.{◌≡◌}
use Rattle.work_share.specs.declared.view.TaskView.{TaskView}
use Rattle.work_share.specs.declared.counter.Tasks.{Tasks}
use Rattle.work_share.specs.declared.counter.TaskSeat.{TaskSeat}

-- what the seat knows
abbrev pub known : TaskSeat → TaskView
known s = s.seat.me.0

-- the seat is one of the counter's
abbrev pub Belongs : Tasks → TaskSeat → Type 0
Belongs t s = (s.seat.table_id ≡ t.table.shared.table_id) × ((known s).count ≡ t.count)
