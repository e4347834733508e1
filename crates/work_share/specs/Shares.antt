-- A counter's numbers shared by so many workers: what they begin with, and what they come back with.
use Rattle.std.specs.Prelude.{◌≡◌, ℕ, ◌≤◌, true, List, [], is_some}
use Rattle.work_share.specs.declared.counter.Tasks.{Tasks}
use Rattle.work_share.specs.declared.counter.TaskSeat.{TaskSeat}
use Rattle.work_share.specs.declared.done.Done.{Done}
use Rattle.work_share.specs.Seats.{known, Belongs}
use Rattle.work_share.specs.Worked.{Worked}

-- a seat that has drawn nothing, with a share at least for each worker
pub record MayShare (t : Tasks) (s : TaskSeat) (workers : ℕ) : Type 0 where
  pub belongs : Belongs t s
  pub idle : (known s).drawn ≡ []
  pub some_worker : 1 ≤ workers
  pub room : workers ≤ (known s).share

-- the seat came to its end with the share that it had, and each number that it drew below the count has its result
pub record Finished {O : Type 0} (gives : ℕ → O → Type 0) (t : Tasks) (share : ℕ) (s : TaskSeat) (done : List (Done O)) : Type 0 where
  pub belongs : Belongs t s
  pub same : (known s).share ≡ share
  pub ended : is_some (known s).kept ≡ true
  pub worked : Worked gives t.count (known s).drawn done
