-- The names of a book shared by so many workers: what they begin with, and what they come back with.
use Rattle.std.specs.Prelude.{◌≡◌, ℕ, ◌^◌, ◌<◌, ◌≤◌, true, List, [], ◌∷◌, ◌++◌, length, is_some}
use Rattle.odr_names.specs.Stretches.{AreOfObjects}
use Rattle.type_names.specs.Names.{Named}
use Rattle.type_pool.specs.declared.seat.PoolSeat.{PoolSeat}
use Rattle.type_pool.specs.declared.table.Pool.{Pool}
use Rattle.type_pool.specs.declared.view.View.{View}
use Rattle.work_share.specs.declared.counter.Tasks.{Tasks}
use Rattle.work_share.specs.declared.counter.TaskSeat.{TaskSeat}
use Rattle.work_share.specs.declared.view.TaskView.{TaskView}
use Rattle.type_pool.specs.Seats as pool_seats
use Rattle.work_share.specs.Seats as task_seats
use Rattle.type_pool.specs.Views.{first_view}
use Rattle.name_bids.specs.declared.bidding.ObjectCells.{ObjectCells}
use Rattle.name_bids.specs.Bids.{HasBid, IsOfTasks}
use Rattle.name_bids.specs.Noting.{AreNoted, IsPlacedAt}
use Rattle.name_bids.specs.Tables.{cell_count}

-- what a seat of the table knows, and one of the counter
abbrev pub seat_view : PoolSeat → View
seat_view seat = pool_seats.known seat

abbrev pub turn_view : TaskSeat → TaskView
turn_view turn = task_seats.known turn

-- both seats are of these
abbrev pub Belong : Pool → Tasks → PoolSeat → TaskSeat → Type 0
Belong pool work seat turn = pool_seats.Belongs pool seat × task_seats.Belongs work turn

-- the table is for books of this size, and the tasks are for their objects
abbrev pub AreFor : List Named → Pool → Tasks → Type 0
AreFor names pool work = (length names ≡ pool.names) × AreOfObjects names work.count × (work.count < 2 ^ 16)

-- seats with a share at least for each worker
pub record MayShare (pool : Pool) (work : Tasks) (seat : PoolSeat) (turn : TaskSeat) (workers : ℕ) : Type 0 where
  pub belong : Belong pool work seat turn
  pub some_worker : 1 ≤ workers
  pub seat_room : workers ≤ (seat_view seat).share
  pub turn_room : workers ≤ (turn_view turn).share

-- the seats come back with the shares that they had, no task is left, the names of the tasks that were drawn have their bids,
-- and where they were placed is noted
pub record HasWorked (names : List Named) (pool : Pool) (work : Tasks) (v : View) (t : TaskView) (seat : PoolSeat) (turn : TaskSeat) (noted : List ObjectCells) : Type 0 where
  pub belong : Belong pool work seat turn
  pub seat_share : (seat_view seat).share ≡ v.share
  pub turn_share : (turn_view turn).share ≡ t.share
  pub ended : is_some (turn_view turn).kept ≡ true
  pub drawn : List ℕ
  pub more : (turn_view turn).drawn ≡ t.drawn ++ drawn
  pub bid : HasBid names pool.cells v (seat_view seat) (IsOfTasks names drawn)
  pub cells : AreNoted (length names) (IsPlacedAt names pool.cells (seat_view seat).notes) noted (IsOfTasks names drawn)

-- memory ran out at the last task that was drawn: the seats are as they would be before it, but that it was drawn
pub record HasStopped (names : List Named) (pool : Pool) (work : Tasks) (v : View) (t : TaskView) (seat : PoolSeat) (turn : TaskSeat) : Type 0 where
  pub belong : Belong pool work seat turn
  pub seat_share : (seat_view seat).share ≡ v.share
  pub turn_share : (turn_view turn).share ≡ t.share
  pub drawn : List ℕ
  pub last : ℕ
  pub more : (turn_view turn).drawn ≡ t.drawn ++ (drawn ++ last ∷ [])
  pub bid : HasBid names pool.cells v (seat_view seat) (IsOfTasks names drawn)

-- all workers are done: seats with all shares, no task left, and all numbers that were drawn have their names bid for
pub record HasEnded (names : List Named) (pool : Pool) (seat : PoolSeat) (turn : TaskSeat) : Type 0 where
  pub belongs : pool_seats.Belongs pool seat
  pub book : length names ≡ pool.names
  pub cells : pool.cells ≡ cell_count (length names)
  pub objects : AreOfObjects names (turn_view turn).count
  pub seat_share : (seat_view seat).share ≡ 64
  pub turn_share : (turn_view turn).share ≡ 64
  pub ended : is_some (turn_view turn).kept ≡ true
  pub bid : HasBid names pool.cells (first_view pool.cells pool.names) (seat_view seat) (IsOfTasks names (turn_view turn).drawn)

-- a table at which nobody bid yet, with the seat that has every share
pub record IsFresh (pool : Pool) (seat : PoolSeat) : Type 0 where
  pub belongs : pool_seats.Belongs pool seat
  pub cells : pool.cells ≡ cell_count pool.names
  pub view : seat_view seat ≡ first_view pool.cells pool.names
