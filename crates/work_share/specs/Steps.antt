-- What the steps of a seat tell it.
use Rattle.std.specs.Prelude.{◌≡◌, ℕ, ◌≤◌, cond, nat_lt}
use Rattle.atomic_table.specs.Table.{Me, Step}
use Rattle.work_share.specs.declared.view.TaskView.{TaskView}
use Rattle.work_share.specs.Numbers.{above}
use Rattle.work_share.specs.Counter.{drew, stopped}
use Rattle.work_share.specs.Fair.{IsFair}

-- the number found is the seat's from now on; where it is not below the count, the seat has come to its end
abbrev pub drawing : {S : Type 0} → Step S → Me S TaskView → ℕ → Me S TaskView → Type 0
drawing s before n after =
    (after.0 ≡ cond (nat_lt n before.0.count) (drew before.0 n) (stopped before.0 n))
    × (after.1 ≡ before.1) × (above before.0.drawn ≤ n) × IsFair after.0

-- nothing changes
abbrev pub looking : {S : Type 0} → Step S → Me S TaskView → ℕ → Me S TaskView → Type 0
looking s before n after = (after ≡ before) × IsFair after.0
