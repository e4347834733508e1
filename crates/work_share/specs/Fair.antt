-- What always holds of a seat, whoever else draws.
use Rattle.std.specs.Prelude.{◌≡◌, ℕ, ◌+◌, ◌<◌, ◌≤◌, ◌⊎◌, true, length, is_some, None, Some}
use Rattle.work_share.specs.declared.view.TaskView.{TaskView}
use Rattle.work_share.specs.Numbers.{times, above}
use Rattle.work_share.specs.Counter.{stopped}

pub record IsFair (v : TaskView) : Type 0 where
  -- it drew no number twice; joined to another seat, neither has drawn a number of the other's
  pub once : (x : ℕ) → times x v.drawn ≤ 1
  -- of all numbers that are drawn, 64 at most are not below the count
  pub below : (x : ℕ) → 1 ≤ times x v.drawn → x < v.count + 64
  pub few : length v.drawn ≤ v.count + 64
  -- the number that it keeps is not below the count, and who drew such a number has come to its end
  pub kept : (k : ℕ) → v.kept ≡ Some k → v.count ≤ k
  pub ended : (x : ℕ) → v.count ≤ x → 1 ≤ times x v.drawn → is_some v.kept ≡ true
  -- with all shares and at its end, it drew all numbers below the count
  pub all : v.share ≡ 64 → is_some v.kept ≡ true → (x : ℕ) → x < v.count → times x v.drawn ≡ 1
  pub share : v.share ≤ 64

-- A seat was asked, and keeps a number that is not below the count. It kept it before, and nothing changes; or it drew
-- it now, as a number greater than all that it had drawn.
abbrev pub Keeps : ℕ → TaskView → TaskView → Type 0
Keeps count old new = (n : ℕ) × (count ≤ n) × (((old.kept ≡ Some n) × (new ≡ old)) ⊎ ((old.kept ≡ None) × (above old.drawn ≤ n) × (new ≡ stopped old n)))
