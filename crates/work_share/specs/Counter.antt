-- A counter: one word, which is the next number, and the views of its seats.
use Rattle.std.specs.Prelude.{◌≡◌, ℕ, ◌+◌, ◌-◌, ◌/◌, ◌<◌, ◌≤◌, cond, true, List, [], ◌∷◌, ◌++◌, length, slice_index, is_some, None, Some}
use Rattle.std.specs.List.{sum_by}
use Rattle.std.specs.Option.{option_or}
use mathlib.Core.Option.{some}
use lib.ListN.{get_elem?}
use Rattle.atomic_table.specs.Table.{State}
use Rattle.work_share.specs.declared.view.TaskView.{TaskView}
use Rattle.work_share.specs.Numbers.{times, once_below}

-- the first seat, with all shares
abbrev pub fresh : ℕ → TaskView
fresh count = record { count = count; share = 64; drawn = []; kept = None }

-- the number n was drawn
abbrev pub drew : TaskView → ℕ → TaskView
drew v n = record { count = v.count; share = v.share; drawn = v.drawn ++ n ∷ []; kept = v.kept }

-- the number n was drawn, and it is kept
abbrev pub stopped : TaskView → ℕ → TaskView
stopped v n = record { count = v.count; share = v.share; drawn = v.drawn ++ n ∷ []; kept = Some n }

-- a seat cut in two: the new one has half of the share, rounded down, and the number that is kept
abbrev pub kept_half : TaskView → TaskView
kept_half v = record { count = v.count; share = v.share - v.share / 2; drawn = v.drawn; kept = v.kept }

abbrev pub given_half : TaskView → TaskView
given_half v = record { count = v.count; share = v.share / 2; drawn = []; kept = v.kept }

-- two seats made one
abbrev pub united : TaskView → TaskView → TaskView
united v w = record { count = v.count; share = v.share + w.share; drawn = v.drawn ++ w.drawn; kept = option_or v.kept w.kept }

-- a seat that went into another
abbrev pub nobody : TaskView
nobody = record { count = 0; share = 0; drawn = []; kept = None }

-- the share with which a seat may still draw a number at or above the count
abbrev pub live : TaskView → ℕ
live v = cond (is_some v.kept) 0 v.share

-- what one seat knows is so, where `next` is the next number
pub record Fits (count next : ℕ) (v : TaskView) : Type 0 where
  pub spent : v.share ≡ 0 → (v.drawn ≡ []) × (v.kept ≡ None)
  pub kept : (k : ℕ) → v.kept ≡ Some k → (count ≤ k) × (k < next)
  pub ended : (x : ℕ) → count ≤ x → 1 ≤ times x v.drawn → is_some v.kept ≡ true

-- The seats have drawn the numbers below the next one, each once. There are 64 shares, and each number at or above the
-- count costs one that could still draw.
pub record Rule (count : ℕ) (words : List ℕ) (views : List TaskView) : Type 0 where
  pub wide : length words ≡ 1
  pub drawn : (x : ℕ) → sum_by (λ v. times x v.drawn) views ≡ once_below x (slice_index words 0)
  pub shares : sum_by (λ v. v.share) views ≡ 64
  pub each : (id : ℕ) (v : TaskView) → get_elem? views id ≡ some v → Fits count (slice_index words 0) v
  pub few : sum_by live views + (slice_index words 0 - count) ≤ 64

abbrev pub Sound : {S : Type 0} → ℕ → State S TaskView → Type 0
Sound count s = Rule count s.words s.views
