-- What workers have done so far, and how it comes into the order of the items.
use Rattle.std.specs.Prelude.{◌≡◌, ℕ, ◌<◌, ◌≤◌, List, map, length, slice_get, Some}
use Rattle.std.specs.List.{All, Contains}
use Rattle.std.specs.declared.option.Option.{Option}
use Rattle.work_share.specs.declared.done.Done.{Done}
use Rattle.work_share.specs.Numbers.{times}

abbrev pub items_of : {O : Type 0} → List (Done O) → List ℕ
items_of done = map (λ d. d.item) done

-- each result is one that its item may give, and each number that was drawn below the count has as many results as it
-- was drawn
pub record Worked {O : Type 0} (gives : ℕ → O → Type 0) (count : ℕ) (drawn : List ℕ) (done : List (Done O)) : Type 0 where
  pub right : All (λ d. (d.item < count) × gives d.item d.out) done
  pub each : (x : ℕ) → x < count → times x (items_of done) ≡ times x drawn

-- there is a place for each item below the count; each result stands in the place of its item, and nothing else does
pub record InPlaces {O : Type 0} (count : ℕ) (done : List (Done O)) (slots : List (Option O)) : Type 0 where
  pub wide : length slots ≡ count
  pub own : (x : ℕ) (o : O) → slice_get slots x ≡ Some (Some o) → Contains done (record { item = x; out = o })
  pub each : (x : ℕ) → 1 ≤ times x (items_of done) → (o : O) × (slice_get slots x ≡ Some (Some o))

-- a result of each item below the count, in their order
pub record InOrder {O : Type 0} (count : ℕ) (done : List (Done O)) (outs : List O) : Type 0 where
  pub wide : length outs ≡ count
  pub own : (k : ℕ) (o : O) → slice_get outs k ≡ Some o → Contains done (record { item = k; out = o })
