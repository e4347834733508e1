-- Items with their numbers, one after the other.
use Rattle.std.proofs.Common.{◌≡◌, ℕ, ◌+◌, ◌<◌, ◌≤◌, List, [], ◌∷◌, ◌++◌, length, take, get_or, sym, ap, ◌∙◌, arith}
use Rattle.std.specs.List.{enumerate_from}
use Rattle.std.proofs.lemmas.List.{take_all}
use Rattle.std.proofs.lemmas.List.FromFn.{get_or-enumerate_from, length-enumerate_from}
use Rattle.ds_base.proofs.Walking.{take_one}

module _ {X : Type 0} (xs : List X) where
  pub get_numbered : (i : ℕ) (x : X) → i < length xs → x ≡ get_or xs i x → (i, x) ≡ get_or (enumerate_from 0 xs) i (i, x)
  get_numbered i x lt is =
      let index : i ≡ 0 + i = omega arith in
      ap (λ (j : ℕ). (j, x)) index ∙ ap (λ (y : X). (0 + i, y)) is ∙ sym (get_or-enumerate_from 0 xs i (i, x) lt)

  pub within_numbered : (i : ℕ) → i < length xs → i < length (enumerate_from 0 xs)
  within_numbered i lt = omega (arith, length-enumerate_from 0 xs)

  -- the first items and one more
  pub take_numbered : (i : ℕ) (x : X) → i < length xs → x ≡ get_or xs i x → take (i + 1) (enumerate_from 0 xs) ≡ take i (enumerate_from 0 xs) ++ (i, x) ∷ []
  take_numbered i x lt is = take_one (enumerate_from 0 xs) i (i, x) (within_numbered i lt) (get_numbered i x lt is)

  -- all items
  pub all_numbered : (i : ℕ) → length xs ≤ i → take i (enumerate_from 0 xs) ≡ enumerate_from 0 xs
  all_numbered i le = take_all i (enumerate_from 0 xs) (omega (arith, length-enumerate_from 0 xs))
