-- Items that are spelled one behind the other.
use Rattle.std.proofs.Common.{◌≡◌, ℕ, ◌+◌, ◌<◌, ◌≤◌, List, ◌++◌, length, drop, get_or, append_assoc, append-nil, sym, ap, ◌∙◌}
use Rattle.std.specs.List.{flat_map}
use Rattle.std.proofs.lemmas.List.{drop_more, drop_all}

module _ {X : Type 0} (f : X → List ℕ) where
  pub pieces_step : (xs : List X) (i : ℕ) (d : X) (out new all : List ℕ) → i < length xs → new ≡ out ++ f (get_or xs i d)
      → out ++ flat_map f (drop i xs) ≡ all → new ++ flat_map f (drop (i + 1) xs) ≡ all
  pieces_step xs i d out new all lt is so_far =
      ap (λ (front : List ℕ). front ++ flat_map f (drop (i + 1) xs)) is ∙ append_assoc out (f (get_or xs i d)) (flat_map f (drop (i + 1) xs))
      ∙ sym (ap (λ (left : List X). out ++ flat_map f left) (drop_more xs i d lt)) ∙ so_far

  pub pieces_next : (xs : List X) (i : ℕ) (x : X) (out new all : List ℕ) → i < length xs → x ≡ get_or xs i x → new ≡ out ++ f x
      → out ++ flat_map f (drop i xs) ≡ all → new ++ flat_map f (drop (i + 1) xs) ≡ all
  pieces_next xs i x out new all lt same is so_far = pieces_step xs i x out new all lt (is ∙ ap (λ (y : X). out ++ f y) same) so_far

  pub pieces_done : (xs : List X) (i : ℕ) (out all : List ℕ) → length xs ≤ i → out ++ flat_map f (drop i xs) ≡ all → out ≡ all
  pieces_done xs i out all past so_far = sym (append-nil out) ∙ sym (ap (λ (left : List X). out ++ flat_map f left) (drop_all i xs past)) ∙ so_far
