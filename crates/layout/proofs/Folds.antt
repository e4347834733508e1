-- Loops over lists: one more item.
use Rattle.std.proofs.Common.{◌≡◌, ℕ, ◌+◌, List, ◌∷◌, drop, fold, sym, ap, ◌∙◌}

pub fold_more : {S X : Type 0} (step : S → X → S) (xs : List X) (i : ℕ) (x : X) (s new all : S) → drop i xs ≡ x ∷ drop (i + 1) xs → new ≡ step s x → fold step s (drop i xs) ≡ all → fold step new (drop (i + 1) xs) ≡ all
fold_more {S} {X} step xs i x s new all cut is so_far = ap (λ (t : S). fold step t (drop (i + 1) xs)) is ∙ sym (ap (fold step s) cut) ∙ so_far
