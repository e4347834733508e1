-- Items changed in place, one after the other: those that are done before what those that are left give.
use Rattle.std.proofs.Common.{◌≡◌, ℕ, ◌+◌, ◌<◌, ◌≤◌, List, [], ◌∷◌, ◌++◌, Result, Ok, Err, length, take, drop, get_or, set, refl, sym, ap, ◌∙◌, append_assoc, append-nil, arith}
use Rattle.std.proofs.lemmas.List.{drop_more, take_more_set, drop-set-lt, drop_all, length-set, take_all}
use Rattle.ds_base.proofs.Refusals.{Refused}
use Rattle.ds_base.specs.declared.fault.Fault.{Fault}
use Rattle.ds_base.specs.declared.fault.ReadError.{ReadError}
use Rattle.ds_base.specs.declared.fault.ReadError.TheVariants as errors
use Rattle.ds_base.specs.Reading.{◌>>=◌}
use Rattle.object_view.specs.Attributes.{each_of}

-- items before others
abbrev pub with_front : {X : Type 0} → List X → Result (List X) Fault → Result (List X) Fault
with_front xs (Ok ys) = Ok (xs ++ ys)
with_front xs (Err e) = Err e

-- the items up to a place are changed, those behind it are as they were
pub record Changed {X : Type 0} (meant : X → Result X Fault) (old xs : List X) (i : ℕ) : Type 0 where
  pub made : with_front (take i xs) (each_of meant (drop i xs)) ≡ each_of meant old
  pub left : drop i xs ≡ drop i old
  pub long : length xs ≡ length old

front_none : {X : Type 0} (all : Result (List X) Fault) → with_front [] all ≡ all
front_none (Ok xs) = refl
front_none (Err e) = refl

pub changed_none : {X : Type 0} (meant : X → Result X Fault) (xs : List X) → Changed meant xs xs 0
changed_none meant xs = record { made = front_none (each_of meant xs); left = refl; long = refl }

front_more : {X : Type 0} (done : List X) (here : X) (others : Result (List X) Fault) → with_front done (others >>= λ ys. Ok (here ∷ ys)) ≡ with_front (done ++ here ∷ []) others
front_more done here (Ok ys) = ap Ok (sym (append_assoc done (here ∷ []) ys))
front_more done here (Err e) = refl

abbrev and_others : {X : Type 0} → Result X Fault → Result (List X) Fault → Result (List X) Fault
and_others here others = here >>= λ y. others >>= λ ys. Ok (y ∷ ys)

module _ {X : Type 0} (meant : X → Result X Fault) (old xs : List X) (i : ℕ) (d : X) (lt : i < length xs) (so_far : Changed meant old xs i) where
  here_and_others : with_front (take i xs) (and_others (meant (get_or xs i d)) (each_of meant (drop (i + 1) xs))) ≡ each_of meant old
  here_and_others = ap (λ (ys : List X). with_front (take i xs) (each_of meant ys)) (sym (drop_more xs i d lt)) ∙ so_far.made

  both_left : (get_or xs i d ∷ drop (i + 1) xs) ≡ (get_or old i d ∷ drop (i + 1) old)
  both_left = let long = so_far.long in sym (drop_more xs i d lt) ∙ so_far.left ∙ drop_more old i d (omega (arith, lt, long))

  -- the item here is as it was
  pub unchanged : get_or xs i d ≡ get_or old i d
  unchanged = let both = both_left in cc

  left_behind : drop (i + 1) xs ≡ drop (i + 1) old
  left_behind = let both = both_left in cc

  -- one more is changed
  pub changed_more : (y : X) → meant (get_or xs i d) ≡ Ok y → Changed meant old (set xs i y) (i + 1)
  changed_more y e =
      let left : drop (i + 1) (set xs i y) ≡ drop (i + 1) xs = drop-set-lt (i + 1) xs i y (omega arith) in
      let made : with_front (take (i + 1) (set xs i y)) (each_of meant (drop (i + 1) (set xs i y))) ≡ each_of meant old =
      ap (λ (ys : List X). with_front ys (each_of meant (drop (i + 1) (set xs i y)))) (take_more_set xs i y lt)
      ∙ ap (λ (ys : List X). with_front (take i xs ++ y ∷ []) (each_of meant ys)) left
      ∙ sym (front_more (take i xs) y (each_of meant (drop (i + 1) xs)))
      ∙ ap (λ (r : Result X Fault). with_front (take i xs) (and_others r (each_of meant (drop (i + 1) xs)))) (sym e)
      ∙ here_and_others in
      record { made = made; left = left ∙ left_behind; long = length-set xs i y ∙ so_far.long }

  -- one is refused
  pub changed_err : (e : ReadError) → Refused e (meant (get_or xs i d)) → Refused e (each_of meant old)
  changed_err (errors.Faulty f) refused =
      sym here_and_others ∙ ap (λ (r : Result X Fault). with_front (take i xs) (and_others r (each_of meant (drop (i + 1) xs)))) refused
  changed_err errors.NoMemory refused = tt

-- all are changed
pub changed_all : {X : Type 0} (meant : X → Result X Fault) (old xs : List X) (i : ℕ) → length xs ≤ i → Changed meant old xs i → each_of meant old ≡ Ok xs
changed_all {X} meant old xs i le so_far =
    sym so_far.made ∙ ap (λ (ys : List X). with_front (take i xs) (each_of meant ys)) (drop_all i xs le) ∙ ap Ok (append-nil (take i xs) ∙ take_all i xs le)
