-- Results put in the places of their items, whatever their order.
use Rattle.std.proofs.Common.{◌≡◌, ℕ, zero, suc, ◌<◌, ◌⊎◌, inl, inr, List, [], ◌∷◌, ◌++◌, length, None, Some, Option, IfSome, slice_get, sym, refl, ap, subst, ◌∙◌, arith, length-append}
use Rattle.std.specs.List.{All}
use Rattle.std.proofs.lemmas.List.Elements.{All-contains}
use Rattle.std.proofs.lemmas.Option.{same_Some}
use mathlib.Core.Logic.{⊎_elim}
use Rattle.work_share.specs.declared.done.Done.{Done}
use Rattle.work_share.specs.Ordered.{AreGiven, IsGiven}
use Rattle.work_share.specs.Worked.{InPlaces}
use Rattle.work_share.proofs.Places.{get_seam}

-- each of these results is one that the item at its place may give
abbrev pub GivesEach : {O : Type 0} → (ℕ → O → Type 0) → List O → Type 0
GivesEach {O} gives outs = (k : ℕ) (o : O) → slice_get outs k ≡ Some o → gives k o

module _ {O : Type 0} (gives : ℕ → O → Type 0) where
  -- results in the places of their items
  pub placed_given : (count : ℕ) (done : List (Done O)) (slots : List (Option O)) → All (IsGiven gives count) done → InPlaces count done slots → AreGiven gives count slots
  placed_given count done slots given places = (places.wide, λ x o at. (All-contains (IsGiven gives count) done (record { item = x; out = o }) given (places.own x o at)).1)

  -- what stands in the place behind those that were taken is a result of that item
  pub next_given : (count : ℕ) (slots taken rest : List (Option O)) (slot : Option O) → AreGiven gives count slots → taken ++ slot ∷ rest ≡ slots → IfSome slot (gives (length taken))
  next_given count slots taken rest None are e = tt
  next_given count slots taken rest (Some out) are e = are.1 (length taken) out (ap (λ l. slice_get l (length taken)) (sym e) ∙ get_seam taken rest (Some out))

  pub inside : (count : ℕ) (slots taken rest : List (Option O)) (slot : Option O) → AreGiven gives count slots → taken ++ slot ∷ rest ≡ slots → length taken < count
  inside count slots taken rest slot are e = omega (arith, ap length e, length-append taken (slot ∷ rest), are.0)

  more_at : (outs : List O) (out : O) (k : ℕ) (o : O) → slice_get (outs ++ out ∷ []) k ≡ Some o → (slice_get outs k ≡ Some o) ⊎ ((k ≡ length outs) × (out ≡ o))
  more_at [] out zero o at = inr (refl, same_Some out o at)
  more_at [] out (suc k) o at = absurd cc
  more_at (x ∷ outs) out zero o at = inl at
  more_at (x ∷ outs) out (suc k) o at = ⊎_elim inl (λ e. inr (ap suc e.0, e.1)) (more_at outs out k o at)

  pub each_more : (outs : List O) (out : O) → GivesEach gives outs → gives (length outs) out → GivesEach gives (outs ++ out ∷ [])
  each_more outs out each given = λ k o at. ⊎_elim (each k o) (λ e. subst (gives k) e.1 (subst (λ n. gives n out) (sym e.0) given)) (more_at outs out k o at)
