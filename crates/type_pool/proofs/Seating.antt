-- What the steps leave true of a seat.
use Rattle.std.proofs.Common.{◌≡◌, ◌≢◌, ℕ, eqb, cond, ◌-◌, ◌<◌, ⊎_elim, sym, refl, ap, ◌∙◌, subst, eq-eqb, ne_eqb}
use mathlib.Core.Logic.{dite}
use native.Mathlib.Decide.{ℕ_discrete}
use Rattle.type_pool.specs.declared.view.View.{View}
use Rattle.type_pool.specs.Pairs.{Has}
use Rattle.type_pool.specs.Views.{bidden, noted, put, united}
use Rattle.type_pool.proofs.PairLists.{has_either}

-- all cells that it noted are cells of the table
pub record IsNear (v : View) : Type 0 where
  pub near : (cell name : ℕ) → Has v.notes cell name → cell < v.cells

-- its share stays, and it still is a seat of its table
pub record Stays (v w : View) : Type 0 where
  pub share : w.share ≡ v.share
  pub cells : w.cells ≡ v.cells
  pub names : w.names ≡ v.names
  pub near : IsNear v → IsNear w

pub stays_noted : (v w : View) (cell name : ℕ) → cell < v.cells → w ≡ noted v cell name → Stays v w
stays_noted v w cell name inside is = record {
  share = ap (λ (u : View). u.share) is;
  cells = ap (λ (u : View). u.cells) is;
  names = ap (λ (u : View). u.names) is;
  near = λ old. subst IsNear (sym is) record { near = λ c n has. ⊎_elim (λ (t : (cell ≡ c) × (name ≡ n)). subst (λ (x : ℕ). x < v.cells) t.0 inside) (λ later. old.near c n later) has };
}

pub stays_put : (v w : View) (cell name : ℕ) → cell < v.cells → w ≡ put v cell name → Stays v w
stays_put v w cell name inside is = record {
  share = ap (λ (u : View). u.share) is;
  cells = ap (λ (u : View). u.cells) is;
  names = ap (λ (u : View). u.names) is;
  near = λ old. subst IsNear (sym is) record { near = λ c n has. ⊎_elim (λ (t : (cell ≡ c) × (name ≡ n)). subst (λ (x : ℕ). x < v.cells) t.0 inside) (λ later. old.near c n later) has };
}

pub stays_bidden : (v w : View) (cell number : ℕ) → w ≡ bidden v cell number → Stays v w
stays_bidden v w cell number is = record {
  share = ap (λ (u : View). u.share) is;
  cells = ap (λ (u : View). u.cells) is;
  names = ap (λ (u : View). u.names) is;
  near = λ old. subst IsNear (sym is) record { near = old.near };
}

pub near_united : (v w u : View) → v.cells ≡ w.cells → u ≡ united v w → IsNear v → IsNear w → IsNear u
near_united v w u same is mine its = subst IsNear (sym is) record { near = λ c n has. ⊎_elim (λ left. mine.near c n left) (λ right. subst (λ (x : ℕ). c < x) (sym same) (its.near c n right)) (has_either v.notes w.notes c n has) }

-- by what was found
pub found_none : (found : ℕ) (a b : View) → found ≡ 0 → cond (eqb found 0) a b ≡ a
found_none found a b is = ap (λ t. cond t a b) (eq-eqb found 0 is)

pub found_some : (found : ℕ) (a b : View) → found ≢ 0 → cond (eqb found 0) a b ≡ b
found_some found a b off = ap (λ t. cond t a b) (ne_eqb found 0 off)

pub stays_looked : (v w : View) (cell found : ℕ) → cell < v.cells → w ≡ cond (eqb found 0) v (noted v cell (found - 1)) → Stays v w
stays_looked v w cell found inside is = dite (ℕ_discrete found 0)
    (λ none. subst (Stays v) (sym (is ∙ found_none found v (noted v cell (found - 1)) none)) record { share = refl; cells = refl; names = refl; near = λ old. old })
    (λ off. stays_noted v w cell (found - 1) inside (is ∙ found_some found v (noted v cell (found - 1)) off))

pub stays_brought : (v w : View) (cell name found : ℕ) → cell < v.cells → w ≡ cond (eqb found 0) (put v cell name) (noted v cell (found - 1)) → Stays v w
stays_brought v w cell name found inside is = dite (ℕ_discrete found 0)
    (λ none. stays_put v w cell name inside (is ∙ found_none found (put v cell name) (noted v cell (found - 1)) none))
    (λ off. stays_noted v w cell (found - 1) inside (is ∙ found_some found (put v cell name) (noted v cell (found - 1)) off))
