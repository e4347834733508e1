-- A room that a loop fills: what stands there, and what is left.
use Rattle.std.proofs.Common.{◌≡◌, ℕ, ◌+◌, List, ◌++◌, length, take, append_assoc, arith, sym, ap, ◌∙◌, length-append}
use Rattle.ds_base.specs.Room.{Adds}

-- what was written and what is left are the whole
pub record Left (old : List ℕ) (start : ℕ) (all room : List ℕ) (at : ℕ) (rest : List ℕ) : Type 0 where
  pub size : length room ≡ length old
  pub written : take at room ++ rest ≡ take start old ++ all
  pub behind : at + length rest ≡ start + length all

module _ (old all room before part rest : List ℕ) (start at : ℕ) (same : before ≡ part ++ rest) (h : Left old start all room at before) where
  pub left_more : (new : List ℕ) (next : ℕ) → Adds room at part new next → Left old start all new next rest
  left_more new next one =
      record {
        size = one.size ∙ h.size;
        written = ap (λ (front : List ℕ). front ++ rest) one.written ∙ append_assoc (take at room) part rest ∙ ap (λ (back : List ℕ). take at room ++ back) (sym same) ∙ h.written;
        behind = omega (arith, one.behind, h.behind, ap length same, length-append part rest);
      }
