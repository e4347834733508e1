-- Where the object of a path lies, by the place of its last `(`.
use Rattle.std.proofs.Common.{◌≡◌, ℕ, ◌-◌, ◌<◌, ◌≤◌, not, Bool, List, length, take, drop, Some, nat_eq, nat_lt, if◌then◌else◌, sym, ap, ◌∙◌, arith}
use Rattle.std.specs.List.{suffix_len, ends_with}
use lib.Pointwise.{pointwise}
use Rattle.std.specs.Cmp.Lexicographic.{nat_list_eq_equiv}
use Rattle.std.proofs.lemmas.Bool.{lt-ltb, le-ltb, cond-true, cond-false}
use Rattle.std.proofs.lemmas.List.{length-take-le}
use Rattle.stab_map.specs.Origin.{Origin, is_open, closes, whole, inside}

-- the last byte, compared from the other side
pub closes_is : (path : List ℕ) (b : Bool) → pointwise nat_eq (drop (length path - 1) path) closes ≡ b → ends_with nat_eq path closes ≡ b
closes_is path b e = nat_list_eq_equiv.symm closes (drop (length path - 1) path) ∙ e

-- the origin, by how many bytes there are up to the last `(` and with it
abbrev cut_at : List ℕ → List ℕ → ℕ → Origin
cut_at path inner start =
    if nat_lt 0 (length (take (start - 1) inner)) then record { file = take (start - 1) inner; member = Some (drop start inner) } else whole path

module _ (path inner : List ℕ) (start : ℕ) (is : start ≡ length inner - suffix_len (λ b. not (is_open b)) inner) (within : start ≤ length inner) where
  by_start : inside path inner ≡ cut_at path inner start
  by_start = ap (cut_at path inner) (sym is)

  pub inside_whole : start < 2 → inside path inner ≡ whole path
  inside_whole few = by_start ∙ cond-false _ _ _ (le-ltb 0 (length (take (start - 1) inner)) (omega (arith, length-take-le (start - 1) inner)))

  pub inside_member : 2 ≤ start → inside path inner ≡ record { file = take (start - 1) inner; member = Some (drop start inner) }
  inside_member many = by_start ∙ cond-true _ _ _ (lt-ltb 0 (length (take (start - 1) inner)) (omega (arith, length-take-le (start - 1) inner)))
