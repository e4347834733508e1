-- Sums over all views, where one view changes.
use Rattle.std.proofs.Common.{◌≡◌, ◌≢◌, ℕ, zero, suc, ◌+◌, ◌≤◌, List, [], ◌∷◌, set, sym, refl, ap, arith}
use Rattle.std.specs.List.{sum_by}
use Rattle.std.proofs.lemmas.List.Sums.{sum_by-cons}
use mathlib.Core.Option.{some, some-injective, some-ne-none}
use lib.ListN.{get_elem?}
use Rattle.type_pool.specs.declared.view.View.{View}

pub total-set : (f : View → ℕ) (l : List View) (j : ℕ) (v w : View) → get_elem? l j ≡ some v → sum_by f (set l j w) + f v ≡ sum_by f l + f w
total-set f [] j v w at = absurd (some-ne-none v (sym at))
total-set f (u ∷ l) zero v w at = omega (arith, ap f (some-injective u v at), sum_by-cons f w l, sum_by-cons f u l)
total-set f (u ∷ l) (suc j) v w at = omega (arith, total-set f l j v w at, sum_by-cons f u (set l j w), sum_by-cons f u l)

pub one_of : (f : View → ℕ) (l : List View) (j : ℕ) (v : View) → get_elem? l j ≡ some v → f v ≤ sum_by f l
one_of f [] j v at = absurd (some-ne-none v (sym at))
one_of f (u ∷ l) zero v at = omega (arith, ap f (some-injective u v at), sum_by-cons f u l)
one_of f (u ∷ l) (suc j) v at = omega (arith, one_of f l j v at, sum_by-cons f u l)

pub two_of : (f : View → ℕ) (l : List View) (j k : ℕ) (v u : View) → k ≢ j → get_elem? l j ≡ some v → get_elem? l k ≡ some u → f v + f u ≤ sum_by f l
two_of f [] j k v u off at to = absurd (some-ne-none v (sym at))
two_of f (x ∷ l) zero zero v u off at to = absurd (off refl)
two_of f (x ∷ l) zero (suc k) v u off at to = omega (arith, one_of f l k u to, ap f (some-injective x v at), sum_by-cons f x l)
two_of f (x ∷ l) (suc j) zero v u off at to = omega (arith, one_of f l j v at, ap f (some-injective x u to), sum_by-cons f x l)
two_of f (x ∷ l) (suc j) (suc k) v u off at to = omega (arith, two_of f l j k v u (λ same. off (ap suc same)) at to, sum_by-cons f x l)
