-- Looking a name up in a list of entries, from some entry on.
use Rattle.std.proofs.Common.{◌≡◌, ℕ, ◌+◌, ◌<◌, Bool, cond, nat_eq, List, ◌∷◌, length, get_or, drop, Some, refl, add-one, drop-cons}
use Rattle.std.specs.Ordering.{nat_cmp}
use Rattle.std.specs.Cmp.Lexicographic.{slice_cmp, texts_ties}
use lib.Pointwise.{pointwise}
use Rattle.std.specs.FinMap as map

pub find_from : (q : List ℕ) (es : List (List ℕ × List ℕ)) (i : ℕ) (e : List ℕ × List ℕ) (b : Bool) → i < length es → e ≡ get_or es i e → pointwise nat_eq q e.0 ≡ b →
    map.find (slice_cmp nat_cmp) q (drop i es) ≡ cond b (Some e.1) (map.find (slice_cmp nat_cmp) q (drop (i + 1) es))
find_from q es i e b lt is same =
    let here : drop i es ≡ e ∷ drop (i + 1) es = rw (add-one, drop-cons es i e, ← is) refl in
    rw (here, ← texts_ties q e.0, same) refl
