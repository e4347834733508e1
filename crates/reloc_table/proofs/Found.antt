-- The item of a key, found by halves in a list whose keys rise.
use Rattle.std.proofs.Common.{◌≡◌, ℕ, ◌+◌, ◌<◌, ◌==◌, Bool, List, length, get_or, Some, None, refl, arith, inl, inr, Less, Equal, Greater}
use Rattle.std.specs.List.{AllPairs, find}
use Rattle.std.specs.List.Sorted.{IsNonDecreasingBy, IsPartitionPoint, IsSortedByKey}
use Rattle.std.specs.Ordering.{nat_cmp, ordering_index}
use Rattle.std.proofs.lemmas.Bool.{eq-eqb, ne_eqb, lt-ltb, le-ltb, cases_lt, cases_order}
use Rattle.std.proofs.lemmas.Cmp.{nat_cmp_total}
use Rattle.std.proofs.lemmas.List.Sorted.{searchable_from_sorted}
use Rattle.std.proofs.lemmas.List.Recursion.{found_at, found_nowhere}

-- each key is below those behind it
abbrev pub Rises : {X : Type 0} → (X → ℕ) → List X → Type 0
Rises key xs = AllPairs (λ x later. key x < key later) xs

abbrev pub has_key : {X : Type 0} → (X → ℕ) → ℕ → X → Bool
has_key key n x = key x == n

equal_from : (x y : ℕ) → nat_cmp x y ≡ Equal → x ≡ y
equal_from x y e = elim (cases_order x y) [
  | inl same ↦ same
  | inr (inl lt) ↦ absurd (let f = rw (lt-ltb x y lt) at e in cc)
  | inr (inr gt) ↦ absurd (let f = rw (le-ltb x y (omega arith), ne_eqb x y (λ s. omega arith)) at e in cc)
]

below_differs : (x y : ℕ) → nat_cmp x y ≡ Less → x ≡ y → ⊥
below_differs x y e same = let f = rw (le-ltb x y (omega arith), eq-eqb x y same) at e in cc

above_differs : (x y : ℕ) → nat_cmp x y ≡ Greater → x ≡ y → ⊥
above_differs x y e same = let f = rw (le-ltb x y (omega arith), eq-eqb x y same) at e in cc

-- at a place in the list
pub found : {X : Type 0} (key : X → ℕ) (xs : List X) (n i : ℕ) (d : X) → Rises key xs → i < length xs → nat_cmp (key (get_or xs i d)) n ≡ Equal → find (has_key key n) xs ≡ Some (get_or xs i d)
found key xs n i d rise lt e =
    let here : key (get_or xs i d) ≡ n = equal_from _ _ e in
    found_at (find (has_key key n)) (has_key key n) (λ x. Some x) None refl (λ x xs. refl) xs i d lt
    (λ k before. ne_eqb (key (get_or xs k d)) n (λ same. let h : key (get_or xs k d) < key (get_or xs i d) = rise k i d before lt in omega arith))
    (eq-eqb (key (get_or xs i d)) n here)

sorted : {X : Type 0} (key : X → ℕ) (xs : List X) → Rises key xs → IsSortedByKey key nat_cmp xs
sorted key xs rise k d from lt = let h : key (get_or xs k d) < key (get_or xs (k + 1) d) = rise k (k + 1) d (omega arith) lt in
    rw (le-ltb (key (get_or xs (k + 1) d)) (key (get_or xs k d)) (omega arith), ne_eqb (key (get_or xs (k + 1) d)) (key (get_or xs k d)) (λ e. omega arith)) refl

-- between two places of it
pub not_found : {X : Type 0} (key : X → ℕ) (xs : List X) (n i : ℕ) (d : X) → Rises key xs
    → (IsNonDecreasingBy (λ x. ordering_index (nat_cmp (key x) n)) xs → IsPartitionPoint (λ x. nat_cmp (key x) n ≡ Less) (λ x. nat_cmp (key x) n ≡ Greater) xs i)
    → find (has_key key n) xs ≡ None
not_found key xs n i d rise point =
    let split : IsPartitionPoint (λ x. nat_cmp (key x) n ≡ Less) (λ x. nat_cmp (key x) n ≡ Greater) xs i = point (searchable_from_sorted nat_cmp_total key xs n (sorted key xs rise)) in
    found_nowhere (find (has_key key n)) (has_key key n) (λ x. Some x) None refl (λ x xs. refl) xs d (λ k lt. ne_eqb (key (get_or xs k d)) n (elim (cases_lt k i) [
      | inl before ↦ below_differs _ _ (split.0 k d (omega arith) before)
      | inr behind ↦ above_differs _ _ (split.1 k d behind lt)
    ]))
