-- One more number of a range, and the numbers of a filtered one.
use Rattle.std.proofs.Common.{◌≡◌, ◌<◌, ◌+◌, ℕ, zero, suc, Bool, true, false, List, [], ◌∷◌, ◌++◌, if◌then◌else◌, arith, sym, ap, ◌∙◌, append_assoc, append-nil}
use Rattle.std.specs.List.{All, filter, flat_map, range_with_len}
use Rattle.std.proofs.lemmas.List.Elements.{All-filter}
use Rattle.std.proofs.lemmas.List.FromFn.{get_or-range_with_len, length-range_with_len}

pub flat_map_more : {X : Type 0} (f : ℕ → List X) (n a j : ℕ) → a + n ≡ j → flat_map f (range_with_len a (n + 1)) ≡ flat_map f (range_with_len a n) ++ f j
flat_map_more f zero a j e = let h : a ≡ j = omega (arith, e) in append-nil (f a) ∙ ap f h
flat_map_more f (suc n) a j e =
    let more : suc n + 1 ≡ suc (n + 1) = omega arith in
    ap (λ (m : ℕ). flat_map f (range_with_len a m)) more
    ∙ ap (λ back. f a ++ back) (flat_map_more f n (a + 1) j (omega (arith, e))) ∙ sym (append_assoc (f a) (flat_map f (range_with_len (a + 1) n)) (f j))

pub filter_more : (p : ℕ → Bool) (n a j : ℕ) → a + n ≡ j → filter p (range_with_len a (n + 1)) ≡ filter p (range_with_len a n) ++ (if p j then j ∷ [] else [])
filter_more p zero a j e = let h : a ≡ j = omega (arith, e) in ap (λ (k : ℕ). if p k then k ∷ [] else []) h
filter_more p (suc n) a j e =
    let more : suc n + 1 ≡ suc (n + 1) = omega arith in
    ap (λ (m : ℕ). filter p (range_with_len a m)) more ∙ by (p a) (filter_more p n (a + 1) j (omega (arith, e)))
  where
    by : (b : Bool) → filter p (range_with_len (a + 1) (n + 1)) ≡ filter p (range_with_len (a + 1) n) ++ (if p j then j ∷ [] else [])
        → (if b then a ∷ filter p (range_with_len (a + 1) (n + 1)) else filter p (range_with_len (a + 1) (n + 1))) ≡ (if b then a ∷ filter p (range_with_len (a + 1) n) else filter p (range_with_len (a + 1) n)) ++ (if p j then j ∷ [] else [])
    by true h = ap (λ (more : List ℕ). a ∷ more) h
    by false h = h

-- all of a filtered range are below its end
pub filtered_below : (p : ℕ → Bool) (n : ℕ) → All (λ j. j < n) (filter p (range_with_len 0 n))
filtered_below p n =
    All-filter p (λ j. j < n) (range_with_len 0 n) (λ k d lt.
    let len = length-range_with_len 0 n in
    let small : k < n = omega (arith, lt, len) in
    let at = get_or-range_with_len 0 n k d small in omega (arith, at, small))
