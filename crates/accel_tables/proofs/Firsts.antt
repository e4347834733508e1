-- The first hash of each bucket, told from the last hash on.
use Rattle.std.proofs.Common.{◌≡◌, ℕ, zero, suc, ◌+◌, ◌<◌, ◌≤◌, ◌%◌, ◌==◌, Bool, true, false, cond, List, ◌∷◌, length, map, drop, get_or, set, replicate, refl, sym, ap, ◌∙◌, arith}
use Rattle.std.specs.List.{range_with_len}
use Rattle.std.proofs.lemmas.Bool.{eqb-true, eqb-false}
use Rattle.std.proofs.lemmas.List.{drop_all, length-set, get_or-set_same, get_or-set_other}
use Rattle.std.proofs.lemmas.List.FromFn.{fill_by_all, get_or-map-range_with_len, length-map-range_with_len}
use Rattle.accel_tables.specs.Table.{first_in}

-- what buckets have whose hashes are from one on
abbrev pub row_from : ℕ → ℕ → List ℕ → List ℕ
row_from buckets i hashes = map (first_in buckets i (drop i hashes)) (range_with_len 0 buckets)

none_told : (value at n : ℕ) → replicate n value ≡ map (λ k. value) (range_with_len at n)
none_told value at zero = refl
none_told value at (suc n) = ap (λ (xs : List ℕ). value ∷ xs) (none_told value (at + 1) n)

pub row_none : (buckets i : ℕ) (hashes : List ℕ) → length hashes ≤ i → replicate buckets 0xffffffff ≡ row_from buckets i hashes
row_none buckets i hashes all =
    none_told 0xffffffff 0 buckets ∙ ap (λ (left : List ℕ). map (first_in buckets i left) (range_with_len 0 buckets)) (sym (drop_all i hashes all))

pub row_more : (buckets i hash : ℕ) (hashes row new : List ℕ) → drop i hashes ≡ hash ∷ drop (i + 1) hashes → hash % buckets < buckets
    → row ≡ row_from buckets (i + 1) hashes → new ≡ set row (hash % buckets) i → new ≡ row_from buckets i hashes
row_more buckets i hash hashes row new is within so_far put =
    fill_by_all (first_in buckets i (drop i hashes)) new buckets 0 size each
  where
    long : length row ≡ buckets
    long = ap length so_far ∙ length-map-range_with_len (first_in buckets (i + 1) (drop (i + 1) hashes)) 0 buckets

    size : length new ≡ buckets
    size = ap length put ∙ length-set row (hash % buckets) i ∙ long

    value : (k : ℕ) → (b : Bool) → (hash % buckets == k) ≡ b → k < buckets → get_or (set row (hash % buckets) i) k 0 ≡ cond b i (first_in buckets (i + 1) (drop (i + 1) hashes) k)
    value k true e lt = ap (λ (j : ℕ). get_or (set row (hash % buckets) i) j 0) (sym (eqb-true (hash % buckets) k e)) ∙ get_or-set_same row (hash % buckets) i 0 (omega (arith, within, long))
    value k false e lt =
        get_or-set_other row (hash % buckets) k i 0 (λ same. eqb-false (hash % buckets) k e (sym same))
        ∙ ap (λ (xs : List ℕ). get_or xs k 0) so_far
        ∙ get_or-map-range_with_len (first_in buckets (i + 1) (drop (i + 1) hashes)) 0 buckets k k 0 lt (omega arith)

    each : (k : ℕ) → k < buckets → get_or new k 0 ≡ first_in buckets i (drop i hashes) k
    each k lt =
        ap (λ (xs : List ℕ). get_or xs k 0) put
        ∙ value k (hash % buckets == k) refl lt
        ∙ ap (λ (left : List ℕ). first_in buckets i left k) (sym is)
