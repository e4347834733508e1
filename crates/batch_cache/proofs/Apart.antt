-- Analyses that are kept apart.
use Rattle.std.proofs.Common.{◌≡◌, ◌⊎◌, inl, inr, Bool, true, false, ◌+◌, ◌++◌, ◌<◌, ◌≤◌, ◌∙◌, ℕ, zero, suc, List, [], ◌∷◌, drop, get_or, length, ap, sym, subst, arith, if◌then◌else◌}
use Rattle.std.specs.List.{All}
use Rattle.std.proofs.lemmas.Bool.{cases_lt}
use Rattle.std.proofs.lemmas.List.{drop-drop, get_or_default, length-drop}
use Rattle.std.proofs.lemmas.List.Elements.{All-append, All-cons, All-nil}
use Rattle.std.proofs.lemmas.List.Kept.{AllPairs-cons}
use Rattle.batch_cache.specs.declared.kept.Kept.{Kept}
use Rattle.batch_cache.specs.Shelves.{AreApart, IsEnd, IsOther, Key, key_of}

-- ---- the last ones of a list

all_end : (P : Kept → Type 0) (gone : ℕ) (all : List Kept) → All P all → All P (drop gone all)
all_end P zero all h = h
all_end P (suc gone) [] h = h
all_end P (suc gone) (x ∷ xs) h = all_end P gone xs (λ k d lt. h (suc k) d (omega (arith, lt)))

apart_end : (gone : ℕ) (all : List Kept) → AreApart all → AreApart (drop gone all)
apart_end zero all h = h
apart_end (suc gone) [] h = h
apart_end (suc gone) (x ∷ xs) h = apart_end gone xs (λ i j d lt within. h (suc i) (suc j) d (omega (arith, lt)) (omega (arith, within)))

module _ (all end : List Kept) (is : IsEnd all end) where
  pub end_other : (key : Key) → All (IsOther key) all → All (IsOther key) end
  end_other key h = subst (All (IsOther key)) (sym is.1) (all_end (IsOther key) is.0 all h)

  pub end_apart : AreApart all → AreApart end
  end_apart h = subst AreApart (sym is.1) (apart_end is.0 all h)

  pub end_few : (most : ℕ) → length all ≤ most → length end ≤ most
  end_few most few = let len : length end ≡ length (drop is.0 all) = ap length is.1 in omega (arith, len, length-drop is.0 all, few)

  -- one more goes
  pub end_shorter : (new : List Kept) → new ≡ drop 1 end → IsEnd all new
  end_shorter new e = (is.0 + 1, e ∙ ap (drop 1) is.1 ∙ drop-drop 1 is.0 all)

-- ---- one more

apart_more : (all : List Kept) (new : Kept) → All (IsOther (key_of new)) all → AreApart all → AreApart (all ++ new ∷ [])
apart_more [] new other apart = λ i j d lt within. absurd (omega (arith, lt, within))
apart_more (x ∷ xs) new other apart =
    let differ : Kept → Type 0 = λ b. IsOther (key_of b) x in
    AllPairs-cons (λ a b. IsOther (key_of b) a) x (xs ++ new ∷ [])
    (All-append differ xs (new ∷ []) (λ k d lt. apart 0 (suc k) d (omega arith) (omega (arith, lt))) (All-cons differ new [] (other 0 x (omega arith)) (All-nil differ)))
    (apart_more xs new (λ k d lt. other (suc k) d (omega (arith, lt))) (λ i j d lt within. apart (suc i) (suc j) d (omega (arith, lt)) (omega (arith, within))))

pub apart_pushed : (b : Bool) (all now : List Kept) (new : Kept) → now ≡ (if b then all ++ new ∷ [] else all) → All (IsOther (key_of new)) all → AreApart all → AreApart now
apart_pushed true all now new e other apart = subst AreApart (sym e) (apart_more all new other apart)
apart_pushed false all now new e other apart = subst AreApart (sym e) apart

-- ---- looking

-- none of so many is kept under this key
abbrev pub AreOthers : Key → List Kept → ℕ → Type 0
AreOthers key all count = (k : ℕ) (d : Kept) → k < count → IsOther key (get_or all k d)

pub others_more : (key : Key) (all : List Kept) (count : ℕ) (e : Kept) → count < length all → AreOthers key all count → IsOther key (get_or all count e) → AreOthers key all (count + 1)
others_more key all count e within before other = λ k d lt. by k d lt (cases_lt k count)
  where
    by : (k : ℕ) (d : Kept) → k < count + 1 → (k < count) ⊎ (count ≤ k) → IsOther key (get_or all k d)
    by k d lt (inl less) = before k d less
    by k d lt (inr le) =
        let here : count ≡ k = omega (arith, lt, le) in
        subst (λ (n : ℕ). IsOther key (get_or all n d)) here (subst (IsOther key) (get_or_default all count e d within) other)
