-- Lists in an order: one is the only list with its elements of each rank.
use Rattle.std.proofs.Common.{◌≡◌, ℕ, suc, ◌<◌, ◌≤◌, Bool, true, false, cond, List, [], ◌∷◌, ◌++◌, length, get_or, refl, sym, ap, ◌∙◌, arith, inl, inr}
use Rattle.std.specs.Bool.{⊤}
use Rattle.std.specs.Cmp.{IsStrictWeakOrder}
use Rattle.std.specs.List.{AllByRecursion, filter}
use Rattle.std.specs.List.Sorted.{IsSortedBy, ties}
use Rattle.std.proofs.lemmas.Bool.{cases_Bool, true_from_ne_false, false_from_ne_true}
use Rattle.std.proofs.lemmas.List.Elements.{recursion_from_All}
use Rattle.std.proofs.lemmas.List.Sorted.{sorted_far}

-- none is below one before it
abbrev pub Rises : {A : Type 0} → (A → A → Bool) → List A → Type 0
Rises lt [] = ⊤
Rises lt (x ∷ xs) = AllByRecursion (λ later. lt later x ≡ false) xs × Rises lt xs

rises_far : {A : Type 0} (lt : A → A → Bool) (xs : List A) → ((i j : ℕ) (d : A) → i ≤ j → j < length xs → lt (get_or xs j d) (get_or xs i d) ≡ false) → Rises lt xs
rises_far lt [] far = tt
rises_far lt (x ∷ xs) far =
    (recursion_from_All (λ later. lt later x ≡ false) xs (λ k d within. far 0 (suc k) d (omega arith) (omega arith)), rises_far lt xs (λ i j d le within. far (suc i) (suc j) d (omega arith) (omega arith)))

pub rises_from_sorted : {A : Type 0} (lt : A → A → Bool) → IsStrictWeakOrder lt → (xs : List A) → IsSortedBy lt xs → Rises lt xs
rises_from_sorted lt o xs up = rises_far lt xs (sorted_far lt o xs up)

pub all_weaker : {A : Type 0} (P Q : A → Type 0) → ((x : A) → P x → Q x) → (xs : List A) → AllByRecursion P xs → AllByRecursion Q xs
all_weaker P Q gives [] all = tt
all_weaker P Q gives (x ∷ xs) all = (gives x all.0, all_weaker P Q gives xs all.1)

pub all_append : {A : Type 0} (P : A → Type 0) (xs ys : List A) → AllByRecursion P xs → AllByRecursion P ys → AllByRecursion P (xs ++ ys)
all_append P [] ys all more = more
all_append P (x ∷ xs) ys all more = (all.0, all_append P xs ys all.1 more)

pub rises_append : {A : Type 0} (lt : A → A → Bool) (xs ys : List A) → Rises lt xs → Rises lt ys → AllByRecursion (λ x. AllByRecursion (λ later. lt later x ≡ false) ys) xs → Rises lt (xs ++ ys)
rises_append lt [] ys up more between = more
rises_append lt (x ∷ xs) ys up more between = (all_append (λ later. lt later x ≡ false) xs ys up.0 between.0, rises_append lt xs ys up.1 more between.1)

-- ---- what follows from an order

pub not_below_itself : {A : Type 0} (lt : A → A → Bool) → IsStrictWeakOrder lt → (x : A) → lt x x ≡ false
not_below_itself lt o x = elim (cases_Bool (lt x x)) [ inl below ↦ o.one_way x x below | inr not_below ↦ not_below ]

ties_from : {A : Type 0} (lt : A → A → Bool) (x y : A) → lt x y ≡ false → lt y x ≡ false → ties lt x y ≡ true
ties_from lt x y p q = rw (p, q) refl

ties_itself : {A : Type 0} (lt : A → A → Bool) → IsStrictWeakOrder lt → (x : A) → ties lt x x ≡ true
ties_itself lt o x = ties_from lt x x (not_below_itself lt o x) (not_below_itself lt o x)

no_tie : {A : Type 0} (lt : A → A → Bool) (x y : A) → lt x y ≡ true → ties lt x y ≡ false
no_tie lt x y p = rw p refl

none_at : {A : Type 0} (lt : A → A → Bool) (x : A) (ys : List A) → AllByRecursion (λ y. lt x y ≡ true) ys → filter (ties lt x) ys ≡ []
none_at lt x [] above = refl
none_at lt x (y ∷ ys) above = rw (no_tie lt x y above.0) (none_at lt x ys above.1)

all_above : {A : Type 0} (lt : A → A → Bool) → IsStrictWeakOrder lt → (x y : A) (ys : List A) → lt x y ≡ true → Rises lt (y ∷ ys) → AllByRecursion (λ z. lt x z ≡ true) (y ∷ ys)
all_above lt o x y ys below up =
    (below, all_weaker (λ z. lt z y ≡ false) (λ z. lt x z ≡ true) (λ z not_below. true_from_ne_false (lt x z) (λ other. absurd (let f : lt x y ≡ false = o.chain x z y other not_below in cc))) ys up.0)

-- ---- a list in order is the only one with its elements of each rank

first_at : {A : Type 0} (lt : A → A → Bool) (x y : A) (ys : List A) → ties lt x y ≡ true → filter (ties lt x) (y ∷ ys) ≡ y ∷ filter (ties lt x) ys
first_at lt x y ys e = rw e refl

no_first : {A : Type 0} (x : A) (xs : List A) → x ∷ xs ≡ [] → ⊥
no_first x xs e = cc

not_below : {A : Type 0} (lt : A → A → Bool) → IsStrictWeakOrder lt → (x y : A) (xs ys : List A) → Rises lt (y ∷ ys) → filter (ties lt x) (x ∷ xs) ≡ filter (ties lt x) (y ∷ ys) → lt x y ≡ true → ⊥
not_below lt o x y xs ys up same below =
    no_first x (filter (ties lt x) xs) (sym (first_at lt x x xs (ties_itself lt o x)) ∙ same ∙ none_at lt x (y ∷ ys) (all_above lt o x y ys below up))

heads : {A : Type 0} (x y : A) (xs ys : List A) → x ∷ xs ≡ y ∷ ys → (x ≡ y) × (xs ≡ ys)
heads x y xs ys e = (cc, cc)

without_first : {A : Type 0} (t : A → Bool) (x : A) (xs ys : List A) → filter t (x ∷ xs) ≡ filter t (x ∷ ys) → filter t xs ≡ filter t ys
without_first {A} t x xs ys same = rest (t x) same
  where
    rest : (b : Bool) → cond b (x ∷ filter t xs) (filter t xs) ≡ cond b (x ∷ filter t ys) (filter t ys) → filter t xs ≡ filter t ys
    rest true e = cc
    rest false e = e

pub only_order : {A : Type 0} (lt : A → A → Bool) → IsStrictWeakOrder lt → (xs ys : List A) → Rises lt xs → Rises lt ys → ((x : A) → filter (ties lt x) xs ≡ filter (ties lt x) ys) → xs ≡ ys
only_order lt o [] [] up vp same = refl
only_order lt o [] (y ∷ ys) up vp same = absurd (no_first y (filter (ties lt y) ys) (sym (first_at lt y y ys (ties_itself lt o y)) ∙ sym (same y)))
only_order lt o (x ∷ xs) [] up vp same = absurd (no_first x (filter (ties lt x) xs) (sym (first_at lt x x xs (ties_itself lt o x)) ∙ same x))
only_order {A} lt o (x ∷ xs) (y ∷ ys) up vp same =
    let low : lt x y ≡ false = false_from_ne_true (lt x y) (not_below lt o x y xs ys vp (same x)) in
    let high : lt y x ≡ false = false_from_ne_true (lt y x) (not_below lt o y x ys xs up (sym (same y))) in
    let here : x ∷ filter (ties lt x) xs ≡ y ∷ filter (ties lt x) ys = sym (first_at lt x x xs (ties_itself lt o x)) ∙ same x ∙ first_at lt x y ys (ties_from lt x y low high) in
    let first : x ≡ y = (heads _ _ _ _ here).0 in
    let rest : xs ≡ ys = only_order lt o xs ys up.1 vp.1 (λ z. without_first (ties lt z) x xs ys (same z ∙ ap (λ (w : A). filter (ties lt z) (w ∷ ys)) (sym first))) in
    cc
