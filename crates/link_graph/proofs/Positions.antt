-- Where the first element that passes a test stands, and what a filter keeps of the parts of a list.
use Rattle.std.proofs.Common.{◌≡◌, ℕ, ◌+◌, ◌<◌, Bool, true, false, cond, eqb, List, [], ◌∷◌, ◌++◌, length, take, drop, get_or, Some, None, refl, sym, ap, ◌∙◌, arith, length-append}
use Rattle.std.specs.List.{All, filter, position, position_or_len}
use Rattle.std.proofs.lemmas.Bool.{ne_eqb, eq-eqb, lt-ltb, le-ltb}
use Rattle.std.proofs.lemmas.List.{get_or-take, get_or-drop, get_or_append_left, get_or_at, take-append-drop, length-take, length-drop}
use Rattle.std.proofs.lemmas.List.Elements.{All-head, All-tail, All-append, All-filter, filter-append}
use Rattle.std.proofs.lemmas.List.Sums.{position_or_len_is}
use Rattle.ds_base.proofs.Walking.{drop_one}

pub filter_none : {A : Type 0} (p : A → Bool) (xs : List A) → All (λ x. p x ≡ false) xs → filter p xs ≡ []
filter_none p [] h = refl
filter_none p (x ∷ xs) h = let here : p x ≡ false = All-head (λ y. p y ≡ false) x xs h in rw here (filter_none p xs (All-tail (λ y. p y ≡ false) x xs h))

-- two tests that agree on a list keep the same of it
pub filter_same : {A : Type 0} (p q : A → Bool) (xs : List A) → All (λ x. p x ≡ q x) xs → filter p xs ≡ filter q xs
filter_same p q [] h = refl
filter_same p q (x ∷ xs) h =
    let here : p x ≡ q x = All-head (λ y. p y ≡ q y) x xs h in
    let rest : filter p xs ≡ filter q xs = filter_same p q xs (All-tail (λ y. p y ≡ q y) x xs h) in
    rw (here, rest) refl

pub position_found : {A : Type 0} (p : A → Bool) (before : List A) (x : A) (after : List A) → All (λ y. p y ≡ false) before → p x ≡ true
    → position p (before ++ x ∷ after) ≡ Some (length before)
position_found p before x after none here =
    let within : length before < length (before ++ x ∷ after) = omega (arith, length-append before (x ∷ after)) in
    let at : position_or_len p (before ++ x ∷ after) ≡ length before = position_or_len_is p (before ++ x ∷ after) (length before) x (omega arith)
    (λ k lt. ap p (get_or_append_left before (x ∷ after) x k lt) ∙ none k x lt) (λ lt. ap p (get_or_at before x after x (length before) refl) ∙ here) in
    rw (at, lt-ltb (length before) (length (before ++ x ∷ after)) within) refl

pub position_none : {A : Type 0} (p : A → Bool) (xs : List A) → All (λ y. p y ≡ false) xs → position p xs ≡ None
position_none p [] none = refl
position_none p (x ∷ xs) none =
    let at : position_or_len p (x ∷ xs) ≡ length (x ∷ xs) = position_or_len_is p (x ∷ xs) (length (x ∷ xs)) x (omega arith) (λ k lt. none k x lt) (λ lt. absurd (omega arith)) in
    rw (at, le-ltb (length (x ∷ xs)) (length (x ∷ xs)) (omega arith)) refl

-- ---- lists with numbers

-- each element has its place's number, from one on
abbrev pub AreNumbered : {A : Type 0} → ℕ → List (ℕ × A) → Type 0
AreNumbered {A} first xs = (j : ℕ) (d : ℕ × A) → j < length xs → (get_or xs j d).0 ≡ first + j

-- where the element of a number stands among those that are kept
pub position_kept : {A : Type 0} (q : ℕ × A → Bool) (first : ℕ) (xs : List (ℕ × A)) (n : ℕ) (x : ℕ × A) → AreNumbered first xs → n < length xs → x ≡ get_or xs n x
    → position (λ e. eqb e.0 (first + n)) (filter q xs) ≡ cond (q x) (Some (length (filter q (take n xs)))) None
position_kept {A} q first xs n x numbers lt is = ap (position p) whole ∙ both (q x)
  where
    p : ℕ × A → Bool
    p e = eqb e.0 (first + n)

    front : List (ℕ × A)
    front = filter q (take n xs)

    back : List (ℕ × A)
    back = filter q (drop (n + 1) xs)

    whole : filter q xs ≡ front ++ cond (q x) (x ∷ back) back
    whole = ap (filter q) (sym (take-append-drop n xs) ∙ ap (λ ys. take n xs ++ ys) (drop_one xs n x lt is)) ∙ filter-append q (take n xs) (x ∷ drop (n + 1) xs)

    not_before : All (λ e. p e ≡ false) front
    not_before = All-filter q (λ e. p e ≡ false) (take n xs) (λ j d within.
        let below : j < n = omega (arith, within, length-take n xs) in
        let number : (get_or (take n xs) j d).0 ≡ first + j = ap (λ e. e.0) (get_or-take n xs j d below) ∙ numbers j d (omega arith) in
        ne_eqb _ _ (λ e. omega (arith, e, number)))

    not_behind : All (λ e. p e ≡ false) back
    not_behind = All-filter q (λ e. p e ≡ false) (drop (n + 1) xs) (λ j d within.
        let number : (get_or (drop (n + 1) xs) j d).0 ≡ first + (n + 1 + j) = ap (λ e. e.0) (get_or-drop (n + 1) xs j d) ∙ numbers (n + 1 + j) d (omega (arith, within, length-drop (n + 1) xs)) in
        ne_eqb _ _ (λ e. omega (arith, e, number)))

    here : p x ≡ true
    here = eq-eqb _ _ (ap (λ e. e.0) is ∙ numbers n x lt)

    both : (b : Bool) → position p (front ++ cond b (x ∷ back) back) ≡ cond b (Some (length front)) None
    both true = position_found p front x back not_before here
    both false = position_none p (front ++ back) (All-append (λ e. p e ≡ false) front back not_before not_behind)
