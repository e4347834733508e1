-- Results of a phase, one after the other.
use Rattle.std.proofs.Common.{◌≡◌, ◌<◌, ◌≤◌, ◌+◌, ◌-◌, ℕ, zero, suc, List, [], ◌∷◌, ◌++◌, length, slice_get, Some, refl, sym, ap, subst, ◌∙◌, arith, inl, inr, append_assoc, length-append}
use Rattle.std.proofs.lemmas.Bool.{cases_lt}
use Rattle.std.proofs.lemmas.Option.{slice_get_within}
use Rattle.work_share.specs.Results.{GivesAll}

pub there_is : {A : Type 0} (xs : List A) (i : ℕ) → i < length xs → (x : A) × (slice_get xs i ≡ Some x)
there_is [] i lt = absurd (omega (arith, lt))
there_is (x ∷ xs) zero lt = (x, refl)
there_is (x ∷ xs) (suc i) lt = there_is xs i (omega (arith, lt))

item_here : {A : Type 0} (front : List A) (x : A) (rest : List A) → slice_get (front ++ x ∷ rest) (length front) ≡ Some x
item_here [] x rest = refl
item_here (y ∷ front) x rest = item_here front x rest

-- the items taken, and those that are left
pub goes_on : {O : Type 0} (all front left rest : List O) (x : O) → front ++ left ≡ all → left ≡ x ∷ rest → (front ++ x ∷ []) ++ rest ≡ all
goes_on {O} all front left rest x whole next = append_assoc front (x ∷ []) rest ∙ sym (ap (λ (l : List O). front ++ l) next) ∙ whole

module _ {O : Type 0} (gives : ℕ → O → Type 0) (count : ℕ) (all front left rest : List O) (x : O) (whole : front ++ left ≡ all) (next : left ≡ x ∷ rest) (given : GivesAll gives count all) where
  parts : front ++ x ∷ rest ≡ all
  parts = sym (ap (λ (l : List O). front ++ l) next) ∙ whole

  -- the result at hand is one that its item may give
  pub given_here : gives (length front) x
  given_here = given.1 (length front) x (sym (ap (λ (l : List O). slice_get l (length front)) parts) ∙ item_here front x rest)

  pub inside_here : length front < count
  inside_here = omega (arith, given.0, ap length parts, length-append front (x ∷ rest))

-- and where none is left, all were taken
pub all_taken : {O : Type 0} (gives : ℕ → O → Type 0) (count : ℕ) (all front left : List O) → front ++ left ≡ all → length left ≡ 0 → GivesAll gives count all → length front ≡ count
all_taken gives count all front left whole none given = omega (arith, given.0, none, ap length whole, length-append front left)

-- ---- results of one batch behind those of others

pub slice_get_front : {O : Type 0} (xs ys : List O) (k : ℕ) → k < length xs → slice_get (xs ++ ys) k ≡ slice_get xs k
slice_get_front [] ys k lt = absurd (omega (arith, lt))
slice_get_front (x ∷ xs) ys zero lt = refl
slice_get_front (x ∷ xs) ys (suc k) lt = slice_get_front xs ys k (omega (arith, lt))

pub slice_get_behind : {O : Type 0} (xs ys : List O) (k n : ℕ) → n ≡ length xs + k → slice_get (xs ++ ys) n ≡ slice_get ys k
slice_get_behind [] ys k n e = ap (slice_get ys) (omega (arith, e))
slice_get_behind (x ∷ xs) ys k zero e = absurd (omega (arith, e))
slice_get_behind (x ∷ xs) ys k (suc n) e = slice_get_behind xs ys k n (omega (arith, e))

pub given_none : {O : Type 0} (gives : ℕ → O → Type 0) → GivesAll gives 0 []
given_none gives = (refl, λ k o at. absurd cc)

pub given_more : {O : Type 0} (gives : ℕ → O → Type 0) (first end : ℕ) (outs more : List O) → first ≤ end → GivesAll gives first outs → GivesAll (λ k out. gives (first + k) out) (end - first) more → GivesAll gives end (outs ++ more)
given_more gives first end outs more le before here = (
  omega (arith, le, before.0, here.0, length-append outs more),
  λ k o at. elim (cases_lt k (length outs)) [
    | inl lt ↦ before.1 k o (sym (slice_get_front outs more k lt) ∙ at)
    | inr ge ↦
        let there : slice_get more (k - length outs) ≡ Some o = sym (slice_get_behind outs more (k - length outs) k (omega (arith, ge))) ∙ at in
        let same : first + (k - length outs) ≡ k = omega (arith, ge, before.0) in
        subst (λ (n : ℕ). gives n o) same (here.1 (k - length outs) o there)
  ],
)

pub given_as : {O : Type 0} (gives gives' : ℕ → O → Type 0) (count : ℕ) (outs : List O) → ((k : ℕ) (o : O) → k < count → gives k o → gives' k o) → GivesAll gives count outs → GivesAll gives' count outs
given_as gives gives' count outs turn given = (given.0, λ k o at. turn k o (subst (λ (n : ℕ). k < n) given.0 (slice_get_within outs k o at)) (given.1 k o at))

-- the result of the first item, and those of the others behind it
module _ {O : Type 0} (gives : ℕ → O → Type 0) where
  given_one : (first : ℕ) (o : O) → gives first o → (k : ℕ) (x : O) → slice_get (o ∷ []) k ≡ Some x → gives (first + k) x
  given_one first o one zero x at =
      let same : o ≡ x = cc at in
      let place : first ≡ first + 0 = omega arith in
      subst (λ (n : ℕ). gives n x) place (subst (gives first) same one)
  given_one first o one (suc k) x at = absurd cc

  given_front : (first end : ℕ) (o : O) (more : List O) → first < end → gives first o → GivesAll (λ k out. gives (first + 1 + k) out) (end - (first + 1)) more → GivesAll (λ k out. gives (first + k) out) (end - first) (o ∷ more)
  given_front first end o more lt one others =
      let count : end - (first + 1) ≡ end - first - 1 = omega (arith, lt) in
      let behind = given_as (λ k out. gives (first + 1 + k) out) (λ k out. gives (first + (1 + k)) out) (end - (first + 1)) more
      (λ k out lt' given. let place : first + 1 + k ≡ first + (1 + k) = omega arith in subst (λ (n : ℕ). gives n out) place given) others in
      given_more (λ k out. gives (first + k) out) 1 (end - first) (o ∷ []) more (omega (arith, lt)) (refl, given_one first o one) (subst (λ (n : ℕ). GivesAll (λ k out. gives (first + (1 + k)) out) n more) count behind)

  pub given_first : (first end : ℕ) (o : O) (more none front all : List O) → first < end → none ≡ [] → front ≡ none ++ o ∷ [] → all ≡ front ++ more → gives first o
      → GivesAll (λ k out. gives (first + 1 + k) out) (end - (first + 1)) more → GivesAll (λ k out. gives (first + k) out) (end - first) all
  given_first first end o more none front all lt empty pushed put one others =
      let is : all ≡ o ∷ more = put ∙ ap (λ (xs : List O). xs ++ more) (pushed ∙ ap (λ (xs : List O). xs ++ o ∷ []) empty) in
      subst (GivesAll (λ k out. gives (first + k) out) (end - first)) (sym is) (given_front first end o more lt one others)
