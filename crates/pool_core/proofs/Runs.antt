-- What a run makes of one cell and of one least word.
use Rattle.std.proofs.Common.{◌≡◌, ◌≢◌, ℕ, eqb, cond, Bool, true, false, ◌+◌, ◌<◌, ◌≤◌, min, ◌⊎◌, inl, inr, ⊎_elim, List, [], ◌∷◌, length, get_or, set, sym, refl, ap, ◌∙◌, subst, arith, eq-eqb, ne_eqb, length-set, get_or-set_other, get_or-set_same}
use Rattle.std.specs.List.{Contains}
use Rattle.std.proofs.lemmas.List.Elements.{Contains-append_cases, Contains-append_left, Contains-append_right, Contains-push, Contains-push_cases}
use mathlib.Core.Logic.{dite}
use native.Mathlib.Decide.{dec_le, ℕ_discrete}
use Rattle.pool_core.specs.declared.state.Step.{Step}
use Rattle.pool_core.specs.declared.state.Step.TheVariants.{Intern, Lower}
use Rattle.pool_core.specs.Machine.{cells_after, cells_run, first_word, interned, IsLeast, least_after, least_run, lowered, FillsAndLowers, OrderDoesNotMatter, put_in, RunsFillAndLower}

-- a test of two numbers, by whether they are equal
pub tested : (F : Bool → Type 0) (a b : ℕ) → (a ≡ b → F true) → (a ≢ b → F false) → F (eqb a b)
tested F a b equal other = dite (ℕ_discrete a b) (λ e. subst F (sym (eq-eqb a b e)) (equal e)) (λ ne. subst F (sym (ne_eqb a b ne)) (other ne))

-- the first of a list is in it, the rest is in it, and there is no more
first_in : (x : ℕ) (xs : List ℕ) → Contains (x ∷ xs) x
first_in x xs = Contains-append_left (x ∷ []) xs x (Contains-push [] x)

rest_in : (x : ℕ) (xs : List ℕ) (y : ℕ) → Contains xs y → Contains (x ∷ xs) y
rest_in x xs y at = Contains-append_right (x ∷ []) xs y at

none_in : (y : ℕ) → Contains [] y → ⊥
none_in y at = let none : at.0 < 0 = at.1 in omega arith

either_in : (x : ℕ) (xs : List ℕ) (y : ℕ) → Contains (x ∷ xs) y → (x ≡ y) ⊎ Contains xs y
either_in x xs y at = ⊎_elim (λ one. ⊎_elim (λ none. absurd (none_in y none)) (λ e. inl e) (Contains-push_cases [] x y one)) (λ later. inr later) (Contains-append_cases (x ∷ []) xs y at)

-- a number more
least_more : (before x : ℕ) (xs : List ℕ) (n : ℕ) → IsLeast (min before x) (Contains xs) n → IsLeast before (Contains (x ∷ xs)) n
least_more before x xs n is = record {
  below = (let b = is.below in omega arith);
  each = λ y at. ⊎_elim (λ e. (let b = is.below in omega arith)) (λ later. is.each y later) (either_in x xs y at);
  one = ⊎_elim (λ (e : n ≡ min before x). dite (dec_le before x) (λ le. inl (omega arith)) (λ gt. let here : x ≡ n = omega arith in inr (subst (Contains (x ∷ xs)) here (first_in x xs)))) (λ at. inr (rest_in x xs n at)) is.one;
}

-- the word of one cell after a run of the steps that are at it
abbrev unfilled : ℕ → List ℕ → ℕ
unfilled word names = cond (eqb word 0) (first_word names) word

unfilled_put : (word name : ℕ) (names : List ℕ) → unfilled (put_in word name) names ≡ unfilled word (name ∷ names)
unfilled_put word name names =
    let F : Bool → Type 0 = λ b. unfilled (cond b (name + 1) word) names ≡ cond b (name + 1) word in
    tested F word 0
    (λ e. let off : name + 1 ≢ 0 = λ z. omega arith in ap (λ b. cond b (first_word names) (name + 1)) (ne_eqb (name + 1) 0 off))
    (λ off. ap (λ b. cond b (first_word names) word) (ne_eqb word 0 off))

cell_after : (cells : List ℕ) (steps : List Step) (c : ℕ) → c < length cells → get_or (cells_run cells steps) c 0 ≡ unfilled (get_or cells c 0) (interned c steps)
cell_after cells [] c inside =
    let F : Bool → Type 0 = λ b. get_or cells c 0 ≡ cond b 0 (get_or cells c 0) in
    tested F (get_or cells c 0) 0 (λ e. e) (λ off. refl)
cell_after cells (Lower seat cell number ∷ steps) c inside = cell_after cells steps c inside
cell_after cells (Intern seat cell name ∷ steps) c inside =
    let word : ℕ = put_in (get_or cells cell 0) name in
    let next : List ℕ = set cells cell word in
    let longer : c < length next = omega (arith, length-set cells cell word) in
    let rest = cell_after next steps c longer in
    let F : Bool → Type 0 = λ b. get_or (cells_run next steps) c 0 ≡ unfilled (get_or cells c 0) (cond b (name ∷ interned c steps) (interned c steps)) in
    tested F cell c
    (λ e.
    let here : get_or next c 0 ≡ put_in (get_or cells c 0) name = subst (λ (k : ℕ). get_or (set cells k (put_in (get_or cells k 0) name)) c 0 ≡ put_in (get_or cells c 0) name) (sym e) (get_or-set_same cells c (put_in (get_or cells c 0) name) 0 inside) in
    rest ∙ ap (λ (w : ℕ). unfilled w (interned c steps)) here ∙ unfilled_put (get_or cells c 0) name (interned c steps))
    (λ ne.
    let off : c ≢ cell = λ e. ne (sym e) in
    rest ∙ ap (λ (w : ℕ). unfilled w (interned c steps)) (get_or-set_other cells cell c word 0 off))

-- a filled cell keeps its word, and an empty one has that of the first name
pub filled_stays : (cells : List ℕ) (steps : List Step) (c : ℕ) → c < length cells → get_or cells c 0 ≢ 0 → get_or (cells_run cells steps) c 0 ≡ get_or cells c 0
filled_stays cells steps c inside off = cell_after cells steps c inside ∙ ap (λ b. cond b (first_word (interned c steps)) (get_or cells c 0)) (ne_eqb (get_or cells c 0) 0 off)

pub empty_fills : (cells : List ℕ) (steps : List Step) (c : ℕ) → c < length cells → get_or cells c 0 ≡ 0 → get_or (cells_run cells steps) c 0 ≡ first_word (interned c steps)
empty_fills cells steps c inside e = cell_after cells steps c inside ∙ ap (λ b. cond b (first_word (interned c steps)) (get_or cells c 0)) (eq-eqb (get_or cells c 0) 0 e)

pub least_lowers : (least : List ℕ) (steps : List Step) (c : ℕ) → c < length least → IsLeast (get_or least c 0) (Contains (lowered c steps)) (get_or (least_run least steps) c 0)
least_lowers least [] c inside = record { below = omega arith; each = λ x at. absurd (none_in x at); one = inl refl }
least_lowers least (Intern seat cell name ∷ steps) c inside = least_lowers least steps c inside
least_lowers least (Lower seat cell number ∷ steps) c inside =
    let word : ℕ = min (get_or least cell 0) number in
    let next : List ℕ = set least cell word in
    let longer : c < length next = omega (arith, length-set least cell word) in
    let rest = least_lowers next steps c longer in
    let F : Bool → Type 0 = λ b. IsLeast (get_or least c 0) (Contains (cond b (number ∷ lowered c steps) (lowered c steps))) (get_or (least_run next steps) c 0) in
    tested F cell c
    (λ e.
    let here : get_or next c 0 ≡ min (get_or least c 0) number = subst (λ (k : ℕ). get_or (set least k (min (get_or least k 0) number)) c 0 ≡ min (get_or least c 0) number) (sym e) (get_or-set_same least c (min (get_or least c 0) number) 0 inside) in
    least_more (get_or least c 0) number (lowered c steps) (get_or (least_run next steps) c 0) (subst (λ (w : ℕ). IsLeast w (Contains (lowered c steps)) (get_or (least_run next steps) c 0)) here rest))
    (λ ne.
    let off : c ≢ cell = λ e. ne (sym e) in
    subst (λ (w : ℕ). IsLeast w (Contains (lowered c steps)) (get_or (least_run next steps) c 0)) (get_or-set_other least cell c word 0 off) rest)

pub all_runs : RunsFillAndLower
all_runs cells least steps c inside within = record { kept = filled_stays cells steps c inside; first = empty_fills cells steps c inside; lowered = least_lowers least steps c within }

-- two minima of the same numbers are one
pub one_least : (before : ℕ) (A B : ℕ → Type 0) (m n : ℕ) → ((x : ℕ) → A x → B x) → ((x : ℕ) → B x → A x) → IsLeast before A m → IsLeast before B n → m ≡ n
one_least before A B m n there back a b =
    let up : n ≤ m = ⊎_elim (λ (e : m ≡ before). let h = b.below in omega arith) (λ made. b.each m (there m made)) a.one in
    let down : m ≤ n = ⊎_elim (λ (e : n ≡ before). let h = a.below in omega arith) (λ made. a.each n (back n made)) b.one in
    omega arith

pub order_is_free : OrderDoesNotMatter
order_is_free least a b c inside same = one_least (get_or least c 0) (Contains (lowered c a)) (Contains (lowered c b)) (get_or (least_run least a) c 0) (get_or (least_run least b) c 0) (λ x. (same x).0) (λ x. (same x).1) (least_lowers least a c inside) (least_lowers least b c inside)

pub length-cells_after : (cells : List ℕ) (next : Step) → length (cells_after cells next) ≡ length cells
length-cells_after cells (Intern seat cell name) = length-set cells cell (put_in (get_or cells cell 0) name)
length-cells_after cells (Lower seat cell number) = refl

pub length-least_after : (least : List ℕ) (next : Step) → length (least_after least next) ≡ length least
length-least_after least (Intern seat cell name) = refl
length-least_after least (Lower seat cell number) = length-set least cell (min (get_or least cell 0) number)
