-- Where names stand, as more is known, and for names that are equal.
use Rattle.std.proofs.Common.{◌≡◌, ℕ, ◌+◌, ◌<◌, ◌≤◌, inl, inr, List, ◌∷◌, length, get_or, sym, refl, ap, ◌∙◌, subst, arith}
use mathlib.Core.Logic.{dite}
use native.Mathlib.Decide.{dec_lt, ℕ_discrete}
use Rattle.type_pool.specs.Pairs.{Has, HasOneEach}
use Rattle.type_pool.specs.Standing.{EqualNamesShareACell, IsCrowded, IsIn, OthersStand, probe, probes, StandsAt}

-- what stands with some knowledge stands with more
pub others_on : (same Holds More : ℕ → ℕ → Type 0) (start cells x n : ℕ) → ((cell name : ℕ) → Holds cell name → More cell name) → OthersStand same Holds start cells x n → OthersStand same More start cells x n
others_on same Holds More start cells x n more others turn before = let other = others turn before in (other.0, more (probe start cells turn) other.0 other.1, other.2)

pub stands_on : (same Holds More : ℕ → ℕ → Type 0) (start cells x cell : ℕ) → ((cell name : ℕ) → Holds cell name → More cell name) → StandsAt same Holds start cells x cell → StandsAt same More start cells x cell
stands_on same Holds More start cells x cell more stands = record {
  turn = stands.turn;
  near = stands.near;
  probed = stands.probed;
  name = stands.name;
  there = more cell stands.name stands.there;
  equal = stands.equal;
  others = others_on same Holds More start cells x stands.turn more stands.others;
}

-- one more cell with another name
pub others_more : (same Holds : ℕ → ℕ → Type 0) (start cells x n name : ℕ) → OthersStand same Holds start cells x n → Holds (probe start cells n) name → (same name x → ⊥) → OthersStand same Holds start cells x (n + 1)
others_more same Holds start cells x n name others there other turn before =
    dite (ℕ_discrete turn n)
    (λ last. (name, subst (λ (t : ℕ). Holds (probe start cells t) name) (sym last) there, other))
    (λ off. others turn (omega arith))

-- two equal names, where a cell holds one name: the turn of the first is not among those at which others stand for the second
pub passed_over : (same Holds : ℕ → ℕ → Type 0) (start cells x y n : ℕ) → ((cell a b : ℕ) → Holds cell a → Holds cell b → a ≡ b) → (cell : ℕ) (stands : StandsAt same Holds start cells x cell) → same stands.name y → stands.turn < n → OthersStand same Holds start cells y n → ⊥
passed_over same Holds start cells x y n one cell stands equal before others =
    let other = others stands.turn before in
    let is : other.0 ≡ stands.name = one cell other.0 stands.name (subst (λ (c : ℕ). Holds c other.0) (sym stands.probed) other.1) stands.there in
    other.2 (subst (λ (a : ℕ). same a y) (sym is) equal)

-- a name that was placed is not crowded
pub placed_not_crowded : (same : ℕ → ℕ → Type 0) (notes : List (ℕ × ℕ)) (start cells x cell : ℕ) → HasOneEach notes → StandsAt same (Has notes) start cells x cell → IsCrowded same (Has notes) start cells x → ⊥
placed_not_crowded same notes start cells x cell one stands crowded = passed_over same (Has notes) start cells x x probes one cell stands stands.equal stands.near crowded

-- the turn at which a name was noted
pub stands_there : (same : ℕ → ℕ → Type 0) (old new : List (ℕ × ℕ)) (start cells x turn cell name : ℕ) → new ≡ (cell, name) ∷ old → turn < probes → cell ≡ probe start cells turn → same name x
    → OthersStand same (Has old) start cells x turn → StandsAt same (Has new) start cells x cell
stands_there same old new start cells x turn cell name is near at equal others = subst (λ (notes : List (ℕ × ℕ)). StandsAt same (Has notes) start cells x cell) (sym is) record {
  turn = turn;
  near = near;
  probed = at;
  name = name;
  there = inl (refl, refl);
  equal = equal;
  others = others_on same (Has old) (Has ((cell, name) ∷ old)) start cells x turn (λ c n has. inr has) others;
}

-- the first cell that is probed, where an equal name was seen
pub stands_first : (same Holds : ℕ → ℕ → Type 0) (start cells x cell name : ℕ) → cell ≡ probe start cells 0 → Holds (probe start cells 0) name → same name x → StandsAt same Holds start cells x cell
stands_first same Holds start cells x cell name at there equal = record {
  turn = 0;
  near = omega arith;
  probed = at;
  name = name;
  there = subst (λ (c : ℕ). Holds c name) (sym at) there;
  equal = equal;
  others = λ turn before. absurd (omega arith);
}

pub others_there : (same : ℕ → ℕ → Type 0) (old new : List (ℕ × ℕ)) (start cells x turn cell name : ℕ) → new ≡ (cell, name) ∷ old → cell ≡ probe start cells turn → (same name x → ⊥)
    → OthersStand same (Has old) start cells x turn → OthersStand same (Has new) start cells x (turn + 1)
others_there same old new start cells x turn cell name is at other others = subst (λ (notes : List (ℕ × ℕ)). OthersStand same (Has notes) start cells x (turn + 1)) (sym is)
    (others_more same (Has ((cell, name) ∷ old)) start cells x turn name
    (others_on same (Has old) (Has ((cell, name) ∷ old)) start cells x turn (λ c n has. inr has) others) (inl (at, refl)) other)

-- two equal names have one cell, and neither is crowded
pub equal_names_share : (size : ℕ) (same : ℕ → ℕ → Type 0) (start_of : ℕ → ℕ → ℕ)
    → ((a b : ℕ) → a < size → b < size → same a b → same b a)
    → ((a b c : ℕ) → a < size → b < size → c < size → same a b → same b c → same a c)
    → ((a b cells : ℕ) → a < size → b < size → 1 ≤ cells → same a b → start_of a cells ≡ start_of b cells)
    → EqualNamesShareACell size same start_of
equal_names_share size same start_of symmetric transitive one_start words x y cell some_cells named x_known y_known equal stands =
    let cells : ℕ = length words in
    let start : ℕ = start_of y cells in
    let begins : start_of x cells ≡ start = one_start x y cells x_known y_known some_cells equal in
    let at : StandsAt same (IsIn words) start cells x cell = subst (λ (s : ℕ). StandsAt same (IsIn words) s cells x cell) begins stands in
    let one : (c a b : ℕ) → IsIn words c a → IsIn words c b → a ≡ b = λ c a b is also. omega arith in
    let known : (c a : ℕ) → IsIn words c a → a < size = λ c a is. (let most = named c in omega arith) in
    let first : same at.name y = transitive at.name x y (known cell at.name at.there) x_known y_known at.equal equal in (
      (λ other its. dite (ℕ_discrete at.turn its.turn)
          (λ together. at.probed ∙ ap (probe start cells) together ∙ sym its.probed)
          (λ apart. dite (dec_lt at.turn its.turn)
          (λ before. absurd (passed_over same (IsIn words) start cells x y its.turn one cell at first before its.others))
          (λ behind.
          let second : same its.name x = transitive its.name y x (known other its.name its.there) y_known x_known its.equal (symmetric x y x_known y_known equal) in
          absurd (passed_over same (IsIn words) start cells y x at.turn one other its second (omega arith) at.others)))),
      (λ crowded. passed_over same (IsIn words) start cells x y probes one cell at first at.near crowded),
    )

-- a name does not stand at a cell that others hold, nor at one behind an empty cell
pub not_behind_others : (same : ℕ → ℕ → Type 0) (words : List ℕ) (start cells x cell : ℕ) → IsCrowded same (IsIn words) start cells x → StandsAt same (IsIn words) start cells x cell → ⊥
not_behind_others same words start cells x cell crowded stands = passed_over same (IsIn words) start cells x x probes (λ c a b is also. omega arith) cell stands stands.equal stands.near crowded

pub not_behind_empty : (same : ℕ → ℕ → Type 0) (words : List ℕ) (start cells x cell turn : ℕ) → OthersStand same (IsIn words) start cells x turn → get_or words (probe start cells turn) 0 ≡ 0
    → StandsAt same (IsIn words) start cells x cell → ⊥
not_behind_empty same words start cells x cell turn others empty stands =
    dite (dec_lt stands.turn turn)
    (λ before. passed_over same (IsIn words) start cells x x turn (λ c a b is also. omega arith) cell stands stands.equal before others)
    (λ not_before. dite (ℕ_discrete stands.turn turn)
    (λ here.
    let is : get_or words (probe start cells turn) 0 ≡ stands.name + 1 = subst (λ (t : ℕ). get_or words (probe start cells t) 0 ≡ stands.name + 1) here (subst (λ (c : ℕ). get_or words c 0 ≡ stands.name + 1) stands.probed stands.there) in
    absurd (omega arith))
    (λ behind.
    let other = stands.others turn (omega arith) in
    let is : get_or words (probe start cells turn) 0 ≡ other.0 + 1 = other.1 in
    absurd (omega arith)))

-- where a name is found
pub stands_in : (same : ℕ → ℕ → Type 0) (words : List ℕ) (start cells x turn cell name : ℕ) → turn < probes → cell ≡ probe start cells turn → IsIn words cell name → same name x
    → OthersStand same (IsIn words) start cells x turn → StandsAt same (IsIn words) start cells x cell
stands_in same words start cells x turn cell name near at there equal others = record { turn = turn; near = near; probed = at; name = name; there = there; equal = equal; others = others }

-- the cell that is probed, in a table whose cells were counted
pub probed_in : (start_of : ℕ → ℕ) (start counted cells turn cell : ℕ) → cell ≡ probe start counted turn → start ≡ start_of counted → cells ≡ counted → cell ≡ probe (start_of cells) cells turn
probed_in start_of start counted cells turn cell at begins is = at ∙ ap (λ (s : ℕ). probe s counted turn) begins ∙ ap (λ (n : ℕ). probe (start_of n) n turn) (sym is)
