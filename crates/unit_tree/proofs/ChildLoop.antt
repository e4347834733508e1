-- The ways out of the loop over the entries of open lists, and the way on.
use Rattle.std.proofs.Common.{◌≡◌, ℕ, zero, suc, ◌-◌, ◌<◌, ◌≤◌, ◌==◌, true, false, List, length, Result, Ok, Err, refl, sym, ap, ◌∙◌, arith, inl, inr}
use Rattle.std.proofs.lemmas.Bool.{cases_lt, eq-eqb}
use Rattle.ds_base.specs.declared.fault.Fault.{Fault}
use Rattle.ds_base.specs.declared.fault.Kind.TheVariants as kinds
use Rattle.ds_base.specs.declared.fault.ReadError.{ReadError}
use Rattle.ds_base.specs.declared.fault.ReadError.TheVariants as errors
use Rattle.ds_base.specs.Spot.{Spot, fault_at}
use Rattle.ds_base.specs.Reading.{◌>>=◌}
use Rattle.dwarf_types.specs.declared.abbrev.Abbrev.{Abbrev}
use Rattle.dwarf_types.specs.SectionBytes.{SectionBytes}
use Rattle.unit_tree.specs.declared.attribute.UnitContext.{UnitContext}
use Rattle.unit_tree.specs.Entry.{Parsed, Walk, child_at, children_at}
use Rattle.ds_base.proofs.Refusals.{Refused}
use Rattle.ds_base.proofs.Onward.{Further}

-- no list is open
pub ends : (sections : SectionBytes) (context : UnitContext) (table : List Abbrev) (n : ℕ) (walk : Walk) (s : Spot) → (length walk.1 == 0) ≡ true → children_at sections context table n walk s ≡ Ok (walk.0, s)
unfolding children_at
ends sections context table zero walk s none = rw none refl
ends sections context table (suc n) walk s none = rw none refl

-- a list is open, and no byte is left
cut_short : (sections : SectionBytes) (context : UnitContext) (table : List Abbrev) (n : ℕ) (walk : Walk) (s : Spot) → (length walk.1 == 0) ≡ false → (s.end - s.place == 0) ≡ true
    → children_at sections context table n walk s ≡ Err (fault_at s kinds.UnclosedSiblings)
unfolding children_at
cut_short sections context table zero walk s unclosed_is last = rw unclosed_is refl
cut_short sections context table (suc n) walk s unclosed_is last = rw (unclosed_is, last) refl

-- What is read from a spot on is the total; the count is no less than the bytes that are left.
pub record Goes (sections : SectionBytes) (context : UnitContext) (table : List Abbrev) (walk : Walk) (s : Spot) (total : Result (Parsed × Spot) Fault) : Type 0 where
  pub left : ℕ
  pub enough : s.end - s.place ≤ left
  pub is : children_at sections context table left walk s ≡ total

pub begins : (sections : SectionBytes) (context : UnitContext) (table : List Abbrev) (walk : Walk) (s : Spot) → Goes sections context table walk s (children_at sections context table (s.end - s.place) walk s)
begins sections context table walk s = record { left = s.end - s.place; enough = omega arith; is = refl }

-- an entry of an open list is read
next_child : (sections : SectionBytes) (context : UnitContext) (table : List Abbrev) (left : ℕ) (walk : Walk) (s : Spot) (total : Result (Parsed × Spot) Fault) → 0 < left → (length walk.1 == 0) ≡ false → (s.end - s.place == 0) ≡ false
    → children_at sections context table left walk s ≡ total → total ≡ (child_at sections context table walk s >>= λ read. children_at sections context table (left - 1) read.0 read.1)
unfolding children_at
next_child sections context table left walk s total some unclosed_is more so_far =
    let k : left ≡ suc (left - 1) = omega (arith, some) in
    sym so_far ∙ ap (λ (n : ℕ). children_at sections context table n walk s) k ∙ rw (unclosed_is, more) refl

pub all_closed : (sections : SectionBytes) (context : UnitContext) (table : List Abbrev) (walk : Walk) (s : Spot) (total : Result (Parsed × Spot) Fault) → (length walk.1 == 0) ≡ true
    → Goes sections context table walk s total → total ≡ Ok (walk.0, s)
all_closed sections context table walk s total none g = sym g.is ∙ ends sections context table g.left walk s none

pub unclosed : (sections : SectionBytes) (context : UnitContext) (table : List Abbrev) (walk : Walk) (s : Spot) (total : Result (Parsed × Spot) Fault) → (length walk.1 == 0) ≡ false → (s.end - s.place == 0) ≡ true
    → Goes sections context table walk s total → total ≡ Err (fault_at s kinds.UnclosedSiblings)
unclosed sections context table walk s total unclosed_is last g = sym g.is ∙ cut_short sections context table g.left walk s unclosed_is last

-- a byte is left, and so is a turn
turn_left : (s : Spot) (left : ℕ) → (s.end - s.place == 0) ≡ false → s.end - s.place ≤ left → 0 < left
turn_left s left some enough = elim (cases_lt 0 left) [
  | inl lt ↦ lt
  | inr none ↦ let last : (s.end - s.place == 0) ≡ true = eq-eqb _ _ (omega (arith, none, enough)) in absurd cc
]

-- fewer bytes are left behind an entry
pub fewer_left : (s t : Spot) → Further s t → (s.end - s.place == 0) ≡ false → t.end - t.place < s.end - s.place
fewer_left s t f some = omega (arith, f.some, ap (λ (u : Spot). u.end) f.onward.is, turn_left s (s.end - s.place) some (omega arith))

child_fails : (sections : SectionBytes) (context : UnitContext) (table : List Abbrev) (walk : Walk) (s : Spot) (f : Fault) (total : Result (Parsed × Spot) Fault) → (length walk.1 == 0) ≡ false → (s.end - s.place == 0) ≡ false
    → child_at sections context table walk s ≡ Err f → Goes sections context table walk s total → total ≡ Err f
child_fails sections context table walk s f total unclosed_is some read g =
    next_child sections context table g.left walk s total (turn_left s g.left some g.enough) unclosed_is some g.is ∙ rw read refl

pub child_refused : (sections : SectionBytes) (context : UnitContext) (table : List Abbrev) (walk : Walk) (s : Spot) (e : ReadError) (total : Result (Parsed × Spot) Fault) → (length walk.1 == 0) ≡ false → (s.end - s.place == 0) ≡ false
    → Refused e (child_at sections context table walk s) → Goes sections context table walk s total → Refused e total
child_refused sections context table walk s (errors.Faulty f) total unclosed_is some read g = child_fails sections context table walk s f total unclosed_is some read g
child_refused sections context table walk s errors.NoMemory total unclosed_is some read g = tt

pub child_more : (sections : SectionBytes) (context : UnitContext) (table : List Abbrev) (walk : Walk) (s : Spot) (y : Walk × Spot) (total : Result (Parsed × Spot) Fault) → (length walk.1 == 0) ≡ false → (s.end - s.place == 0) ≡ false
    → child_at sections context table walk s ≡ Ok y → y.1.end - y.1.place < s.end - s.place → Goes sections context table walk s total → Goes sections context table y.0 y.1 total
child_more sections context table walk s y total unclosed_is some read fewer g = record {
  left = g.left - 1;
  enough = omega (arith, fewer, g.enough);
  is = sym (next_child sections context table g.left walk s total (turn_left s g.left some g.enough) unclosed_is some g.is ∙ rw read refl);
}
