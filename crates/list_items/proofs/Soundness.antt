-- What every list keeps to, by its definition.
use Rattle.std.proofs.Common.{◌≡◌, ℕ, ◌<◌, ◌&&◌, Bool, true, false, List, Option, Some, None, IfSome, Ok, refl, sym, ap, subst, ◌∙◌, arith, inl, inr}
use Rattle.std.specs.Prelude.{nat_le, ◌==◌, if◌then◌else◌}
use Rattle.std.specs.List.{All}
use Rattle.std.proofs.lemmas.Bool.{leb-true, eqb-true, eqb-false, cases_lt}
use Rattle.ds_base.specs.Spot.{Spot}
use Rattle.ds_base.proofs.Onward.{end_kept}
use Rattle.ds_base.proofs.Passing.{bind_ok, ok_is}
use Rattle.dwarf_types.specs.declared.address.Addr.{Addr}
use Rattle.dwarf_types.specs.declared.address.Addr.TheVariants as addrs
use Rattle.dwarf_types.specs.declared.lists.RawSpan.{RawSpan}
use Rattle.list_items.specs.declared.item.Item.{Item}
use Rattle.list_items.specs.declared.item.Item.TheVariants as items
use Rattle.list_items.specs.Context.{Context}
use Rattle.dwarf_types.specs.Addresses.{number_of}
use Rattle.list_items.specs.Ends.{are_of_one_class, belong_together, is_empty}
use Rattle.list_items.specs.Items.{covered}
use Rattle.list_items.specs.Reading.{item_at}
use Rattle.list_items.specs.Lists.{Behind, Says, ends, selects, defaults, spans, said_at, whole_at, items_from, given, list_of}
use Rattle.list_items.proofs.Given.{all_given}
use Rattle.list_items.proofs.Items.{IsOrdered, item_kept}
use Rattle.list_items.specs.Sound.{Rise, IsSoundSpan}

-- ---- spans

both : (a b : Bool) → (a && b) ≡ true → (a ≡ true) × (b ≡ true)
both true b e = (refl, e)
both false b e = absurd cc

below : (low high : ℕ) → nat_le low high ≡ true → (low == high) ≡ false → low < high
below low high le differ =
    elim (cases_lt low high) [
      | inl lt ↦ lt
      | inr ge ↦ absurd (eqb-false low high differ (omega (arith, leb-true low high le, ge)))
    ]

-- ends that belong together and are not equal
rise_from : (low high : Addr) → (are_of_one_class low high && nat_le (number_of low) (number_of high)) ≡ true → (are_of_one_class low high && number_of low == number_of high) ≡ false → Rise low high
rise_from (addrs.Placed low) (addrs.Placed high) le differ = below low high le differ
rise_from (addrs.Placed low) (addrs.Named other high) le differ = absurd cc
rise_from (addrs.Placed low) (addrs.Fixed high) le differ = absurd cc
rise_from (addrs.Named symbol low) (addrs.Placed high) le differ = absurd cc
rise_from (addrs.Named symbol low) (addrs.Named other high) le differ =
    let p = both (symbol == other) (nat_le low high) le in
    let apart : (low == high) ≡ false = ap (λ (b : Bool). b && low == high) (sym p.0) ∙ differ in
    (eqb-true symbol other p.0, below low high p.1 apart)
rise_from (addrs.Named symbol low) (addrs.Fixed high) le differ = absurd cc
rise_from (addrs.Fixed low) (addrs.Placed high) le differ = absurd cc
rise_from (addrs.Fixed low) (addrs.Named other high) le differ = absurd cc
rise_from (addrs.Fixed low) (addrs.Fixed high) le differ = below low high le differ

sound_from : (span : RawSpan) → belong_together span ≡ true → is_empty span ≡ false → IsSoundSpan span
unfolding belong_together is_empty
sound_from span le differ = rise_from span.low span.high le differ

-- ---- lists

-- reading behind a span leaves the end where it is
abbrev pub KeepsEnd : {A : Type 0} → Behind A → Type 0
KeepsEnd {A = A} behind = (place : ℕ) (span : Option RawSpan) (s : Spot) (x : A) (t : Spot) → behind place span s ≡ Ok (x, t) → t.end ≡ s.end

-- what is read behind a sound span, or behind none, in front of that end keeps to P
abbrev pub Keeps : {A : Type 0} → (A → Type 0) → ℕ → Behind A → Type 0
Keeps {A = A} P end behind = (place : ℕ) (span : Option RawSpan) (s : Spot) (x : A) (t : Spot) → s.end ≡ end → IfSome span IsSoundSpan → behind place span s ≡ Ok (x, t) → P x

if_given : {A : Type 0} (P : A → Type 0) (empty : Bool) (x : A) → (empty ≡ false → P x) → IfSome (if empty then None else Some x) P
if_given P true x h = tt
if_given P false x h = h refl

said_sound : {A : Type 0} (P : A → Type 0) (end : ℕ) (behind : Behind A) → KeepsEnd behind → Keeps P end behind
    → (place : ℕ) (item : Item) (s : Spot) (y : Says A × Spot) → s.end ≡ end → IsOrdered item → said_at behind place item s ≡ Ok y → IfSome (given y.0) P × (y.1.end ≡ end)
said_sound {A = A} P end behind same keeps place items.End s y at ordered e = subst (λ (r : Says A × Spot). IfSome (given r.0) P × (r.1.end ≡ end)) (ok_is (ends, s) y e) (tt, at)
said_sound {A = A} P end behind same keeps place (items.Base selected) s y at ordered e = subst (λ (r : Says A × Spot). IfSome (given r.0) P × (r.1.end ≡ end)) (ok_is (selects selected, s) y e) (tt, at)
said_sound {A = A} P end behind same keeps place items.Default s y at ordered e =
    let p = bind_ok (behind place None s) _ y e in
    subst (λ (r : Says A × Spot). IfSome (given r.0) P × (r.1.end ≡ end)) (ok_is (defaults p.0.0, p.0.1) y p.2)
    (keeps place None s p.0.0 p.0.1 at tt p.1, same place None s p.0.0 p.0.1 p.1 ∙ at)
said_sound {A = A} P end behind same keeps place (items.Span span) s y at ordered e =
    let p = bind_ok (behind place (Some span) s) _ y e in
    subst (λ (r : Says A × Spot). IfSome (given r.0) P × (r.1.end ≡ end)) (ok_is (spans span p.0.0, p.0.1) y p.2) (
      if_given P (is_empty span) p.0.0 (λ differ. keeps place (Some span) s p.0.0 p.0.1 at (sound_from span ordered differ) p.1),
      same place (Some span) s p.0.0 p.0.1 p.1 ∙ at,
    )

whole_sound : {A : Type 0} (P : A → Type 0) (end : ℕ) (c : Context) (behind : Behind A) → KeepsEnd behind → Keeps P end behind
    → (base : Addr) (s : Spot) (y : Says A × Spot) → s.end ≡ end → whole_at c behind base s ≡ Ok y → IfSome (given y.0) P × (y.1.end ≡ end)
whole_sound P end c behind same keeps base s y at e =
    let item = bind_ok (item_at c base s) _ y e in
    let kept = item_kept c base s item.0 item.1 in
    let moved = kept.0 in
    said_sound P end behind same keeps s.place item.0.0 item.0.1 y (end_kept s item.0.1 moved.onward ∙ at) kept.1 item.2

pub list_sound : {A : Type 0} (P : A → Type 0) (end : ℕ) (c : Context) (behind : Behind A) → KeepsEnd behind → Keeps P end behind
    → (left : ℕ) (base : Addr) (s : Spot) (xs : List A) → s.end ≡ end → list_of (items_from (whole_at c behind) left base s) ≡ Ok xs → All P xs
list_sound P end c behind same keeps left base s xs at e =
    all_given P (λ (t : Spot). t.end ≡ end) (whole_at c behind) (whole_sound P end c behind same keeps) left base s xs at e

-- ---- what a span covers

pub covered_sound : (span : Option RawSpan) → IfSome span IsSoundSpan → IsSoundSpan (covered span)
covered_sound None sound = omega arith
covered_sound (Some span) sound = sound
