-- Entries above others: in preorder, and among those that are written.
use Rattle.std.proofs.Common.{◌≡◌, ◌<◌, ◌≤◌, ◌+◌, ◌-◌, ℕ, zero, suc, true, List, length, slice_get, Option, Some, None, inl, inr, refl, sym, ap, subst, ◌∙◌, arith}
use Rattle.std.proofs.lemmas.Option.{same_Some, slice_get_cases}
use Rattle.dwarf_types.specs.declared.entry.Entry.{Entry}
use Rattle.dwarf_types.specs.declared.entry.InUnit.{InUnit}
use Rattle.dwarf_types.specs.LinkedUnits.{Object, is_kept}
use Rattle.dwarf_types.specs.Live.{Stands}
use Rattle.dwarf_types.specs.Sound.{IsIn, IsParent, IsSound}
use Rattle.link_graph.proofs.Units.{unit_of, unit_spans}
use Rattle.linked_laws.specs.Spellable.{ArePreorder, IsUp}

-- ---- one chain behind the other

pub up_more : (entries : List Entry) (m n k j a : ℕ) → IsUp entries m k j → IsUp entries n j a → IsUp entries (m + n) k a
up_more entries zero n k j a first second = subst (λ (x : ℕ). IsUp entries (zero + n) x a) first (subst (λ (x : ℕ). IsUp entries x j a) (let same : n ≡ zero + n = omega arith in same) second)
up_more entries (suc m) n k j a first second =
    subst (λ (x : ℕ). IsUp entries x k a) (let same : suc (m + n) ≡ suc m + n = omega arith in same)
    (first.0, first.1, first.2, first.3, up_more entries m n first.1 j a first.4 second)

-- in preorder an entry has the parent above it of every entry behind it up to which only entries below that parent stand
module _ (entries : List Entry) (order : ArePreorder entries) where
  -- the entry before one that has another above it has that above it too
  pub above_before : (q a : ℕ) (n : ℕ) → a ≤ q → IsUp entries n (q + 1) a → (m : ℕ) × IsUp entries m q a
  above_before q a zero le up = absurd (omega (arith, le, up))
  above_before q a (suc n) le up =
      let first = order q up.1 up.0 up.2 up.3 in
      (first.0 + n, up_more entries first.0 n q up.1 a first.1 up.4)

  -- and so have all between
  pub above_all_before : (d q a n : ℕ) → a ≤ q → IsUp entries n (q + d) a → (m : ℕ) × IsUp entries m q a
  above_all_before zero q a n le up = (n, subst (λ (x : ℕ). IsUp entries n x a) (let same : q + zero ≡ q = omega arith in same) up)
  above_all_before (suc d) q a n le up =
      let moved = subst (λ (x : ℕ). IsUp entries n x a) (let same : q + suc d ≡ q + d + 1 = omega arith in same) up in
      let one = above_before (q + d) a n (omega (arith, le)) moved in
      above_all_before d q a one.0 le one.1

  -- an entry between a parent and its child is the parent or below it
  pub parent_above : (k q p : ℕ) (e : Entry) → Stands entries k e → e.parent ≡ Some p → p ≤ q → q < k → (m : ℕ) × IsUp entries m q p
  parent_above k q p e at parent le lt =
      let k_is : k - 1 + 1 ≡ k = omega (arith, lt) in
      let first = order (k - 1) p e (subst (λ (x : ℕ). Stands entries x e) (sym k_is) at) parent in
      let place : k - 1 ≡ q + (k - 1 - q) = omega (arith, lt) in
      above_all_before (k - 1 - q) q p first.0 le (subst (λ (x : ℕ). IsUp entries first.0 x p) place first.1)

-- ---- entries that are written

module _ (o : Object) (sound : IsSound o.seen) (parents : (k p : ℕ) (e : Entry) → is_kept o k ≡ true → Stands o.seen.entries k e → e.parent ≡ Some p → is_kept o p ≡ true) where
  parent_lies : (unit : InUnit) (k p : ℕ) (parent : Option ℕ) → IsIn unit k → IsParent unit k parent → parent ≡ Some p → IsIn unit p × (p < k)
  parent_lies unit k p None lies h e = absurd cc
  parent_lies unit k p (Some q) lies h e =
      let same : q ≡ p = same_Some q p e in
      (record { from_first = omega (arith, h.0, same); before_end = omega (arith, h.1, same, lies.before_end) }, omega (arith, h.1, same))

  -- the parent of an entry of a unit is an entry of it, and stands before
  pub parent_in_unit : (u : ℕ) (unit : InUnit) (k p : ℕ) (e : Entry) → slice_get o.seen.units u ≡ Some unit → Stands o.seen.entries k e → e.unit ≡ u → e.parent ≡ Some p
      → IsIn unit p × (p < k)
  parent_in_unit u unit k p e is at same parent =
      let s = sound.entries k e at in
      let unit_is : s.unit ≡ unit = same_Some s.unit unit (sym s.its_unit ∙ ap (slice_get o.seen.units) same ∙ is) in
      parent_lies unit k p e.parent (subst (λ (x : InUnit). IsIn x k) unit_is s.lies) (subst (λ (x : InUnit). IsParent x k e.parent) unit_is s.parent) parent

  pub entry_of_unit : (u : ℕ) (unit : InUnit) (p : ℕ) → slice_get o.seen.units u ≡ Some unit → IsIn unit p → (e : Entry) × Stands o.seen.entries p e × (e.unit ≡ u)
  entry_of_unit u unit p is lies =
      let ends = (unit_spans 0 o.seen.units (length o.seen.entries) u unit sound.units is).ends in
      elim (slice_get_cases o.seen.entries p).1 [
        | inl w ↦ (w.0, w.2, unit_of o.seen u unit p w.0 sound is w.2 lies)
        | inr w ↦ absurd (omega (arith, w.0, ends, lies.before_end))
      ]

  at_first : (unit : InUnit) (k : ℕ) → IsParent unit k None → is_kept o k ≡ true → is_kept o unit.first ≡ true
  at_first unit k first kept = subst (λ (x : ℕ). is_kept o x ≡ true) first kept

  root_kept_by : (fuel u : ℕ) (unit : InUnit) (k : ℕ) (e : Entry) (parent : Option ℕ) → e.parent ≡ parent → slice_get o.seen.units u ≡ Some unit → Stands o.seen.entries k e → e.unit ≡ u → is_kept o k ≡ true
      → k ≤ unit.first + fuel → is_kept o unit.first ≡ true
  root_kept_by fuel u unit k e None parent is at same kept le =
      let unit_is : (sound.entries k e at).unit ≡ unit = same_Some (sound.entries k e at).unit unit (sym (sound.entries k e at).its_unit ∙ ap (slice_get o.seen.units) same ∙ is) in
      at_first unit k (subst (λ (x : Option ℕ). IsParent unit k x) parent (subst (λ (x : InUnit). IsParent x k e.parent) unit_is (sound.entries k e at).parent)) kept
  root_kept_by zero u unit k e (Some p) parent is at same kept le =
      let lies = parent_in_unit u unit k p e is at same parent in
      absurd (omega (arith, lies.0.from_first, lies.1, le))
  root_kept_by (suc fuel) u unit k e (Some p) parent is at same kept le =
      let lies = parent_in_unit u unit k p e is at same parent in
      let it = entry_of_unit u unit p is lies.0 in
      root_kept_by fuel u unit p it.0 it.0.parent refl is it.1 it.2 (parents k p e kept at parent) (omega (arith, lies.1, le))

  -- the root of a unit with an entry that is written is written
  pub root_kept : (u : ℕ) (unit : InUnit) (k : ℕ) (e : Entry) → slice_get o.seen.units u ≡ Some unit → Stands o.seen.entries k e → e.unit ≡ u → is_kept o k ≡ true → is_kept o unit.first ≡ true
  root_kept u unit k e is at same kept = root_kept_by k u unit k e e.parent refl is at same kept (omega arith)
