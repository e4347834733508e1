-- Which analyses are left while units are drafted in their order.
use Rattle.std.proofs.Common.{◌≡◌, ◌<◌, ◌≤◌, ◌+◌, ◌-◌, ◌^◌, ℕ, zero, suc, List, length, Option, Some, None, is_some, refl, sym, ap, subst, ◌∙◌, arith, inl, inr}
use Rattle.std.specs.List.{All}
use Rattle.clone_units.specs.Units.{AreThere, object_of}
use Rattle.clone_units.proofs.Order.{its_object_is, objects_rise, one_object}
use Rattle.dwarf_types.specs.declared.analysis.Analysis.{Analysis}
use Rattle.dwarf_types.specs.declared.shape.Shape.{Shape}
use Rattle.dwarf_types.specs.Sound.{IsSound}
use Rattle.link_graph.specs.Graph.{IsShape}
use Rattle.unit_drafts.specs.Drafting.{AreLeft, MayDraft, first_needed}

pub left_all : (all : List Analysis) → AreLeft 0 all all
left_all all i le = refl

pub left_from : (from to : ℕ) (all left : List Analysis) → from ≤ to → AreLeft from all left → AreLeft to all left
left_from from to all left le h i le' = h i (omega (arith, le, le'))

some_is_not_none : {A : Type 0} (o : Option A) (x : A) → o ≡ Some x → o ≡ None → ⊥
some_is_not_none o x some none = absurd (let clash = ap is_some (sym none ∙ some) in cc)

-- what the units of an object need is there as long as its analysis is
left_there : (all left : List Analysis) (shape : Shape) (u object : ℕ) → IsShape all shape → object_of shape u ≡ Some object → AreLeft object all left → AreThere shape u all left
left_there all left shape u object is named from other names = from other (omega (arith, one_object all shape u object other is named names))

-- and while none is let go, what any unit needs is
all_there : (all left : List Analysis) (shape : Shape) (u : ℕ) → AreLeft 0 all left → AreThere shape u all left
all_there all left shape u from other names = from other (omega arith)

module _ (seen : List Analysis) (shape : Shape) (is : IsShape seen shape) where
  -- a unit behind the first has an object
  behind_first : (u : ℕ) → u + 1 < length shape.units → object_of shape (u + 1) ≡ None → ⊥
  behind_first u lt none = elim (its_object_is seen shape (u + 1) is lt) [
    | inl first ↦ absurd (omega (arith, first.0))
    | inr object ↦ some_is_not_none (object_of shape (u + 1)) object.0 object.1 none
  ]

  abbrev needed : ℕ → ℕ
  needed u = first_needed (object_of shape u)

  -- of two neighbours the second needs no earlier object
  one_rises : (u : ℕ) → u + 1 < length shape.units → needed u ≤ needed (u + 1)
  one_rises u lt = by (object_of shape u) (object_of shape (u + 1)) refl refl
    where
      by : (o p : Option ℕ) → object_of shape u ≡ o → object_of shape (u + 1) ≡ p → first_needed o ≤ first_needed p
      by None p e f = omega arith
      by (Some a) None e f = absurd (behind_first u lt f)
      by (Some a) (Some b) e f = objects_rise seen shape u a b is e f

  rises_by : (d u : ℕ) → u + d < length shape.units → needed u ≤ needed (u + d)
  rises_by zero u lt =
      let same : u ≡ u + 0 = omega arith in
      let le : needed u ≤ needed u = omega arith in
      subst (λ (v : ℕ). needed u ≤ needed v) same le
  rises_by (suc d) u lt =
      let here = rises_by d u (omega (arith, lt)) in
      let next = one_rises (u + d) (omega (arith, lt)) in
      let same : u + d + 1 ≡ u + suc d = omega arith in
      let le : needed u ≤ needed (u + d + 1) = omega (arith, here, next) in
      subst (λ (v : ℕ). needed u ≤ needed v) same le

  pub rises : (u v : ℕ) → u ≤ v → v < length shape.units → needed u ≤ needed v
  rises u v le lt =
      let same : u + (v - u) ≡ v = omega (arith, le) in
      subst (λ (w : ℕ). needed u ≤ needed w) same (rises_by (v - u) u (omega (arith, same, lt)))

  -- what a unit needs is there, where the first one before it has what it needs
  pub unit_there : (u v : ℕ) (left : List Analysis) → u ≤ v → v < length shape.units → AreLeft (needed u) seen left → AreThere shape v seen left
  unit_there u v left le lt from = by (object_of shape v) refl (left_from (needed u) (needed v) seen left (rises u v le lt) from)
    where
      by : (o : Option ℕ) → object_of shape v ≡ o → AreLeft (first_needed o) seen left → AreThere shape v seen left
      by None e all = all_there seen left shape v all
      by (Some object) e all = left_there seen left shape v object is e all

  pub may_draft : (u v : ℕ) (left : List Analysis) → length shape.units < 2 ^ 32 - 1 → All IsSound seen → u ≤ v → v < length shape.units → AreLeft (needed u) seen left → MayDraft left shape v
  may_draft u v left few sound le lt from = record { there = lt; few = few; holds = record { all = seen; is_shape = is; sound = sound; there = unit_there u v left le lt from } }
