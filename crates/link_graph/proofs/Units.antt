-- The units of a sound analysis, and which entries lie in them.
use Rattle.std.proofs.Common.{◌≡◌, ℕ, zero, suc, ◌+◌, ◌<◌, ◌≤◌, List, [], ◌∷◌, length, get_or, slice_get, Some, inl, inr, sym, subst, ◌∙◌, arith, ap, refl}
use Rattle.std.proofs.lemmas.Bool.{cases_order}
use Rattle.std.proofs.lemmas.Option.{same_Some, none-some, slice_get_read}
use Rattle.dwarf_types.specs.declared.analysis.Analysis.{Analysis}
use Rattle.dwarf_types.specs.declared.entry.Entry.{Entry}
use Rattle.dwarf_types.specs.declared.entry.InUnit.{InUnit}
use Rattle.dwarf_types.specs.Live.{Stands}
use Rattle.dwarf_types.specs.Sound.{AreUnits, IsIn, IsSound}

pub units_end : (at : ℕ) (us : List InUnit) (end : ℕ) → AreUnits at us end → at ≤ end
units_end at [] end h = omega (arith, h)
units_end at (u ∷ us) end h = omega (arith, units_end (at + u.count) us end h.2)

-- a unit begins at or behind the first, and ends at or before the last
pub record Spans (at end : ℕ) (u : InUnit) : Type 0 where
  pub begins : at ≤ u.first
  pub ends : u.first + u.count ≤ end

pub unit_spans : (at : ℕ) (us : List InUnit) (end k : ℕ) (x : InUnit) → AreUnits at us end → slice_get us k ≡ Some x → Spans at end x
unit_spans at [] end k x h is = absurd (none-some x is)
unit_spans at (u ∷ us) end zero x h is = subst (Spans at end) (same_Some u x is) (record { begins = omega (arith, h.0); ends = omega (arith, h.0, units_end (at + u.count) us end h.2) })
unit_spans at (u ∷ us) end (suc k) x h is = let rest = unit_spans (at + u.count) us end k x h.2 is in record { begins = omega (arith, rest.begins); ends = rest.ends }

-- units are apart
pub units_apart : (at : ℕ) (us : List InUnit) (end k j : ℕ) (x y : InUnit) → AreUnits at us end → slice_get us k ≡ Some x → slice_get us j ≡ Some y → k < j → x.first + x.count ≤ y.first
units_apart at [] end k j x y h is is' lt = absurd (none-some x is)
units_apart at (u ∷ us) end k zero x y h is is' lt = absurd (omega arith)
units_apart at (u ∷ us) end zero (suc j) x y h is is' lt =
    let rest = unit_spans (at + u.count) us end j y h.2 is' in
    subst (λ (v : InUnit). v.first + v.count ≤ y.first) (same_Some u x is) (omega (arith, h.0, rest.begins))
units_apart at (u ∷ us) end (suc k) (suc j) x y h is is' lt = units_apart (at + u.count) us end k j x y h.2 is is' (omega arith)

-- an entry of a unit lies in it
pub unit_has : (a : Analysis) (u : ℕ) (unit : InUnit) (k : ℕ) (e : Entry) → IsSound a → slice_get a.units u ≡ Some unit → Stands a.entries k e → e.unit ≡ u → IsIn unit k
unit_has a u unit k e sound is at same =
    let s = sound.entries k e at in
    subst (λ (v : InUnit). IsIn v k) (same_Some s.unit unit (sym s.its_unit ∙ subst (λ (n : ℕ). slice_get a.units n ≡ Some unit) (sym same) is)) s.lies

-- an entry that lies in a unit is one of it
pub unit_of : (a : Analysis) (u : ℕ) (unit : InUnit) (k : ℕ) (e : Entry) → IsSound a → slice_get a.units u ≡ Some unit → Stands a.entries k e → IsIn unit k → e.unit ≡ u
unit_of a u unit k e sound is at lies =
    let s = sound.entries k e at in
    let other = s.lies in
    elim (cases_order e.unit u) [
      | inl same ↦ same
      | inr w ↦ elim w [
        | inl lt ↦ (let apart = units_apart 0 a.units (length a.entries) e.unit u s.unit unit sound.units s.its_unit is lt in absurd (omega (arith, apart, lies.from_first, other.before_end)))
        | inr lt ↦ (let apart = units_apart 0 a.units (length a.entries) u e.unit unit s.unit sound.units is s.its_unit lt in absurd (omega (arith, apart, lies.before_end, other.from_first)))
      ]
    ]

-- a unit as it is read
pub unit_read : (units lent : List InUnit) (u : ℕ) (unit : InUnit) → lent ≡ units → u < length units → unit ≡ get_or lent u unit → slice_get units u ≡ Some unit
unit_read units lent u unit same lt is = slice_get_read units (length units) u unit refl lt (is ∙ ap (λ (us : List InUnit). get_or us u unit) same)
