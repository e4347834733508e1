-- What the root of a unit says of the unit.
use Rattle.std.proofs.Common.{◌≡◌, ◌==◌, ◌||◌, ◌++◌, ℕ, Bool, true, false, List, [], ◌∷◌, All, if◌then◌else◌, refl, sym, ap, ◌∙◌}
use Rattle.std.specs.List.{list_any}
use Rattle.std.proofs.lemmas.Bool.{eq-eqb, or_parts}
use Rattle.std.proofs.lemmas.List.Elements.{All-head, All-tail}
use Rattle.ds_base.specs.DwarfNumbers.{DW_AT_high_pc, DW_AT_low_pc, DW_AT_ranges}
use Rattle.dwarf_types.specs.declared.address.Addr.TheVariants as addrs
use Rattle.dwarf_types.specs.declared.address.Span.{Span}
use Rattle.dwarf_types.specs.declared.graph.Node.{Node}
use Rattle.dwarf_types.specs.declared.graph.OutAttr.{OutAttr}
use Rattle.dwarf_types.specs.declared.graph.OutValue.{OutValue}
use Rattle.dwarf_types.specs.declared.graph.OutValue.TheVariants as outs
use Rattle.dwarf_types.specs.declared.graph.Target.{Target}
use Rattle.dwarf_types.specs.WellNodes.{IsAttribute}
use Rattle.dwarf_types.specs.WellRoots.{EndsWith, HasNone, closing_pair, is_code_range, with_ranges, without_ranges}
use Rattle.dwarf_types.specs.WellValues.{MayStand}
use Rattle.graph_laws.specs.Telling.{address_in, base_of, last_spans, spans_in}

no_base : (before rest : List OutAttr) → HasNone is_code_range before → base_of (before ++ rest) ≡ base_of rest
no_base [] rest none = refl
no_base (a ∷ before) rest none =
    let p = or_parts (is_code_range a.name) (list_any (λ b. is_code_range b.name) before) none in
    let name = or_parts (a.name == DW_AT_low_pc) (a.name == DW_AT_high_pc || a.name == DW_AT_ranges) p.0 in
    ap (λ (b : Bool). if b then address_in a.value else base_of (before ++ rest)) name.0 ∙ no_base before rest p.1

append_nil : (xs : List OutAttr) → xs ++ [] ≡ xs
append_nil [] = refl
append_nil (x ∷ xs) = ap (λ (ys : List OutAttr). x ∷ ys) (append_nil xs)

-- lists count from 0
pub base_is : (spans : List Span) (attrs : List OutAttr) → EndsWith spans attrs → base_of attrs ≡ addrs.Fixed 0
base_is spans attrs (without_ranges none named) = ap base_of (sym (append_nil attrs)) ∙ no_base attrs [] named
base_is spans attrs (with_ranges before is named) = ap base_of is ∙ no_base before (closing_pair spans) named

behind_all : (found spans : List Span) (before : List OutAttr) → last_spans found (before ++ closing_pair spans) ≡ spans
behind_all found spans [] = refl
behind_all found spans (a ∷ before) = behind_all (spans_in a.value) spans before

module _ (MayLead : Target → Type 0) (version : ℕ) (nodes : List Node) where
  no_spans : (name : ℕ) (value : OutValue) → MayStand name value → is_code_range name ≡ false → spans_in value ≡ []
  no_spans name (outs.Ranges spans) may e =
      let p = or_parts (name == DW_AT_low_pc) (name == DW_AT_high_pc || name == DW_AT_ranges) e in
      let q = or_parts (name == DW_AT_high_pc) (name == DW_AT_ranges) p.1 in
      absurd (differ (sym (eq-eqb name DW_AT_ranges may) ∙ q.1))
    where
      differ : true ≡ false → ⊥
      differ e = absurd cc
  no_spans name value may e = refl

  no_ranges : (attrs : List OutAttr) → All (IsAttribute MayLead version nodes) attrs → HasNone is_code_range attrs → last_spans [] attrs ≡ []
  no_ranges [] all none = refl
  no_ranges (a ∷ attrs) all none =
      let p = or_parts (is_code_range a.name) (list_any (λ b. is_code_range b.name) attrs) none in
      let w = All-head (IsAttribute MayLead version nodes) a attrs all in
      ap (λ (xs : List Span). last_spans xs attrs) (no_spans a.name a.value w.stands p.0) ∙ no_ranges attrs (All-tail (IsAttribute MayLead version nodes) a attrs all) p.1

  pub spans_are : (spans : List Span) (attrs : List OutAttr) → All (IsAttribute MayLead version nodes) attrs → EndsWith spans attrs → spans ≡ last_spans [] attrs
  spans_are spans attrs all (without_ranges none named) = none ∙ sym (no_ranges attrs all named)
  spans_are spans attrs all (with_ranges before is named) = sym (ap (last_spans []) is ∙ behind_all [] spans before)
