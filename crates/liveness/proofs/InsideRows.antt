-- The row of the entries above which a subprogram stands, entry by entry.
use Rattle.std.proofs.Common.{◌≡◌, ℕ, zero, suc, ◌+◌, ◌<◌, Bool, true, false, List, length, get_or, set, replicate, slice_get, Option, Some, None, ◌↔◌, inl, inr, sym, subst, ◌∙◌, refl, ap, arith}
use Rattle.std.specs.Option.{option_map_or}
use Rattle.std.proofs.lemmas.Bool.{cases_eq, eqb-true, eq-eqb, false≢true, or_cases, or_left, or_right}
use Rattle.std.proofs.lemmas.List.{length-set, length-replicate, get_or-set_same, get_or-set_other}
use Rattle.std.proofs.lemmas.Option.{same_Some}
use Rattle.ds_base.specs.DwarfNumbers.{DW_TAG_subprogram}
use Rattle.dwarf_types.specs.declared.entry.Entry.{Entry}
use Rattle.dwarf_types.specs.Live.{IsAbove, IsInSubprogram, Stands}
use Rattle.dwarf_types.specs.Tree.{ParentsStandBefore}
use Rattle.liveness.specs.Roots.{TellsInside, is_below_subprogram, is_subprogram}
use Rattle.liveness.proofs.Marks.{none_marked}

pub tells_none : (entries : List Entry) → TellsInside entries (replicate (length entries) false) 0
tells_none entries = record {
  len = length-replicate (length entries) false;
  marks = λ k. ((λ m. absurd (none_marked (length entries) k m)), (λ w. absurd (omega (arith, w.0))));
}

-- a subprogram is at a place, as a test tells
is_there : (o : Option Entry) → option_map_or is_subprogram o false ≡ true → (a : Entry) × (o ≡ Some a) × (a.tag ≡ DW_TAG_subprogram)
is_there None e = absurd (false≢true e)
is_there (Some a) e = (a, refl, eqb-true a.tag DW_TAG_subprogram e)

inside_from_parent : (entries : List Entry) (row : List Bool) (i : ℕ) (e : Entry) → TellsInside entries row i → Stands entries i e → (o : Option ℕ) → e.parent ≡ o → is_below_subprogram entries row o ≡ true → IsInSubprogram entries i
inside_from_parent entries row i e tells at None parent t = absurd (false≢true t)
inside_from_parent entries row i e tells at (Some p) parent t = elim (or_cases _ _ t) [
  | inl u ↦ (let it = is_there (slice_get entries p) u in (zero, it.0, (e, p, at, parent, it.1), it.2))
  | inr u ↦ (let it = ((tells.marks p).0 u).1 in (suc it.0, it.1, (e, p, at, parent, it.2), it.3))
]

parent_from_inside : (entries : List Entry) (row : List Bool) (i : ℕ) (e a : Entry) → ParentsStandBefore entries → TellsInside entries row i → Stands entries i e → (n : ℕ) → IsAbove entries (suc n) i a → a.tag ≡ DW_TAG_subprogram → is_below_subprogram entries row e.parent ≡ true
parent_from_inside entries row i e a before tells at zero above tag =
    let same : e ≡ above.0 = same_Some e above.0 (sym at ∙ above.2) in
    rw (ap (λ (x : Entry). x.parent) same ∙ above.3, above.4) (or_left _ _ (eq-eqb a.tag DW_TAG_subprogram tag))
parent_from_inside entries row i e a before tells at (suc n) above tag =
    let same : e ≡ above.0 = same_Some e above.0 (sym at ∙ above.2) in
    rw (ap (λ (x : Entry). x.parent) same ∙ above.3) (or_right _ _ ((tells.marks above.1).1 (before i above.1 above.0 above.2 above.3, (n, a, above.4, tag))))

pub below_is_inside : (entries : List Entry) (row : List Bool) (i : ℕ) (e : Entry) → ParentsStandBefore entries → TellsInside entries row i → Stands entries i e → (is_below_subprogram entries row e.parent ≡ true) ↔ IsInSubprogram entries i
below_is_inside entries row i e before tells at = (
  (λ t. inside_from_parent entries row i e tells at e.parent refl t),
  (λ w. parent_from_inside entries row i e w.1 before tells at w.0 w.2 w.3),
)

pub tells_more_inside : (entries : List Entry) (row : List Bool) (i : ℕ) → i < length entries → TellsInside entries row i → IsInSubprogram entries i → TellsInside entries (set row i true) (i + 1)
tells_more_inside entries row i lt tells inside = record {
  len = length-set row i true ∙ tells.len;
  marks = λ k. (
    (λ m. elim (cases_eq k i) [
      | inl e ↦ (omega arith, subst (λ (n : ℕ). IsInSubprogram entries n) (sym e) inside)
      | inr ne ↦ (let it = (tells.marks k).0 (sym (get_or-set_other row i k true false ne) ∙ m) in (omega (arith, it.0), it.1))
    ]),
    (λ w. elim (cases_eq k i) [
      | inl e ↦ subst (λ (n : ℕ). get_or (set row i true) n false ≡ true) (sym e) (get_or-set_same row i true false (omega (arith, tells.len)))
      | inr ne ↦ get_or-set_other row i k true false ne ∙ (tells.marks k).1 (omega (arith, w.0), w.1)
    ]),
  );
}

pub tells_more_outside : (entries : List Entry) (row : List Bool) (i : ℕ) → TellsInside entries row i → (IsInSubprogram entries i → ⊥) → TellsInside entries row (i + 1)
tells_more_outside entries row i tells outside = record {
  len = tells.len;
  marks = λ k. (
    (λ m. (let it = (tells.marks k).0 m in (omega (arith, it.0), it.1))),
    (λ w. elim (cases_eq k i) [
      | inl e ↦ absurd (outside (subst (λ (n : ℕ). IsInSubprogram entries n) e w.1))
      | inr ne ↦ (tells.marks k).1 (omega (arith, w.0), w.1)
    ]),
  );
}
