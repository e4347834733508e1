-- The ways out of the loop over the attributes of an entry, and the way on.
use Rattle.std.proofs.Common.{◌≡◌, ℕ, suc, ◌+◌, ◌<◌, ◌≤◌, Bool, List, [], ◌∷◌, ◌++◌, length, get_or, drop, Option, Result, Ok, Err, refl, sym, ap, ◌∙◌, drop-cons, arith}
use Rattle.std.specs.Option.{option_to_list}
use Rattle.std.proofs.lemmas.List.{drop_all, length-append}
use Rattle.ds_base.specs.declared.fault.Fault.{Fault}
use Rattle.ds_base.specs.Spot.{Spot}
use Rattle.ds_base.specs.Reading.{◌>>=◌}
use Rattle.ds_base.proofs.Passing.{bind_ok, ok_is}
use Rattle.dwarf_types.specs.declared.abbrev.Field.{Field}
use Rattle.dwarf_types.specs.declared.entry.RawAttr.{RawAttr}
use Rattle.dwarf_types.specs.SectionBytes.{SectionBytes}
use Rattle.unit_tree.specs.declared.attribute.UnitContext.{UnitContext}
use Rattle.unit_tree.specs.declared.reference.Reference.{Reference}
use Rattle.unit_tree.specs.Attribute.{Described, attr_at, attrs_at}

-- the next field is read
next_field : (sections : SectionBytes) (context : UnitContext) (root : Bool) (fields : List Field) (i : ℕ) (d : Field) (before : Described) (s : Spot) (total : Result (Described × Spot) Fault) → i < length fields
    → attrs_at sections context root (drop i fields) before s ≡ total
    → total ≡ (attr_at sections context root (get_or fields i d) before.0 s >>= λ attr. attrs_at sections context root (drop (i + 1) fields) (before.0 ++ attr.0.0 ∷ [], before.1 ++ option_to_list attr.0.1) attr.1)
unfolding attrs_at
next_field sections context root fields i d before s total lt so_far =
    let next : suc i ≡ i + 1 = omega arith in
    let parts : drop i fields ≡ get_or fields i d ∷ drop (i + 1) fields = drop-cons fields i d lt ∙ ap (λ (n : ℕ). get_or fields i d ∷ drop n fields) next in
    sym so_far ∙ ap (λ (fs : List Field). attrs_at sections context root fs before s) parts

pub attr_fails : (sections : SectionBytes) (context : UnitContext) (root : Bool) (fields : List Field) (i : ℕ) (d : Field) (before : Described) (s : Spot) (f : Fault) (total : Result (Described × Spot) Fault) → i < length fields
    → attr_at sections context root (get_or fields i d) before.0 s ≡ Err f → attrs_at sections context root (drop i fields) before s ≡ total → total ≡ Err f
attr_fails sections context root fields i d before s f total lt read so_far = next_field sections context root fields i d before s total lt so_far ∙ rw read refl

pub attr_more : (sections : SectionBytes) (context : UnitContext) (root : Bool) (fields : List Field) (i : ℕ) (d : Field) (before : Described) (s t : Spot) (attr : RawAttr) (reference : Option Reference) (total : Result (Described × Spot) Fault) → i < length fields
    → attr_at sections context root (get_or fields i d) before.0 s ≡ Ok ((attr, reference), t) → attrs_at sections context root (drop i fields) before s ≡ total
    → attrs_at sections context root (drop (i + 1) fields) (before.0 ++ attr ∷ [], before.1 ++ option_to_list reference) t ≡ total
attr_more sections context root fields i d before s t attr reference total lt read so_far = sym (next_field sections context root fields i d before s total lt so_far ∙ rw read refl)

pub attrs_end : (sections : SectionBytes) (context : UnitContext) (root : Bool) (fields : List Field) (i : ℕ) (before : Described) (s : Spot) (total : Result (Described × Spot) Fault) → length fields ≤ i
    → attrs_at sections context root (drop i fields) before s ≡ total → total ≡ Ok (before, s)
unfolding attrs_at
attrs_end sections context root fields i before s total le so_far = sym so_far ∙ ap (λ (fs : List Field). attrs_at sections context root fs before s) (drop_all i fields le)

-- an attribute a field
pub attrs_long : (sections : SectionBytes) (context : UnitContext) (root : Bool) (fields : List Field) (before : Described) (s : Spot) (y : Described × Spot) → attrs_at sections context root fields before s ≡ Ok y → length y.0.0 ≡ length before.0 + length fields
unfolding attrs_at
attrs_long sections context root [] before s y e = omega (arith, ap (λ (read : Described × Spot). length read.0.0) (ok_is (before, s) y e))
attrs_long sections context root (field ∷ fields) before s y e =
    let b = bind_ok (attr_at sections context root field before.0 s) (λ attr. attrs_at sections context root fields (before.0 ++ attr.0.0 ∷ [], before.1 ++ option_to_list attr.0.1) attr.1) y e in
    omega (arith, attrs_long sections context root fields (before.0 ++ b.0.0.0 ∷ [], before.1 ++ option_to_list b.0.0.1) b.0.1 y b.2, length-append before.0 (b.0.0.0 ∷ []))

-- one attribute more
pub one_put : {X : Type 0} (xs : List X) (x : X) (i n : ℕ) → length xs ≡ i → i + 1 ≡ n → length (xs ++ x ∷ []) ≡ n
one_put xs x i n few more = omega (arith, length-append xs (x ∷ []), few, more)
