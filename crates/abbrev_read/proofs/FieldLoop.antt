-- The ways out of the loop over a declaration's attributes, and the way on.
use Rattle.std.proofs.Common.{◌≡◌, ℕ, suc, ◌+◌, ◌-◌, ◌<◌, ◌≤◌, true, false, ◌++◌, [], ◌∷◌, List, Option, Some, None, Result, Ok, Err, arith, refl, sym, ap, ◌∙◌}
use Rattle.std.specs.Option.{option_map_or, is_some}
use Rattle.ds_base.specs.declared.fault.Fault.{Fault}
use Rattle.ds_base.specs.declared.fault.Kind.TheVariants.{LimitAttributes}
use Rattle.ds_base.specs.Spot.{Spot, fault_at}
use Rattle.ds_base.specs.Reading.{◌>>=◌}
use Rattle.dwarf_types.specs.declared.abbrev.TheConstants.{MOST_FIELDS}
use Rattle.dwarf_types.specs.declared.abbrev.Field.{Field}
use Rattle.abbrev_read.specs.Reading.{pair_at, field_at, fields_at}

-- as many more as there may be, and one at least
room_left : (i : ℕ) (before : List Field) (first s : Spot) (total : Result (List Field × Spot) Fault) → i < MOST_FIELDS → fields_at (MOST_FIELDS - i) before first s ≡ total
    → total ≡ (pair_at first s >>= λ p. option_map_or (λ pair. field_at pair p.1 >>= λ field. fields_at (MOST_FIELDS - (i + 1)) (before ++ field.0 ∷ []) first field.1) p.0 (Ok (before, p.1)))
unfolding fields_at
room_left i before first s total lt so_far =
    let k : MOST_FIELDS - i ≡ suc (MOST_FIELDS - (i + 1)) = omega arith in
    sym so_far ∙ ap (λ (n : ℕ). fields_at n before first s) k

pub pair_fails : (i : ℕ) (before : List Field) (first s : Spot) (f : Fault) (total : Result (List Field × Spot) Fault) → i < MOST_FIELDS → pair_at first s ≡ Err f
    → fields_at (MOST_FIELDS - i) before first s ≡ total → total ≡ Err f
pair_fails i before first s f total lt pair so_far = room_left i before first s total lt so_far ∙ rw pair refl

pub fields_end : (i : ℕ) (before : List Field) (first s t : Spot) (total : Result (List Field × Spot) Fault) → i < MOST_FIELDS → pair_at first s ≡ Ok (None, t)
    → fields_at (MOST_FIELDS - i) before first s ≡ total → total ≡ Ok (before, t)
fields_end i before first s t total lt pair so_far = room_left i before first s total lt so_far ∙ rw pair refl

pub field_fails : (i : ℕ) (before : List Field) (first s t : Spot) (pair : ℕ × ℕ) (f : Fault) (total : Result (List Field × Spot) Fault) → i < MOST_FIELDS
    → pair_at first s ≡ Ok (Some pair, t) → field_at pair t ≡ Err f → fields_at (MOST_FIELDS - i) before first s ≡ total → total ≡ Err f
field_fails i before first s t pair f total lt is field so_far = room_left i before first s total lt so_far ∙ rw (is, field) refl

pub field_more : (i : ℕ) (before : List Field) (first s t u : Spot) (pair : ℕ × ℕ) (field : Field) (total : Result (List Field × Spot) Fault) → i < MOST_FIELDS
    → pair_at first s ≡ Ok (Some pair, t) → field_at pair t ≡ Ok (field, u) → fields_at (MOST_FIELDS - i) before first s ≡ total
    → fields_at (MOST_FIELDS - (i + 1)) (before ++ field ∷ []) first u ≡ total
field_more i before first s t u pair field total lt is read so_far = sym (room_left i before first s total lt so_far ∙ rw (is, read) refl)

-- no room is left: only the end may come
no_room : (i : ℕ) (before : List Field) (first s : Spot) (total : Result (List Field × Spot) Fault) → MOST_FIELDS ≤ i → fields_at (MOST_FIELDS - i) before first s ≡ total
    → total ≡ fields_at 0 before first s
no_room i before first s total le so_far =
    let k : MOST_FIELDS - i ≡ 0 = omega arith in
    sym so_far ∙ ap (λ (n : ℕ). fields_at n before first s) k

pub last_fails : (i : ℕ) (before : List Field) (first s : Spot) (f : Fault) (total : Result (List Field × Spot) Fault) → MOST_FIELDS ≤ i → pair_at first s ≡ Err f
    → fields_at (MOST_FIELDS - i) before first s ≡ total → total ≡ Err f
unfolding fields_at
last_fails i before first s f total le pair so_far = no_room i before first s total le so_far ∙ rw pair refl

pub too_many : (i : ℕ) (before : List Field) (first s t : Spot) (pair : Option (ℕ × ℕ)) (total : Result (List Field × Spot) Fault) → MOST_FIELDS ≤ i
    → pair_at first s ≡ Ok (pair, t) → is_some pair ≡ true → fields_at (MOST_FIELDS - i) before first s ≡ total → total ≡ Err (fault_at first LimitAttributes)
unfolding fields_at
too_many i before first s t pair total le read some so_far = no_room i before first s total le so_far ∙ rw (read, some) refl

pub last_end : (i : ℕ) (before : List Field) (first s t : Spot) (pair : Option (ℕ × ℕ)) (total : Result (List Field × Spot) Fault) → MOST_FIELDS ≤ i
    → pair_at first s ≡ Ok (pair, t) → is_some pair ≡ false → fields_at (MOST_FIELDS - i) before first s ≡ total → total ≡ Ok (before, t)
unfolding fields_at
last_end i before first s t pair total le read none so_far = no_room i before first s total le so_far ∙ rw (read, none) refl
