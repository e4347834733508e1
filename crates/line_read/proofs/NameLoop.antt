-- The loops over directories and files: the ways out, and the way on.
use Rattle.std.proofs.Common.{◌≡◌, ℕ, suc, ◌+◌, ◌-◌, ◌<◌, ◌≤◌, List, [], ◌∷◌, ◌++◌, Option, Some, None, Result, Ok, Err, refl, sym, ◌∙◌, arith}
use Rattle.ds_base.specs.declared.fault.Fault.{Fault}
use Rattle.ds_base.specs.declared.fault.Kind.TheVariants as kinds
use Rattle.ds_base.specs.Spot.{Spot, fault_at}
use Rattle.line_read.specs.Names.{listed_at}

-- an item is seen where it stands
pub some_read : {A X : Type 0} (view : Option X → Option A) (found : Option X) (item : X) (read : Result (Option A × Spot) Fault) (behind : Spot)
    → found ≡ Some item → read ≡ Ok (view found, behind) → read ≡ Ok (view (Some item), behind)
some_read view found item read behind is e = rw (← is) e

-- one more is read
pub listed_more : {A : Type 0} (read : Spot → Result (Option A × Spot) Fault) (left i : ℕ) (before : List A) (s : Spot) (item : A) (behind : Spot) (total : Result (List A × Spot) Fault)
    → i < left → read s ≡ Ok (Some item, behind) → listed_at read (left - i) before s ≡ total → listed_at read (left - (i + 1)) (before ++ item ∷ []) behind ≡ total
listed_more read left i before s item behind total lt is so_far =
    let more : left - i ≡ suc (left - (i + 1)) = omega arith in
    sym (rw (more, is) refl) ∙ so_far

-- one is faulty
pub listed_fails : {A : Type 0} (read : Spot → Result (Option A × Spot) Fault) (left i : ℕ) (before : List A) (s : Spot) (fault : Fault) (total : Result (List A × Spot) Fault)
    → i < left → read s ≡ Err fault → listed_at read (left - i) before s ≡ total → total ≡ Err fault
listed_fails read left i before s fault total lt is so_far =
    let more : left - i ≡ suc (left - (i + 1)) = omega arith in
    sym so_far ∙ rw (more, is) refl

-- the end mark comes
pub listed_end : {A : Type 0} (read : Spot → Result (Option A × Spot) Fault) (left i : ℕ) (before : List A) (s behind : Spot) (total : Result (List A × Spot) Fault)
    → i < left → read s ≡ Ok (None, behind) → listed_at read (left - i) before s ≡ total → total ≡ Ok (before, behind)
listed_end read left i before s behind total lt is so_far =
    let more : left - i ≡ suc (left - (i + 1)) = omega arith in
    sym so_far ∙ rw (more, is) refl

-- the bytes are used up
pub listed_cut : {A : Type 0} (read : Spot → Result (Option A × Spot) Fault) (left i : ℕ) (before : List A) (s : Spot) (total : Result (List A × Spot) Fault)
    → left ≤ i → listed_at read (left - i) before s ≡ total → total ≡ Err (fault_at s kinds.Truncated)
listed_cut read left i before s total le so_far =
    let none : left - i ≡ 0 = omega arith in
    sym so_far ∙ rw none refl
