-- A loop that reads so many items: what it has read, and what it still reads.
use Rattle.std.proofs.Common.{◌≡◌, ℕ, suc, ◌+◌, ◌-◌, ◌<◌, ◌≤◌, List, [], ◌∷◌, ◌++◌, Result, Ok, Err, refl, sym, ◌∙◌, arith}
use Rattle.ds_base.specs.declared.fault.Fault.{Fault}
use Rattle.ds_base.specs.Reading.{items_at}

-- one more item is read
pub items_more : {A S : Type 0} (read : S → Result (A × S) Fault) (count i : ℕ) (before : List A) (s : S) (item : A) (behind : S) (total : Result (List A × S) Fault)
    → i < count → read s ≡ Ok (item, behind) → items_at read (count - i) before s ≡ total → items_at read (count - (i + 1)) (before ++ item ∷ []) behind ≡ total
items_more read count i before s item behind total lt is so_far =
    let left : count - i ≡ suc (count - (i + 1)) = omega arith in
    sym (rw (left, is) refl) ∙ so_far

-- an item is faulty
pub items_fail : {A S : Type 0} (read : S → Result (A × S) Fault) (count i : ℕ) (before : List A) (s : S) (fault : Fault) (total : Result (List A × S) Fault)
    → i < count → read s ≡ Err fault → items_at read (count - i) before s ≡ total → total ≡ Err fault
items_fail read count i before s fault total lt is so_far =
    let left : count - i ≡ suc (count - (i + 1)) = omega arith in
    sym so_far ∙ rw (left, is) refl

-- all are read
pub items_end : {A S : Type 0} (read : S → Result (A × S) Fault) (count i : ℕ) (before : List A) (s : S) (total : Result (List A × S) Fault)
    → count ≤ i → items_at read (count - i) before s ≡ total → total ≡ Ok (before, s)
items_end read count i before s total le so_far =
    let none : count - i ≡ 0 = omega arith in
    sym so_far ∙ rw none refl
