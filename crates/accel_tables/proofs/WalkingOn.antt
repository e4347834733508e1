-- Refusals that a walk over a table hands on.
use Rattle.std.proofs.Common.{◌≡◌, ℕ, suc, ◌∷◌, true, false, List, length, Result, Ok, Err, ◌==◌, sym, ◌∙◌}
use Rattle.ds_base.specs.declared.fault.Fault.{Fault}
use Rattle.ds_base.specs.declared.fault.ReadError.{ReadError}
use Rattle.ds_base.specs.declared.fault.ReadError.TheVariants as errors
use Rattle.accel_tables.specs.declared.header.Counts.{Counts}
use Rattle.accel_tables.specs.Hash.{hash_of}
use Rattle.accel_tables.specs.Found.{Collects, Walks, item_from, list_from, lists_from, number_in, offset_place}
use Rattle.accel_tables.proofs.Walking.{item_fault, lists_fault}

-- an item's refusal, in the turn of a list
pub item_refused : (table strings name : List ℕ) (n m : ℕ) (whole : Result (List ℕ) Fault) (before after : List ℕ) (place text : ℕ) (e given : ReadError) → given ≡ e → n ≡ suc m → number_in 4 table place ≡ Ok text → (text == 0) ≡ false
    → list_from table strings name n before place ≡ whole → Walks (Err e) after (item_from table strings name text before place) → Collects (Err given) after whole
item_refused table strings name n m whole before after place text (errors.Faulty f) given is left read some so_far refused =
    rw is (sym so_far ∙ item_fault table strings name n m before place text f left read some refused)
item_refused table strings name n m whole before after place text errors.NoMemory given is left read some so_far refused = rw is tt

-- a list's refusal, in the turn of a hash
pub list_refused : (table strings name : List ℕ) (counts : Counts) (left more : List ℕ) (whole : Result (List ℕ) Fault) (before after : List ℕ) (i hash place : ℕ) (e given : ReadError) → given ≡ e → left ≡ hash ∷ more → (hash == hash_of name) ≡ true
    → number_in 4 table (offset_place counts i) ≡ Ok place → lists_from table strings name counts left before i ≡ whole
    → Collects (Err e) after (list_from table strings name (length table) before place) → Collects (Err given) after whole
list_refused table strings name counts left more whole before after i hash place (errors.Faulty f) given same is wanted read so_far refused =
    rw same (sym so_far ∙ lists_fault table strings name counts left more before i hash place f is wanted read refused)
list_refused table strings name counts left more whole before after i hash place errors.NoMemory given same is wanted read so_far refused = rw same tt
