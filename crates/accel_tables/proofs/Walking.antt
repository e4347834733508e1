-- A turn of each walk over a table.
use Rattle.std.proofs.Common.{◌≡◌, ℕ, suc, ◌+◌, ◌%◌, ◌==◌, Bool, true, false, List, [], ◌∷◌, ◌++◌, length, Ok, Err, refl}
use Rattle.ds_base.specs.declared.fault.Fault.{Fault}
use Rattle.accel_tables.specs.declared.header.Counts.{Counts}
use Rattle.accel_tables.specs.Hash.{hash_of}
use Rattle.accel_tables.specs.Found.{entries_from, hash_place, hashes_from, item_from, list_from, lists_from, number_in, offset_place, with_entry}

-- ---- entries

pub entry_more : (table : List ℕ) (wanted : Bool) (n m : ℕ) (before : List ℕ) (place entry : ℕ) → n ≡ suc m → number_in 4 table place ≡ Ok entry
    → entries_from table wanted n before place ≡ entries_from table wanted m (with_entry wanted before entry) (place + 4)
unfolding entries_from
entry_more table wanted n m before place entry left read = rw (left, read) refl

pub entry_fault : (table : List ℕ) (wanted : Bool) (n m : ℕ) (before : List ℕ) (place : ℕ) (f : Fault) → n ≡ suc m → number_in 4 table place ≡ Err f
    → entries_from table wanted n before place ≡ Err f
unfolding entries_from
entry_fault table wanted n m before place f left read = rw (left, read) refl

pub entries_end : (table : List ℕ) (wanted : Bool) (n : ℕ) (before : List ℕ) (place : ℕ) → n ≡ 0 → entries_from table wanted n before place ≡ Ok (before, place)
unfolding entries_from
entries_end table wanted n before place none = rw none refl

-- ---- hashes

pub hash_more : (table : List ℕ) (counts : Counts) (bucket n m : ℕ) (before : List ℕ) (i hash : ℕ) → n ≡ suc m → number_in 4 table (hash_place counts i) ≡ Ok hash → (hash % counts.buckets == bucket) ≡ true
    → hashes_from table counts bucket n before i ≡ hashes_from table counts bucket m (before ++ hash ∷ []) (i + 1)
unfolding hashes_from
hash_more table counts bucket n m before i hash left read belongs = rw (left, read, belongs) refl

pub hash_other : (table : List ℕ) (counts : Counts) (bucket n m : ℕ) (before : List ℕ) (i hash : ℕ) → n ≡ suc m → number_in 4 table (hash_place counts i) ≡ Ok hash → (hash % counts.buckets == bucket) ≡ false
    → hashes_from table counts bucket n before i ≡ Ok before
unfolding hashes_from
hash_other table counts bucket n m before i hash left read other = rw (left, read, other) refl

pub hash_fault : (table : List ℕ) (counts : Counts) (bucket n m : ℕ) (before : List ℕ) (i : ℕ) (f : Fault) → n ≡ suc m → number_in 4 table (hash_place counts i) ≡ Err f
    → hashes_from table counts bucket n before i ≡ Err f
unfolding hashes_from
hash_fault table counts bucket n m before i f left read = rw (left, read) refl

pub hashes_end : (table : List ℕ) (counts : Counts) (bucket n : ℕ) (before : List ℕ) (i : ℕ) → n ≡ 0 → hashes_from table counts bucket n before i ≡ Ok before
unfolding hashes_from
hashes_end table counts bucket n before i none = rw none refl

-- ---- items

pub item_more : (table strings name : List ℕ) (n m : ℕ) (before after : List ℕ) (place text next : ℕ) → n ≡ suc m → number_in 4 table place ≡ Ok text → (text == 0) ≡ false
    → item_from table strings name text before place ≡ Ok (after, next)
    → list_from table strings name n before place ≡ list_from table strings name m after next
unfolding list_from
item_more table strings name n m before after place text next left read some item = rw (left, read, some, item) refl

pub item_fault : (table strings name : List ℕ) (n m : ℕ) (before : List ℕ) (place text : ℕ) (f : Fault) → n ≡ suc m → number_in 4 table place ≡ Ok text → (text == 0) ≡ false
    → item_from table strings name text before place ≡ Err f
    → list_from table strings name n before place ≡ Err f
unfolding list_from
item_fault table strings name n m before place text f left read some item = rw (left, read, some, item) refl

pub list_fault : (table strings name : List ℕ) (n m : ℕ) (before : List ℕ) (place : ℕ) (f : Fault) → n ≡ suc m → number_in 4 table place ≡ Err f
    → list_from table strings name n before place ≡ Err f
unfolding list_from
list_fault table strings name n m before place f left read = rw (left, read) refl

pub list_zero : (table strings name : List ℕ) (n m : ℕ) (before : List ℕ) (place text : ℕ) → n ≡ suc m → number_in 4 table place ≡ Ok text → (text == 0) ≡ true
    → list_from table strings name n before place ≡ Ok before
unfolding list_from
list_zero table strings name n m before place text left read none = rw (left, read, none) refl

pub list_end : (table strings name : List ℕ) (n : ℕ) (before : List ℕ) (place : ℕ) → n ≡ 0 → list_from table strings name n before place ≡ Ok before
unfolding list_from
list_end table strings name n before place none = rw none refl

-- ---- lists

pub lists_other : (table strings name : List ℕ) (counts : Counts) (left more : List ℕ) (before : List ℕ) (i hash : ℕ) → left ≡ hash ∷ more → (hash == hash_of name) ≡ false
    → lists_from table strings name counts left before i ≡ lists_from table strings name counts more before (i + 1)
unfolding lists_from
lists_other table strings name counts left more before i hash is other = rw (is, other) refl

pub lists_more : (table strings name : List ℕ) (counts : Counts) (left more : List ℕ) (before after : List ℕ) (i hash place : ℕ) → left ≡ hash ∷ more → (hash == hash_of name) ≡ true
    → number_in 4 table (offset_place counts i) ≡ Ok place → list_from table strings name (length table) before place ≡ Ok after
    → lists_from table strings name counts left before i ≡ lists_from table strings name counts more after (i + 1)
unfolding lists_from
lists_more table strings name counts left more before after i hash place is same read list = rw (is, same, read, list) refl

pub lists_fault : (table strings name : List ℕ) (counts : Counts) (left more : List ℕ) (before : List ℕ) (i hash place : ℕ) (f : Fault) → left ≡ hash ∷ more → (hash == hash_of name) ≡ true
    → number_in 4 table (offset_place counts i) ≡ Ok place → list_from table strings name (length table) before place ≡ Err f
    → lists_from table strings name counts left before i ≡ Err f
unfolding lists_from
lists_fault table strings name counts left more before i hash place f is same read list = rw (is, same, read, list) refl

pub offset_fault : (table strings name : List ℕ) (counts : Counts) (left more : List ℕ) (before : List ℕ) (i hash : ℕ) (f : Fault) → left ≡ hash ∷ more → (hash == hash_of name) ≡ true
    → number_in 4 table (offset_place counts i) ≡ Err f
    → lists_from table strings name counts left before i ≡ Err f
unfolding lists_from
offset_fault table strings name counts left more before i hash f is same read = rw (is, same, read) refl

pub lists_end : (table strings name : List ℕ) (counts : Counts) (left : List ℕ) (before : List ℕ) (i : ℕ) → left ≡ [] → lists_from table strings name counts left before i ≡ Ok before
unfolding lists_from
lists_end table strings name counts left before i none = rw none refl
