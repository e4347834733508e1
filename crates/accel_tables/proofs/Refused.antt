-- Of which kinds the faults of a look-up are.
use Rattle.std.proofs.Common.{◌≡◌, ℕ, zero, suc, ◌+◌, ◌-◌, ◌%◌, ◌==◌, not, Bool, List, [], ◌∷◌, ◌++◌, length, drop, Ok, Err, refl, arith}
use Rattle.std.specs.Prelude.{nat_lt, if◌then◌else◌}
use Rattle.std.specs.List.{Contains}
use Rattle.std.specs.Str.{bytes_eq}
use Rattle.byteorder.specs.Endian.{little_number}
use Rattle.ds_base.specs.declared.fault.Fault.{Fault}
use Rattle.ds_base.specs.declared.fault.Kind.{Kind}
use Rattle.ds_base.specs.declared.fault.Kind.TheVariants as kinds
use Rattle.ds_base.specs.DwarfNumbers.{APPLE_HASH_MAGIC, APPLE_HASH_VERSION, DW_ATOM_die_offset, DW_FORM_data4, DW_hash_function_djb}
use Rattle.ds_base.specs.Reading.{◌>>=◌, refuse_if, or_fault, text_of}
use Rattle.ds_base.proofs.FaultKinds.{FaultsAre, ok_kinds, err_kinds, bind_kinds, refuse_kinds, either_kinds, found_kinds}
use Rattle.accel_tables.specs.declared.header.Counts.{Counts}
use Rattle.accel_tables.specs.Hash.{hash_of}
use Rattle.accel_tables.specs.Found.{bucket_place, counts_of, entries_from, fixed_field, found, hash_place, hashes_from, header_of, item_from, list_from, lists_from, number_in, offset_place, table_fault, with_entry}

abbrev OfTable : Kind → Type 0
OfTable = Contains (kinds.Truncated ∷ kinds.BadTable ∷ [])

number_kinds : (n : ℕ) (table : List ℕ) (place : ℕ) → FaultsAre OfTable (number_in n table place)
unfolding number_in
number_kinds n table place =
    either_kinds OfTable (nat_lt (length table - place) n) (Err (table_fault kinds.Truncated place)) (Ok (little_number n (drop place table)))
    (err_kinds OfTable (table_fault kinds.Truncated place) (0, omega arith, refl)) (ok_kinds OfTable (little_number n (drop place table)))

field_kinds : (n value : ℕ) (table : List ℕ) (place : ℕ) → FaultsAre OfTable (fixed_field n value table place)
unfolding fixed_field
field_kinds n value table place =
    bind_kinds OfTable (number_in n table place) (λ stored. refuse_if (not (stored == value)) (table_fault kinds.BadTable place)) (number_kinds n table place)
    (λ stored. refuse_kinds OfTable (not (stored == value)) (table_fault kinds.BadTable place) (1, omega arith, refl))

counts_kinds : (table : List ℕ) → FaultsAre OfTable (counts_of table)
unfolding counts_of
counts_kinds table =
    bind_kinds OfTable (fixed_field 4 APPLE_HASH_MAGIC table 0) _ (field_kinds 4 APPLE_HASH_MAGIC table 0)
    (λ _. bind_kinds OfTable (fixed_field 2 APPLE_HASH_VERSION table 4) _ (field_kinds 2 APPLE_HASH_VERSION table 4)
    (λ _. bind_kinds OfTable (fixed_field 2 DW_hash_function_djb table 6) _ (field_kinds 2 DW_hash_function_djb table 6)
    (λ _. bind_kinds OfTable (number_in 4 table 8) _ (number_kinds 4 table 8)
    (λ buckets. bind_kinds OfTable (refuse_if (buckets == 0) (table_fault kinds.BadTable 8)) _ (refuse_kinds OfTable (buckets == 0) (table_fault kinds.BadTable 8) (1, omega arith, refl))
    (λ _. bind_kinds OfTable (number_in 4 table 12) _ (number_kinds 4 table 12) (λ hashes. ok_kinds OfTable _))))))

header_kinds : (table : List ℕ) → FaultsAre OfTable (header_of table)
unfolding header_of
header_kinds table =
    bind_kinds OfTable (counts_of table) _ (counts_kinds table)
    (λ counts. bind_kinds OfTable (fixed_field 4 12 table 16) _ (field_kinds 4 12 table 16)
    (λ _. bind_kinds OfTable (fixed_field 4 0 table 20) _ (field_kinds 4 0 table 20)
    (λ _. bind_kinds OfTable (fixed_field 4 1 table 24) _ (field_kinds 4 1 table 24)
    (λ _. bind_kinds OfTable (fixed_field 2 DW_ATOM_die_offset table 28) _ (field_kinds 2 DW_ATOM_die_offset table 28)
    (λ _. bind_kinds OfTable (fixed_field 2 DW_FORM_data4 table 30) _ (field_kinds 2 DW_FORM_data4 table 30) (λ _. ok_kinds OfTable counts))))))

hashes_kinds : (table : List ℕ) (counts : Counts) (bucket n : ℕ) (before : List ℕ) (i : ℕ) → FaultsAre OfTable (hashes_from table counts bucket n before i)
unfolding hashes_from
hashes_kinds table counts bucket zero before i = ok_kinds OfTable before
hashes_kinds table counts bucket (suc n) before i =
    bind_kinds OfTable (number_in 4 table (hash_place counts i)) (λ hash. if (hash % counts.buckets) == bucket then hashes_from table counts bucket n (before ++ hash ∷ []) (i + 1) else Ok before) (number_kinds 4 table (hash_place counts i))
    (λ hash. either_kinds OfTable ((hash % counts.buckets) == bucket) _ _ (hashes_kinds table counts bucket n (before ++ hash ∷ []) (i + 1)) (ok_kinds OfTable before))

entries_kinds : (table : List ℕ) (wanted : Bool) (n : ℕ) (before : List ℕ) (place : ℕ) → FaultsAre OfTable (entries_from table wanted n before place)
unfolding entries_from
entries_kinds table wanted zero before place = ok_kinds OfTable (before, place)
entries_kinds table wanted (suc n) before place =
    bind_kinds OfTable (number_in 4 table place) (λ entry. entries_from table wanted n (with_entry wanted before entry) (place + 4)) (number_kinds 4 table place) (λ entry. entries_kinds table wanted n (with_entry wanted before entry) (place + 4))

item_kinds : (table strings name : List ℕ) (text : ℕ) (before : List ℕ) (place : ℕ) → FaultsAre OfTable (item_from table strings name text before place)
unfolding item_from
item_kinds table strings name text before place =
    bind_kinds OfTable (or_fault (text_of strings text) (table_fault kinds.BadTable place)) _ (found_kinds OfTable (text_of strings text) (table_fault kinds.BadTable place) (1, omega arith, refl))
    (λ spelled. bind_kinds OfTable (number_in 4 table (place + 4)) _ (number_kinds 4 table (place + 4)) (λ count. entries_kinds table (bytes_eq spelled name) count before (place + 8)))

list_kinds : (table strings name : List ℕ) (n : ℕ) (before : List ℕ) (place : ℕ) → FaultsAre OfTable (list_from table strings name n before place)
unfolding list_from
list_kinds table strings name zero before place = ok_kinds OfTable before
list_kinds table strings name (suc n) before place =
    bind_kinds OfTable (number_in 4 table place) (λ text. if text == 0 then Ok before else (item_from table strings name text before place >>= λ item. list_from table strings name n item.0 item.1)) (number_kinds 4 table place)
    (λ text. either_kinds OfTable (text == 0) _ _ (ok_kinds OfTable before)
    (bind_kinds OfTable (item_from table strings name text before place) (λ item. list_from table strings name n item.0 item.1) (item_kinds table strings name text before place) (λ item. list_kinds table strings name n item.0 item.1)))

lists_kinds : (table strings name : List ℕ) (counts : Counts) (hashes before : List ℕ) (i : ℕ) → FaultsAre OfTable (lists_from table strings name counts hashes before i)
unfolding lists_from
lists_kinds table strings name counts [] before i = ok_kinds OfTable before
lists_kinds table strings name counts (hash ∷ hashes) before i =
    either_kinds OfTable (hash == hash_of name) _ _
    (bind_kinds OfTable (number_in 4 table (offset_place counts i)) (λ place. list_from table strings name (length table) before place >>= λ entries. lists_from table strings name counts hashes entries (i + 1)) (number_kinds 4 table (offset_place counts i))
    (λ place. bind_kinds OfTable (list_from table strings name (length table) before place) (λ entries. lists_from table strings name counts hashes entries (i + 1)) (list_kinds table strings name (length table) before place)
    (λ entries. lists_kinds table strings name counts hashes entries (i + 1))))
    (lists_kinds table strings name counts hashes before (i + 1))

pub found_faults : (table strings name : List ℕ) (f : Fault) → found table strings name ≡ Err f → OfTable f.kind
unfolding found
found_faults table strings name =
    bind_kinds OfTable (header_of table) _ (header_kinds table)
    (λ counts. bind_kinds OfTable (number_in 4 table (bucket_place (hash_of name % counts.buckets))) _ (number_kinds 4 table (bucket_place (hash_of name % counts.buckets)))
    (λ first. bind_kinds OfTable (hashes_from table counts (hash_of name % counts.buckets) (counts.hashes - first) [] first) _ (hashes_kinds table counts (hash_of name % counts.buckets) (counts.hashes - first) [] first)
    (λ hashes. lists_kinds table strings name counts hashes [] first)))
