-- Tables byte for byte, and what is found in them.
use Rattle.std.proofs.Common.{◌≡◌, ℕ, List, [], ◌∷◌, ◌++◌, take, replicate, Ok, Err, refl}
use Rattle.ds_base.specs.declared.fault.Kind.TheVariants as kinds
use Rattle.ds_base.specs.Reading.{text_of}
use Rattle.ds_base.specs.Room.{put}
use Rattle.accel_tables.specs.declared.rows.Row.{Row}
use Rattle.accel_tables.specs.Hash.{hash_of}
use Rattle.accel_tables.specs.Table.{bucket_count, table_of}
use Rattle.accel_tables.specs.Found.{counts_of, entries_from, fixed_field, found, hashes_from, header_of, item_from, list_from, lists_from, number_in, table_fault}

-- what reading computes with
reading : Unit {0}
unfolding counts_of entries_from fixed_field found hashes_from header_of item_from list_from lists_from number_in text_of
reading = tt

abbrev row : ℕ → ℕ → ℕ → Row
row hash text entry = record { hash = hash; text = text; entry = entry }

-- ---- one name: "main" at 4, the entry at 0x1e

main : hash_of (0x6d ∷ 0x61 ∷ 0x69 ∷ 0x6e ∷ []) ≡ 0x7c9a7f6a
main = refl

one_name : table_of (row 0x7c9a7f6a 4 0x1e ∷ [])
    ≡ 0x48 ∷ 0x53 ∷ 0x41 ∷ 0x48 ∷ 0x01 ∷ 0x00 ∷ 0x00 ∷ 0x00 ∷ 0x01 ∷ 0x00 ∷ 0x00 ∷ 0x00 ∷ 0x01 ∷ 0x00 ∷ 0x00 ∷ 0x00 ∷ 0x0c ∷ 0x00 ∷ 0x00 ∷ 0x00 ∷ 0x00 ∷ 0x00 ∷ 0x00 ∷ 0x00 ∷ 0x01 ∷ 0x00 ∷ 0x00 ∷ 0x00 ∷ 0x01 ∷ 0x00 ∷ 0x06 ∷ 0x00 ∷ 0x00 ∷ 0x00 ∷ 0x00 ∷ 0x00 ∷ 0x6a ∷ 0x7f ∷ 0x9a ∷ 0x7c ∷ 0x2c ∷ 0x00 ∷ 0x00 ∷ 0x00 ∷ 0x04 ∷ 0x00 ∷ 0x00 ∷ 0x00 ∷ 0x01 ∷ 0x00 ∷ 0x00 ∷ 0x00 ∷ 0x1e ∷ 0x00 ∷ 0x00 ∷ 0x00 ∷ 0x00 ∷ 0x00 ∷ 0x00 ∷ 0x00 ∷ []
one_name = refl

-- ---- two names of one hash: "Ab" at 9, the entry at 0x40, and "BA" at 12, the entry at 0x50

abbrev ab : List ℕ
ab = 0x41 ∷ 0x62 ∷ []

abbrev ba : List ℕ
ba = 0x42 ∷ 0x41 ∷ []

same_hash : hash_of ab ≡ hash_of ba
same_hash = refl

the_hash : hash_of ab ≡ 0x00597308
the_hash = refl

abbrev strings : List ℕ
strings = replicate 9 0 ++ (ab ++ 0 ∷ (ba ++ 0 ∷ []))

abbrev both : List ℕ
both = 0x48 ∷ 0x53 ∷ 0x41 ∷ 0x48 ∷ 0x01 ∷ 0x00 ∷ 0x00 ∷ 0x00 ∷ 0x01 ∷ 0x00 ∷ 0x00 ∷ 0x00 ∷ 0x01 ∷ 0x00 ∷ 0x00 ∷ 0x00 ∷ 0x0c ∷ 0x00 ∷ 0x00 ∷ 0x00 ∷ 0x00 ∷ 0x00 ∷ 0x00 ∷ 0x00 ∷ 0x01 ∷ 0x00 ∷ 0x00 ∷ 0x00 ∷ 0x01 ∷ 0x00 ∷ 0x06 ∷ 0x00 ∷ 0x00 ∷ 0x00 ∷ 0x00 ∷ 0x00 ∷ 0x08 ∷ 0x73 ∷ 0x59 ∷ 0x00 ∷ 0x2c ∷ 0x00 ∷ 0x00 ∷ 0x00 ∷ 0x09 ∷ 0x00 ∷ 0x00 ∷ 0x00 ∷ 0x01 ∷ 0x00 ∷ 0x00 ∷ 0x00 ∷ 0x40 ∷ 0x00 ∷ 0x00 ∷ 0x00 ∷ 0x0c ∷ 0x00 ∷ 0x00 ∷ 0x00 ∷ 0x01 ∷ 0x00 ∷ 0x00 ∷ 0x00 ∷ 0x50 ∷ 0x00 ∷ 0x00 ∷ 0x00 ∷ 0x00 ∷ 0x00 ∷ 0x00 ∷ 0x00 ∷ []

two_names : table_of (row 0x00597308 12 0x50 ∷ row 0x00597308 9 0x40 ∷ row 0x00597308 12 0x50 ∷ []) ≡ both
two_names = refl

found_ab : found both strings ab ≡ Ok (0x40 ∷ [])
unfolding reading
found_ab = refl

found_ba : found both strings ba ≡ Ok (0x50 ∷ [])
unfolding reading
found_ba = refl

-- another hash in the one bucket
found_b : found both strings (0x42 ∷ []) ≡ Ok []
unfolding reading
found_b = refl

-- ---- what is at fault

header_is_cut : found (take 19 both) strings ab ≡ Err (table_fault kinds.Truncated 16)
unfolding reading
header_is_cut = refl

end_is_cut : found (take 71 both) strings ab ≡ Err (table_fault kinds.Truncated 68)
unfolding reading
end_is_cut = refl

-- the data list of another hash isn't read
not_read : found (take 40 both) strings (0x42 ∷ []) ≡ Ok []
unfolding reading
not_read = refl

other_magic : found (put both 0 (0 ∷ [])) strings ab ≡ Err (table_fault kinds.BadTable 0)
unfolding reading
other_magic = refl

no_buckets : found (put both 8 (0 ∷ [])) strings ab ≡ Err (table_fault kinds.BadTable 8)
unfolding reading
no_buckets = refl

-- tried before the count of hashes is read
no_buckets_of_12_bytes : found (put (take 12 both) 8 (0 ∷ [])) strings ab ≡ Err (table_fault kinds.BadTable 8)
unfolding reading
no_buckets_of_12_bytes = refl

two_atoms : found (put both 24 (2 ∷ [])) strings ab ≡ Err (table_fault kinds.BadTable 24)
unfolding reading
two_atoms = refl

-- a text that isn't ended, and one behind the section, each before its count is read
text_without_end : found both (take 14 strings) ab ≡ Err (table_fault kinds.BadTable 56)
unfolding reading
text_without_end = refl

text_behind : found (take 60 (put both 56 (15 ∷ []))) strings ab ≡ Err (table_fault kinds.BadTable 56)
unfolding reading
text_behind = refl

count_passes_the_table : found (put both 51 (0xff ∷ [])) strings ab ≡ Err (table_fault kinds.Truncated 72)
unfolding reading
count_passes_the_table = refl

-- ---- how many buckets there are

buckets : bucket_count 1 ∷ bucket_count 16 ∷ bucket_count 17 ∷ bucket_count 1024 ∷ bucket_count 1025 ∷ [] ≡ 1 ∷ 16 ∷ 8 ∷ 512 ∷ 256 ∷ []
buckets = refl
