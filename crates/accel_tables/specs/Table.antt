-- The bytes of a table.
--
-- Its rows are a name's hash, the place of its text in the string section, and the place of an entry of that name in the information section. They stand by bucket, hash, text and entry, each once. Neighbours of one hash are a data list, and in it neighbours of one text are an item.
use Rattle.std.specs.Prelude.{◌≡◌, ◌<◌, ◌≤◌, ℕ, ◌+◌, ◌-◌, ◌*◌, ◌/◌, ◌%◌, ◌^◌, ◌==◌, List, Result, Ok, Err, [], ◌∷◌, ◌++◌, length, map, nat_lt, if◌then◌else◌}
use Rattle.std.specs.List.{flat_map, range_with_len}
use Rattle.byteorder.specs.Endian.{little_bytes}
use Rattle.ds_base.specs.DwarfNumbers.{APPLE_HASH_MAGIC, APPLE_HASH_VERSION, DW_ATOM_die_offset, DW_FORM_data4, DW_hash_function_djb}
use Rattle.ds_base.specs.InOrder.{in_order}
use Rattle.accel_tables.specs.declared.rows.Entered.{Entered}
use Rattle.accel_tables.specs.declared.rows.Row.{Row}
use Rattle.accel_tables.specs.declared.rows.TableError.{TableError}
use Rattle.accel_tables.specs.declared.rows.TableError.TheVariants as errors
use Rattle.accel_tables.specs.Hash.{hash_of}

-- ---- the order of rows

-- so many distinct hashes have so many buckets
abbrev pub bucket_count : ℕ → ℕ
bucket_count hashes = if nat_lt 1024 hashes then hashes / 4 else if nat_lt 16 hashes then hashes / 2 else hashes

-- how many distinct hashes the rows have
abbrev pub hash_count : List Row → ℕ
hash_count rows = length (in_order (λ hash. hash) (map (λ r. r.hash) rows))

-- a row's place in the order: by bucket, hash, text and entry, each below 2^32
abbrev pub rank : ℕ → Row → ℕ
rank buckets r = (((r.hash % buckets) * 2 ^ 32 + r.hash) * 2 ^ 32 + r.text) * 2 ^ 32 + r.entry

-- neighbours of one key in groups, none of which is empty
abbrev pub with_group : {A : Type 0} → (A → ℕ) → A → List (List A) → List (List A)
with_group key x [] = (x ∷ []) ∷ []
with_group key x ([] ∷ groups) = (x ∷ []) ∷ groups
with_group key x ((y ∷ ys) ∷ groups) = if key x == key y then (x ∷ y ∷ ys) ∷ groups else (x ∷ []) ∷ (y ∷ ys) ∷ groups

abbrev pub groups : {A : Type 0} → (A → ℕ) → List A → List (List A)
groups key [] = []
groups key (x ∷ xs) = with_group key x (groups key xs)

-- the key of a group
abbrev pub key_of : {A : Type 0} → (A → ℕ) → List A → ℕ
key_of key [] = 0
key_of key (x ∷ xs) = key x

-- ---- data lists

abbrev pub word : ℕ → List ℕ
word n = little_bytes 4 n

-- an item: the text's place, how many entries there are, and these
abbrev pub item_bytes : List Row → List ℕ
item_bytes rows = word (key_of (λ r. r.text) rows) ++ (word (length rows) ++ flat_map (λ r. word r.entry) rows)

-- the items of a hash, and the zero that ends them
abbrev pub list_bytes : List Row → List ℕ
list_bytes rows = flat_map item_bytes (groups (λ r. r.text) rows) ++ word 0

-- ---- the table

abbrev pub header_bytes : ℕ → ℕ → List ℕ
header_bytes buckets hashes =
    word APPLE_HASH_MAGIC ++ (little_bytes 2 APPLE_HASH_VERSION ++ (little_bytes 2 DW_hash_function_djb ++ (word buckets ++ (word hashes ++ (word 12 ++
    (word 0 ++ (word 1 ++ (little_bytes 2 DW_ATOM_die_offset ++ little_bytes 2 DW_FORM_data4))))))))

-- the index of the first hash of a bucket, or the largest number where it has none; the first of these hashes has an index
abbrev pub first_in : ℕ → ℕ → List ℕ → ℕ → ℕ
first_in buckets i [] bucket = 0xffffffff
first_in buckets i (hash ∷ hashes) bucket = if (hash % buckets) == bucket then i else first_in buckets (i + 1) hashes bucket

abbrev pub firsts : ℕ → List ℕ → List ℕ
firsts buckets hashes = map (first_in buckets 0 hashes) (range_with_len 0 buckets)

-- where data lists begin, counted from the first of them, if these begin at a place
abbrev pub starts_from : ℕ → List (List ℕ) → List ℕ
starts_from at [] = []
starts_from at (list ∷ lists) = at ∷ starts_from (at + length list) lists

-- where the data lists of a table begin
abbrev pub data_place : ℕ → ℕ → ℕ
data_place buckets hashes = 32 + 4 * buckets + 8 * hashes

-- the header; of each bucket the index of its first hash; the hashes; of each the place of its data list, by where that begins among them; and the data lists
abbrev pub parts_with : List ℕ → List ℕ → List ℕ → List ℕ → List ℕ
parts_with indices hashes starts bytes =
    header_bytes (length indices) (length hashes)
    ++ (flat_map word indices ++ (flat_map word hashes ++ (flat_map (λ start. word (data_place (length indices) (length hashes) + start)) starts ++ bytes)))

-- the same for so many buckets
abbrev pub table_with : ℕ → List ℕ → List ℕ → List ℕ → List ℕ
table_with buckets hashes starts bytes = parts_with (firsts buckets hashes) hashes starts bytes

-- the table of the rows of each hash
abbrev pub table_by_hash : ℕ → List (List Row) → List ℕ
table_by_hash buckets rows = table_with buckets (map (key_of (λ r. r.hash)) rows) (starts_from 0 (map list_bytes rows)) (flat_map list_bytes rows)

-- the table of rows: with their order, which the number of buckets decides, by hash
abbrev pub table_for : ℕ → List Row → List ℕ
table_for buckets rows = table_by_hash buckets (groups (λ r. r.hash) (in_order (rank buckets) rows))

abbrev pub table_of : List Row → List ℕ
table_of rows = table_for (bucket_count (hash_count rows)) rows

-- the row of a name and its entry
abbrev pub row_of : Entered → Row
row_of item = record { hash = hash_of item.name.now; text = item.text; entry = item.entry }

-- What a call answered for rows: their table, which has less than 2^32 - 1 bytes, or how many it would have.
abbrev pub Tables : List Row → Result (List ℕ) TableError → Type 0
Tables rows (Ok table) = (table ≡ table_of rows) × (length (table_of rows) < 2 ^ 32 - 1)
Tables rows (Err (errors.Section size)) = (size ≡ length (table_of rows)) × (2 ^ 32 - 1 ≤ length (table_of rows))
Tables rows (Err errors.NoMemory) = Unit {0}
