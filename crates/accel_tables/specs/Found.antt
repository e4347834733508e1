-- What is found under a name in the bytes of a table, or the first fault of what is read of them.
--
-- A table is a header; of each bucket the index of its first hash; the hashes; of each hash the place of its data list; and the data lists. All its numbers are without a sign and stand with the lowest byte first. Places count bytes from the table's start.
use Rattle.std.specs.Prelude.{◌≡◌, ℕ, zero, suc, ◌+◌, ◌-◌, ◌*◌, ◌%◌, ◌==◌, not, Bool, List, [], ◌∷◌, ◌++◌, length, drop, Result, Ok, Err, nat_lt, if◌then◌else◌}
use Rattle.std.specs.Str.{bytes_eq}
use Rattle.byteorder.specs.Endian.{little_number}
use Rattle.ds_base.specs.declared.fault.Fault.{Fault}
use Rattle.ds_base.specs.declared.fault.Kind.{Kind}
use Rattle.ds_base.specs.declared.fault.Kind.TheVariants as kinds
use Rattle.ds_base.specs.declared.fault.Part.TheVariants as parts
use Rattle.ds_base.specs.declared.fault.ReadError.{ReadError}
use Rattle.ds_base.specs.declared.fault.ReadError.TheVariants as errors
use Rattle.ds_base.specs.DwarfNumbers.{APPLE_HASH_MAGIC, APPLE_HASH_VERSION, DW_ATOM_die_offset, DW_FORM_data4, DW_hash_function_djb}
use Rattle.ds_base.specs.Reading.{◌>>=◌, refuse_if, or_fault, text_of}
use Rattle.accel_tables.specs.declared.header.Counts.{Counts}
use Rattle.accel_tables.specs.Hash.{hash_of}

-- faults name the table of names, whichever table is read
abbrev pub table_fault : Kind → ℕ → Fault
table_fault kind place = record { kind = kind; section = parts.AppleNames; place = place }

-- the number in so many bytes at a place
unfoldable pub number_in : ℕ → List ℕ → ℕ → Result ℕ Fault
number_in n table place = if nat_lt (length table - place) n then Err (table_fault kinds.Truncated place) else Ok (little_number n (drop place table))

-- ---- the header

-- a field that has one value in all tables
unfoldable pub fixed_field : ℕ → ℕ → List ℕ → ℕ → Result (Unit {0}) Fault
fixed_field n value table place = do
  stored ← number_in n table place
  refuse_if (not (stored == value)) (table_fault kinds.BadTable place)

-- magic, version, hash function; how many buckets, which are some, and how many hashes
unfoldable pub counts_of : List ℕ → Result Counts Fault
counts_of table = do
  _ ← fixed_field 4 APPLE_HASH_MAGIC table 0
  _ ← fixed_field 2 APPLE_HASH_VERSION table 4
  _ ← fixed_field 2 DW_hash_function_djb table 6
  buckets ← number_in 4 table 8
  _ ← refuse_if (buckets == 0) (table_fault kinds.BadTable 8)
  hashes ← number_in 4 table 12
  Ok (record { buckets = buckets; hashes = hashes })

-- and behind these the length of what follows: the base of offsets, which is none, and one atom, an entry's place in four bytes
unfoldable pub header_of : List ℕ → Result Counts Fault
header_of table = do
  counts ← counts_of table
  _ ← fixed_field 4 12 table 16
  _ ← fixed_field 4 0 table 20
  _ ← fixed_field 4 1 table 24
  _ ← fixed_field 2 DW_ATOM_die_offset table 28
  _ ← fixed_field 2 DW_FORM_data4 table 30
  Ok counts

-- where the bucket of an index stands, the hash of an index, and the place of its data list
abbrev pub bucket_place : ℕ → ℕ
bucket_place bucket = 32 + 4 * bucket

abbrev pub hash_place : Counts → ℕ → ℕ
hash_place counts i = 32 + 4 * counts.buckets + 4 * i

abbrev pub offset_place : Counts → ℕ → ℕ
offset_place counts i = 32 + 4 * counts.buckets + 4 * counts.hashes + 4 * i

-- ---- the hashes of a bucket

-- those from an index on, behind some before: so many at most, and none behind the first that belongs to another bucket
unfoldable pub hashes_from : List ℕ → Counts → ℕ → ℕ → List ℕ → ℕ → Result (List ℕ) Fault
hashes_from table counts bucket zero before i = Ok before
hashes_from table counts bucket (suc n) before i =
    number_in 4 table (hash_place counts i) >>= λ hash.
    if (hash % counts.buckets) == bucket then hashes_from table counts bucket n (before ++ hash ∷ []) (i + 1) else Ok before

-- ---- data lists

-- an entry put behind others, if it is wanted
abbrev pub with_entry : Bool → List ℕ → ℕ → List ℕ
with_entry wanted entries entry = if wanted then entries ++ entry ∷ [] else entries

-- so many entries, put behind others if they are wanted, and the place behind them
unfoldable pub entries_from : List ℕ → Bool → ℕ → List ℕ → ℕ → Result (List ℕ × ℕ) Fault
entries_from table wanted zero before place = Ok (before, place)
entries_from table wanted (suc n) before place =
    number_in 4 table place >>= λ entry. entries_from table wanted n (with_entry wanted before entry) (place + 4)

-- an item of a data list: a text by its place, a count, and so many entries, which are wanted if the text is the name
unfoldable pub item_from : List ℕ → List ℕ → List ℕ → ℕ → List ℕ → ℕ → Result (List ℕ × ℕ) Fault
item_from table strings name text before place = do
  spelled ← or_fault (text_of strings text) (table_fault kinds.BadTable place)
  count ← number_in 4 table (place + 4)
  entries_from table (bytes_eq spelled name) count before (place + 8)

-- The items of a data list up to its end, which is a zero. It has no more items than the table has bytes.
unfoldable pub list_from : List ℕ → List ℕ → List ℕ → ℕ → List ℕ → ℕ → Result (List ℕ) Fault
list_from table strings name zero before place = Ok before
list_from table strings name (suc n) before place =
    number_in 4 table place >>= λ text.
    if text == 0 then Ok before
    else (item_from table strings name text before place >>= λ item. list_from table strings name n item.0 item.1)

-- the data lists of those hashes, the first of which has an index, that are the one which is looked up
unfoldable pub lists_from : List ℕ → List ℕ → List ℕ → Counts → List ℕ → List ℕ → ℕ → Result (List ℕ) Fault
lists_from table strings name counts [] before i = Ok before
lists_from table strings name counts (hash ∷ hashes) before i =
    if hash == hash_of name then
    (number_in 4 table (offset_place counts i) >>= λ place. list_from table strings name (length table) before place >>= λ entries. lists_from table strings name counts hashes entries (i + 1))
    else lists_from table strings name counts hashes before (i + 1)

-- ---- all of it

-- The entries under a name: those that the data lists of its hash have under this text. The texts are those of a string section.
unfoldable pub found : List ℕ → List ℕ → List ℕ → Result (List ℕ) Fault
found table strings name = do
  counts ← header_of table
  first ← number_in 4 table (bucket_place (hash_of name % counts.buckets))
  hashes ← hashes_from table counts (hash_of name % counts.buckets) (counts.hashes - first) [] first
  lists_from table strings name counts hashes [] first

-- What a walk answered: the place behind what was read, with what was found so far, unless memory ran out.
abbrev pub Walks : Result ℕ ReadError → List ℕ → Result (List ℕ × ℕ) Fault → Type 0
Walks (Ok place) entries read = read ≡ Ok (entries, place)
Walks (Err (errors.Faulty f)) entries read = read ≡ Err f
Walks (Err errors.NoMemory) entries read = Unit {0}

-- the same of a walk that answers no place
abbrev pub Collects : Result (Unit {0}) ReadError → List ℕ → Result (List ℕ) Fault → Type 0
Collects (Ok _) entries read = read ≡ Ok entries
Collects (Err (errors.Faulty f)) entries read = read ≡ Err f
Collects (Err errors.NoMemory) entries read = Unit {0}
