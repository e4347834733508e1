-- What is said of the world outside: files with names, a sink for messages, and how often either was called and failed.
use Rattle.std.specs.Prelude.{◌≡◌, ◌≢◌, ℕ, ◌+◌, ◌-◌, ◌^◌, ◌<◌, ◌≤◌, min, List, ◌++◌, length, take, Option, Some, None, Result, Ok, Err}
use Rattle.std.specs.Ordering.{nat_cmp}
use Rattle.std.specs.Cmp.Lexicographic.{slice_cmp}
use Rattle.std.specs.FinMap as map
use Rattle.ds_files.specs.declared.files.FileError.{FileError}
use Rattle.ds_files.specs.declared.files.FileError.TheVariants as errors

-- the bytes of each file, by the bytes of its name
abbrev pub Contents : Type 0
Contents = map.FinMap (slice_cmp nat_cmp) (List ℕ)

-- how often files were asked for, and how often each thing went wrong, from 0
pub record Counts : Type 0 where
  -- calls of read and replace, however they ended
  pub calls : ℕ
  -- calls that failed
  pub faults : ℕ
  -- reads of a file that was not there
  pub misses : ℕ
  -- reads of a file that was longer than asked
  pub longs : ℕ

-- no count fell
abbrev pub IsLater : Counts → Counts → Type 0
IsLater before now = (before.calls ≤ now.calls) × (before.faults ≤ now.faults) × (before.misses ≤ now.misses) × (before.longs ≤ now.longs)

-- the count after one more; at 2 ^ 64 - 1, its last value, it stands still
abbrev pub one_more : ℕ → ℕ
one_more n = min (n + 1) (2 ^ 64 - 1)

-- one more call is counted
abbrev pub called : Counts → Counts
called c = record c { calls = one_more c.calls }

-- there was one call
abbrev pub IsOneCall : Counts → Counts → Type 0
IsOneCall before now = now.calls ≡ one_more before.calls

-- the count rose; one that stands at its last value counts as risen
abbrev pub Rose : ℕ → ℕ → Type 0
Rose before now = one_more before ≤ now

-- the fact holds of what is told; where nothing is told, it says nothing
abbrev pub Told : {A : Type 0} → Option A → (A → Type 0) → Type 0
Told None fact = Unit {0}
Told (Some it) fact = fact it

-- the file is there and has more than `most` bytes
abbrev pub IsLong : List ℕ → ℕ → Contents → Type 0
IsLong name most files = (bytes : List ℕ) × (map.get files name ≡ Some bytes) × (most < length bytes)

-- neither a failure nor a missing file was counted
abbrev pub IsQuiet : Counts → Counts → Type 0
IsQuiet before now = (Rose before.faults now.faults → ⊥) × (Rose before.misses now.misses → ⊥)

-- Why a read of at most `most` bytes did not answer the file.
abbrev pub ReadFails : Option Contents → List ℕ → ℕ → Counts → Counts → FileError → Type 0
ReadFails files name most before now errors.Missing =
    Rose before.misses now.misses × Told files (λ m. map.get m name ≡ None)
ReadFails files name most before now errors.Failed = Rose before.faults now.faults
ReadFails files name most before now errors.TooLong =
    Rose before.longs now.longs × Told files (λ m. IsLong name most m × IsQuiet before now)
ReadFails files name most before now errors.NoMemory = now ≡ called before

-- the answer to a read of a file that is too long
abbrev pub RefusesLong : Result (List ℕ) FileError → Type 0
RefusesLong (Ok bytes) = ⊥
RefusesLong (Err errors.Missing) = ⊥
RefusesLong (Err errors.Failed) = ⊥
RefusesLong (Err errors.TooLong) = Unit {0}
RefusesLong (Err errors.NoMemory) = Unit {0}

-- every file but the named one is as before
abbrev pub OthersKept : List ℕ → Option Contents → Option Contents → Type 0
OthersKept name None None = Unit {0}
OthersKept name (Some before) (Some now) = (other : List ℕ) → other ≢ name → map.get now other ≡ map.get before other
OthersKept name None (Some now) = ⊥
OthersKept name (Some before) None = ⊥

-- Why a file was not replaced, and what stands of the files then.
abbrev pub ReplaceFails : Option Contents → Option Contents → List ℕ → Counts → Counts → FileError → Type 0
ReplaceFails old new name before now errors.Missing = ⊥
ReplaceFails old new name before now errors.Failed = Rose before.faults now.faults × OthersKept name old new
ReplaceFails old new name before now errors.TooLong = ⊥
ReplaceFails old new name before now errors.NoMemory = (new ≡ old) × (now ≡ called before)

-- the sink took the first of the bytes, perhaps none and perhaps all
abbrev pub PrefixAdded : List ℕ → Option (List ℕ) → Option (List ℕ) → Type 0
PrefixAdded bytes None None = Unit {0}
PrefixAdded bytes (Some before) (Some now) = (n : ℕ) × (now ≡ before ++ take n bytes)
PrefixAdded bytes None (Some now) = ⊥
PrefixAdded bytes (Some before) None = ⊥
