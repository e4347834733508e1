-- Files that are kept in memory, and which calls of theirs fail.
use Rattle.std.specs.Prelude.{◌≡◌, ℕ, Bool, if◌then◌else◌, nat_eq, nat_lt, List, length, Option, Some, None, Result, Ok, Err, IsOk}
use Rattle.std.specs.Prelude.{refl}
use Rattle.std.specs.Coded.{Coded, code_by, coded×, coded_ℕ, coded_list}
use Rattle.std.specs.List.{list_any}
use Rattle.std.specs.FinMap as map
use Rattle.ds_files.specs.Outside.{Contents, Counts, called, one_more}
use Rattle.ds_files.specs.Counting.{counted, counts_after, no_counts, is_full}
use Rattle.ds_files.specs.declared.files.FileError.{FileError}
use Rattle.ds_files.specs.declared.files.FileError.TheVariants as errors

-- the files, what was counted, and the numbers of the calls of read and replace that fail
pub record StoredFiles : Type 0 where
  pub files : Contents
  pub counts : Counts
  pub failing : List ℕ

-- counts and files as pairs of what they are made of, so that they can be a model's value
abbrev pub counts_code : Coded Counts
counts_code = code_by (ℕ × (ℕ × (ℕ × ℕ))) (coded× coded_ℕ (coded× coded_ℕ (coded× coded_ℕ coded_ℕ)))
    (λ c. (c.calls, (c.faults, (c.misses, c.longs))))
    (λ p. record { calls = p.0; faults = p.1.0; misses = p.1.1.0; longs = p.1.1.1 }) (λ _. refl)

abbrev pub stored_files_code : Coded StoredFiles
stored_files_code = code_by (Contents × (Counts × List ℕ))
    (coded× (map.code (coded_list coded_ℕ) (coded_list coded_ℕ)) (coded× counts_code (coded_list coded_ℕ)))
    (λ s. (s.files, (s.counts, s.failing)))
    (λ p. record { files = p.0; counts = p.1.0; failing = p.1.1 }) (λ _. refl)

-- no file, and no call yet
abbrev pub no_files : List ℕ → StoredFiles
no_files failing = record { files = map.empty; counts = no_counts; failing = failing }

-- the name has these bytes
abbrev pub set_file : List ℕ → List ℕ → StoredFiles → StoredFiles
set_file name bytes s = record s { files = map.insert s.files name bytes }

-- the next call of read or replace fails
abbrev pub fails_next : StoredFiles → Bool
fails_next s = list_any (λ n. nat_eq n (one_more s.counts.calls)) s.failing

-- one more call is counted
abbrev pub call_more : StoredFiles → StoredFiles
call_more s = record s { counts = called s.counts }

-- the error of a file that is too long
abbrev pub long_error : Counts → FileError
long_error c = if is_full c then errors.Failed else errors.TooLong

-- what a read of at most `most` bytes makes of the file
abbrev pub file_of : Counts → ℕ → Option (List ℕ) → Result (List ℕ) FileError
file_of c most None = Err errors.Missing
file_of c most (Some bytes) = if nat_lt most (length bytes) then Err (long_error c) else Ok bytes

-- what a read answers, where memory is ample
abbrev pub read_of : StoredFiles → List ℕ → ℕ → Result (List ℕ) FileError
read_of s name most = if fails_next s then Err errors.Failed else file_of s.counts most (map.get s.files name)

-- what a replacement answers, where memory is ample
abbrev pub replace_of : StoredFiles → Result (Unit {0}) FileError
replace_of s = if fails_next s then Err errors.Failed else Ok tt

-- the call answered this; or memory ran out, and with ample memory it would have gone well
abbrev pub Answers : {A : Type 0} → Result A FileError → Result A FileError → Type 0
Answers (Ok x) ample = ample ≡ Ok x
Answers (Err errors.Missing) ample = ample ≡ Err errors.Missing
Answers (Err errors.Failed) ample = ample ≡ Err errors.Failed
Answers (Err errors.TooLong) ample = ample ≡ Err errors.TooLong
Answers (Err errors.NoMemory) ample = IsOk ample

-- what stands after a call of read that gave this answer
abbrev pub after_read : {A : Type 0} → Result A FileError → StoredFiles → StoredFiles
after_read answer s = record s { counts = counts_after answer s.counts }

-- what stands after a call of replace that gave this answer
abbrev pub after_replace : {A : Type 0} → Result A FileError → List ℕ → List ℕ → StoredFiles → StoredFiles
after_replace (Ok x) name bytes s = set_file name bytes (call_more s)
after_replace (Err e) name bytes s = record s { counts = counted e (called s.counts) }
