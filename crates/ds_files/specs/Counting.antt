-- How the implementations of the files and of the sink count calls, and what went wrong.
use Rattle.std.specs.Prelude.{ℕ, ◌-◌, ◌^◌, Result, Ok, Err, Bool, true, false, ◌||◌, nat_le}
use Rattle.ds_files.specs.Outside.{Counts, called, one_more}
use Rattle.ds_files.specs.declared.files.FileError.{FileError}
use Rattle.ds_files.specs.declared.files.FileError.TheVariants as errors

-- the count of failures or that of missing files stands at its last value, and so counts as risen
abbrev pub is_full : Counts → Bool
is_full c = nat_le (2 ^ 64 - 1) c.faults || nat_le (2 ^ 64 - 1) c.misses

-- no call yet
abbrev pub no_counts : Counts
no_counts = record { calls = 0; faults = 0; misses = 0; longs = 0 }

-- the counts after an answer with this error
abbrev pub counted : FileError → Counts → Counts
counted errors.Missing c = record c { misses = one_more c.misses }
counted errors.Failed c = record c { faults = one_more c.faults }
counted errors.TooLong c = record c { longs = one_more c.longs }
counted errors.NoMemory c = c

-- the counts after a call that gave this answer
abbrev pub counts_after : {A : Type 0} → Result A FileError → Counts → Counts
counts_after (Ok x) c = called c
counts_after (Err e) c = counted e (called c)

-- how often a sink was called, and how often it failed
pub record PutCounts : Type 0 where
  pub calls : ℕ
  pub faults : ℕ

-- no call yet
abbrev pub no_puts : PutCounts
no_puts = record { calls = 0; faults = 0 }

-- the counts after a call of put that took the piece, or did not
abbrev pub counts_after_put : Bool → PutCounts → PutCounts
counts_after_put true c = record c { calls = one_more c.calls }
counts_after_put false c = record { calls = one_more c.calls; faults = one_more c.faults }
