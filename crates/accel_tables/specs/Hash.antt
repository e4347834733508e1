-- The hash of a name, by the function of Daniel J. Bernstein (LLVM's "Source Level Debugging with LLVM", "Name Accelerator Tables").
use Rattle.std.specs.Prelude.{ℕ, ◌+◌, ◌*◌, ◌%◌, ◌^◌, List}
use Rattle.std.specs.List.{fold}
use Rattle.ds_base.specs.DwarfNumbers.{DJB_HASH_START}

-- the hash so far with one byte more
abbrev pub hashed : ℕ → ℕ → ℕ
hashed hash byte = (hash * 33 + byte) % 2 ^ 32

abbrev pub hash_of : List ℕ → ℕ
hash_of name = fold hashed DJB_HASH_START name
