-- Fields of a record, cut from its bytes at the offsets of mach-o/loader.h and mach-o/nlist.h.
use Rattle.std.specs.Prelude.{ℕ, ◌==◌, not, Bool, List, take, drop}
use Rattle.std.specs.List.{prefix_len}
use Rattle.std.specs.Str.{bytes_eq}
use Rattle.byteorder.specs.Endian.{little_number}

-- the number in so many bytes at a place, the lowest byte first
unfoldable pub number_of : ℕ → ℕ → List ℕ → ℕ
number_of width at bytes = little_number width (drop at bytes)

-- how many bytes stand before the first zero byte, all of them where there is none
abbrev pub text_len : List ℕ → ℕ
text_len bytes = prefix_len (λ b. not (b == 0)) bytes

-- and these bytes
abbrev pub before_zero : List ℕ → List ℕ
before_zero bytes = take (text_len bytes) bytes

-- the name in the 16 bytes at a place: those before the first zero byte
unfoldable pub name_of : ℕ → List ℕ → List ℕ
name_of at bytes = before_zero (take 16 (drop at bytes))

-- a name is that of 16 bytes, padded with zeros
abbrev pub is_named : List ℕ → List ℕ → Bool
is_named padded name = bytes_eq name (before_zero padded)
