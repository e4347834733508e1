-- Padding behind a name.
use Rattle.std.specs.Prelude.{ℕ, ◌-◌, ◌==◌, List, length, take}
use Rattle.std.specs.List.{suffix_len}

-- the bytes without those at the end that are the padding
abbrev pub unpadded : ℕ → List ℕ → List ℕ
unpadded pad bytes = take (length bytes - suffix_len (λ b. b == pad) bytes) bytes
