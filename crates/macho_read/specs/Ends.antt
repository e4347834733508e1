-- Where the texts of a string table end.
use Rattle.std.specs.Prelude.{ℕ, ◌+◌, ◌==◌, not, nat_lt, List, [], ◌∷◌, length, Option, Some, None, if◌then◌else◌}
use Rattle.std.specs.List.{find}
use Rattle.macho_read.specs.Fields.{text_len}

-- the places of the zero bytes, counted from a place on
abbrev pub zeros_from : ℕ → List ℕ → List ℕ
zeros_from at [] = []
zeros_from at (b ∷ bytes) = if b == 0 then at ∷ zeros_from (at + 1) bytes else zeros_from (at + 1) bytes

-- the first of some places that is not before another
abbrev pub first_from : List ℕ → ℕ → Option ℕ
first_from places place = find (λ z. not (nat_lt z place)) places

-- where the text ends that begins at a place with these bytes, if it ends
abbrev pub end_at : ℕ → List ℕ → Option ℕ
end_at place rest = if text_len rest == length rest then None else Some (place + text_len rest)
