-- Where a path begins to be looked for: a hash over the bytes of its pieces, from the outermost.
use Rattle.std.specs.Prelude.{ℕ, ◌+◌, ◌*◌, ◌/◌, ◌%◌, ◌^◌, List, [], ◌∷◌, ◌++◌, Option, Some, None}
use Rattle.std.specs.Int.{to_le_bytes, w16, w32}
use Rattle.std.specs.List.{flat_map, fold}
use Rattle.type_names.specs.Paths.{Piece}

-- one byte more
abbrev pub hash_byte : ℕ → ℕ → ℕ
hash_byte h c = (h + c) * 0x9e3779b97f4a7c15 % 2 ^ 64

unfoldable pub hash_from : ℕ → List ℕ → ℕ
hash_from h bytes = fold hash_byte h bytes

-- a text and a zero byte; no text is as an empty one
abbrev pub text_bytes : Option (List ℕ) → List ℕ
text_bytes None = 0 ∷ []
text_bytes (Some text) = text ++ 0 ∷ []

abbrev pub piece_bytes : Piece → List ℕ
piece_bytes p = to_le_bytes w16 p.parts.tag ++ (text_bytes p.parts.name ++ (text_bytes p.parts.linkage ++ (text_bytes p.parts.spelled ++ to_le_bytes w32 p.ordinal)))

-- the hash of a whole path
abbrev pub path_hash : List Piece → ℕ
path_hash path = hash_from 0 (flat_map piece_bytes path)

abbrev pub start_of : List Piece → ℕ → ℕ
start_of path cells = path_hash path / 2 ^ 32 % cells
