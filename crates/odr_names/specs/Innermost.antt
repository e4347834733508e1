-- The innermost piece of a path that only its own object and entry tell apart, and a hash that they go into.
use Rattle.std.specs.Prelude.{ℕ, List, [], ◌∷◌, ◌++◌, Option, Some, None}
use Rattle.std.specs.Int.{to_le_bytes, w32}
use Rattle.std.specs.Option.{option_or}
use Rattle.type_names.specs.Paths.{Piece}
use Rattle.type_names.specs.Start.{hash_from, path_hash}

-- the object and the entry of the innermost such piece
abbrev pub innermost : List Piece → Option (ℕ × ℕ)
innermost [] = None
innermost (piece ∷ more) = option_or (innermost more) piece.parts.private

-- four bytes for each of the two
abbrev pub own_bytes : Option (ℕ × ℕ) → List ℕ
own_bytes None = []
own_bytes (Some own) = to_le_bytes w32 own.0 ++ to_le_bytes w32 own.1

-- a hash of a path into which these go too, since the hash of the path leaves them out
abbrev pub rank_hash : List Piece → ℕ
rank_hash path = hash_from (path_hash path) (own_bytes (innermost path))
