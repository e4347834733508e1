-- The objects that names are made of, and names by their numbers: the path and the bid of each, and which stands above it.
use Rattle.std.specs.Prelude.{◌≡◌, ℕ, ◌<◌, Bool, List, [], ◌∷◌, ◌++◌, slice_get, Option, Some, if◌then◌else◌}
use Rattle.std.specs.Option.{ForSome, option_map_or}
use Rattle.dwarf_types.specs.declared.analysis.Analysis.{Analysis}
use Rattle.type_names.specs.Heads.{Object}
use Rattle.type_names.specs.Names.{Named}
use Rattle.type_names.specs.Objects.{object_of}
use Rattle.type_names.specs.Paths.{Piece}

-- objects, each with the marks of its live entries
abbrev pub objects_of : List Analysis → List (List Bool) → List Object
objects_of (seen ∷ more) (live ∷ rows) = object_of seen live ∷ objects_of more rows
objects_of _ _ = []

-- the objects whose types are merged: all, or none
abbrev pub merged : Bool → List Analysis → List (List Bool) → List Object
merged odr seen live = if odr then objects_of seen live else []

abbrev pub path_at : List Named → ℕ → List Piece
path_at names x = option_map_or (λ name. name.path) (slice_get names x) []

abbrev pub bid_at : List Named → ℕ → ℕ
bid_at names x = option_map_or (λ name. name.bid) (slice_get names x) 0

-- name p is that of the parent of the entry of name x
abbrev pub IsOfParent : List Named → ℕ → ℕ → Type 0
IsOfParent names x p = (name up : Named) → slice_get names x ≡ Some name → slice_get names p ≡ Some up → (up.object ≡ name.object) × (name.parent ≡ Some up.entry)

-- the path of name x is that of a name before it and a piece more, or one piece
pub record IsLinkedUp (names : List Named) (x : ℕ) : Type 0 where
  pub up : Option ℕ
  pub before : ForSome up (λ p. p < x)
  pub piece : Piece
  pub path : path_at names x ≡ option_map_or (path_at names) up [] ++ piece ∷ []

-- names a and b have one path
abbrev pub SamePath : List Named → ℕ → ℕ → Type 0
SamePath names a b = path_at names a ≡ path_at names b
