-- The innermost piece that only its own object and entry tell apart, as paths grow.
use Rattle.std.proofs.Common.{◌≡◌, ℕ, Bool, true, false, List, [], ◌∷◌, ◌++◌, Option, Some, None, is_some, refl, ap, ◌∙◌}
use Rattle.std.specs.Prelude.{◌||◌, not}
use Rattle.std.specs.Option.{option_map, option_or}
use Rattle.std.proofs.lemmas.Bool.{both_ways}
use Rattle.odr_names.specs.declared.piece.Private.{Private}
use Rattle.odr_names.specs.Innermost.{innermost}
use Rattle.odr_names.specs.Pieces.{own_seen}
use Rattle.type_names.specs.Paths.{Piece}

or_none : (a : Option (ℕ × ℕ)) → a ≡ option_or a None
or_none None = refl
or_none (Some a) = refl

or_moved : (a b c : Option (ℕ × ℕ)) → option_or (option_or a b) c ≡ option_or a (option_or b c)
or_moved None b c = refl
or_moved (Some a) b c = refl

some_or : (a b : Option (ℕ × ℕ)) → is_some (option_or a b) ≡ (is_some a || is_some b)
some_or None b = refl
some_or (Some a) b = refl

-- that of a path one piece longer
pub innermost_more : (path : List Piece) (piece : Piece) → innermost (path ++ piece ∷ []) ≡ option_or piece.parts.private (innermost path)
innermost_more [] piece = or_none piece.parts.private
innermost_more (first ∷ path) piece = ap (λ (own : Option (ℕ × ℕ)). option_or own first.parts.private) (innermost_more path piece) ∙ or_moved piece.parts.private (innermost path) first.parts.private

pub private_more : (path : List Piece) (piece : Piece) → is_some (innermost (path ++ piece ∷ [])) ≡ (is_some piece.parts.private || is_some (innermost path))
private_more path piece = ap (λ (own : Option (ℕ × ℕ)). is_some own) (innermost_more path piece) ∙ some_or piece.parts.private (innermost path)

pub none_told : (told : Bool) (own : Option (ℕ × ℕ)) → told ≡ is_some own → not told ≡ true → None ≡ own
none_told told None is none = refl
none_told told (Some own) is none = absurd (both_ways _ (ap not is) none)

pub own_first : (own : Option Private) (more : Option (ℕ × ℕ)) → is_some own ≡ true → option_map own_seen own ≡ option_or (option_map own_seen own) more
own_first None more is = absurd (both_ways _ refl is)
own_first (Some own) more is = refl

pub own_none : (own : Option Private) (more : Option (ℕ × ℕ)) → is_some own ≡ false → option_or (option_map own_seen own) more ≡ more
own_none None more is = refl
own_none (Some own) more is = absurd (both_ways _ is refl)
