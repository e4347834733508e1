-- The hash goes on where it was left.
use Rattle.std.proofs.Common.{◌≡◌, ℕ, List, [], ◌∷◌, ◌++◌, refl, sym, ap, ◌∙◌, append-nil}
use Rattle.std.specs.List.{flat_map}
use Rattle.std.proofs.lemmas.List.Sums.{fold-append}
use Rattle.std.proofs.lemmas.Grind.{flat_map-append}
use Rattle.type_names.specs.Paths.{Piece}
use Rattle.type_names.specs.Start.{hash_byte, hash_from, path_hash, piece_bytes}

pub hash_more : (h : ℕ) (xs ys : List ℕ) → hash_from h (xs ++ ys) ≡ hash_from (hash_from h xs) ys
unfolding hash_from
hash_more h xs ys = fold-append hash_byte h xs ys

-- the hash of a path one piece longer
pub path_hash_more : (path : List Piece) (piece : Piece) → path_hash (path ++ piece ∷ []) ≡ hash_from (path_hash path) (piece_bytes piece)
path_hash_more path piece =
    ap (hash_from 0) (flat_map-append piece_bytes path (piece ∷ []) ∙ ap (λ (bs : List ℕ). flat_map piece_bytes path ++ bs) (append-nil (piece_bytes piece)))
    ∙ hash_more 0 (flat_map piece_bytes path) (piece_bytes piece)

pub hash_five : (h : ℕ) (a b c d e : List ℕ) → hash_from (hash_from (hash_from (hash_from (hash_from h a) b) c) d) e ≡ hash_from h (a ++ (b ++ (c ++ (d ++ e))))
hash_five h a b c d e =
    sym (hash_more h a (b ++ (c ++ (d ++ e))) ∙ hash_more (hash_from h a) b (c ++ (d ++ e)) ∙ hash_more (hash_from (hash_from h a) b) c (d ++ e)
    ∙ hash_more (hash_from (hash_from (hash_from h a) b) c) d e)

pub hash_none : (h : ℕ) → hash_from h [] ≡ h
unfolding hash_from
hash_none h = refl
