-- The nodes of merged entries: one for each path of the names of a link, in preorder.
use Rattle.std.specs.Prelude.{ℕ, zero, suc, ◌+◌, ◌==◌, ◌&&◌, not, Bool, true, false, List, [], ◌∷◌, length, Option, Some, None, if◌then◌else◌, nat_lt}
use Rattle.std.specs.List.{filter, flat_map, list_any, position}
use Rattle.std.specs.Option.{option_and_then, option_map, option_map_or}
use Rattle.type_names.specs.Names.{Named}
use Rattle.type_names.specs.Paths.{Piece, same_parts}

-- ---- paths

abbrev pub same_piece : Piece → Piece → Bool
same_piece a b = same_parts a.parts b.parts && a.ordinal == b.ordinal

abbrev pub same_path : List Piece → List Piece → Bool
same_path [] [] = true
same_path (a ∷ path) (b ∷ other) = same_piece a b && same_path path other
same_path _ _ = false

-- a path without its last piece
abbrev pub path_above : List Piece → Option (List Piece)
path_above [] = None
path_above (p ∷ []) = Some []
path_above (p ∷ q ∷ path) = option_map (λ above. p ∷ above) (path_above (q ∷ path))

-- ---- winners

-- another name of its path has a lower bid
abbrev pub is_outbid : List Named → Named → Bool
is_outbid names w = list_any (λ other. same_path other.path w.path && nat_lt other.bid w.bid) names

-- of each path the name with the least bid
abbrev pub winners : List Named → List Named
winners names = filter (λ w. not (is_outbid names w)) names

-- ---- the tree of paths

-- a name put where its bid belongs
abbrev pub with_bid : Named → List Named → List Named
with_bid w [] = w ∷ []
with_bid w (v ∷ vs) = if nat_lt v.bid w.bid then v ∷ with_bid w vs else w ∷ v ∷ vs

abbrev pub by_bids : List Named → List Named
by_bids [] = []
by_bids (w ∷ ws) = with_bid w (by_bids ws)

-- its path is this one and a piece more
abbrev pub is_child : List Piece → Named → Bool
is_child path w = option_map_or (same_path path) (path_above w.path) false

-- the winners right below a path, by their bids
abbrev pub children_of : List Named → List Piece → List Named
children_of names path = by_bids (filter (is_child path) (winners names))

-- the winners below a path in preorder, at most so many levels down
unfoldable pub preorder : ℕ → List Named → List Piece → List Named
preorder zero names path = []
preorder (suc levels) names path = flat_map (λ w. w ∷ preorder levels names w.path) (children_of names path)

-- all that have a node: no path has more pieces than there are names
abbrev pub pool_names : List Named → List Named
pool_names names = preorder (length names) names []

-- the node of a path; that of none is the root
abbrev pub node_of_path : List Named → List Piece → Option ℕ
node_of_path names [] = Some 0
node_of_path names (p ∷ path) = option_map (λ n. n + 1) (position (λ w. same_path w.path (p ∷ path)) (pool_names names))

-- the node of the path above
abbrev pub node_above : List Named → List Piece → Option ℕ
node_above names path = option_and_then (node_of_path names) (path_above path)
