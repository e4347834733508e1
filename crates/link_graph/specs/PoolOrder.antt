-- How the nodes of merged entries are found: the winners in chains, those right below each path by their bids, and gone over in preorder.
use Rattle.std.specs.Prelude.{◌≡◌, ◌⊎◌, ℕ, ◌+◌, ◌-◌, ◌^◌, ◌<◌, ◌≤◌, ◌==◌, List, [], ◌∷◌, ◌++◌, map, drop, length, slice_get, slice_index_or, Option, Some, None, if◌then◌else◌}
use Rattle.std.specs.Bool.{⊤}
use Rattle.std.specs.List.{All, position_from}
use Rattle.std.specs.Option.{option_map_or}
use Rattle.odr_names.specs.Numbered.{bid_at, path_at}
use Rattle.type_names.specs.Names.{Named}
use Rattle.type_names.specs.Paths.{Piece}
use Rattle.link_graph.specs.declared.pool.Link.{Link}
use Rattle.link_graph.specs.Pool.{node_of_path, pool_names, preorder}
use Rattle.link_graph.specs.Rising.{Has, Rises}

-- ---- names

-- different names have different bids
abbrev pub AreApart : List Named → Type 0
AreApart names = (i j : ℕ) (v w : Named) → slice_get names i ≡ Some v → slice_get names j ≡ Some w → v.bid ≡ w.bid → i ≡ j

-- name x wins its path
pub record Wins (names : List Named) (winners : List ℕ) (x : ℕ) : Type 0 where
  pub within : x < length names
  pub itself : slice_index_or winners x 0 ≡ x

-- of names of one kind, and of a definition and a declaration, the earlier one has the lower bid
abbrev pub AreRanked : List Named → Type 0
AreRanked names = (i j : ℕ) (v w : Named) → i < j → slice_get names i ≡ Some v → slice_get names j ≡ Some w → (2 ^ 63 ≤ v.bid → 2 ^ 63 ≤ w.bid) → v.bid < w.bid

-- the name of a number
abbrev pub name_at : List Named → ℕ → Named
name_at names x = slice_index_or names x (record { object = 0; entry = 0; parent = None; path = []; bid = 0 })

-- ---- winners with what stands above them

-- the number of a path above: 0 where there is none, and otherwise 1 more than its winner
abbrev pub key_of : List ℕ → Option ℕ → ℕ
key_of winners above = option_map_or (λ p. slice_index_or winners p 0 + 1) above 0

-- the path that has this number
abbrev pub key_path : List Named → ℕ → List Piece
key_path names key = if key == 0 then [] else path_at names (key - 1)

abbrev pub IsKey : List Named → List ℕ → ℕ → Type 0
IsKey names winners key = (key ≡ 0) ⊎ ((w : ℕ) × (key ≡ w + 1) × Wins names winners w)

-- name x stands right below the path that has this number
pub record IsRightBelow (names : List Named) (winners : List ℕ) (key x : ℕ) : Type 0 where
  pub key_is : IsKey names winners key
  pub piece : Piece
  pub path : path_at names x ≡ key_path names key ++ piece ∷ []

-- it does, and wins
abbrev pub IsChildOf : List Named → List ℕ → ℕ → ℕ → Type 0
IsChildOf names winners key x = Wins names winners x × IsRightBelow names winners key x

-- ---- chains

-- the winner that a number in a link stands for: 0 is none, and 1 more than its number a winner
abbrev pub name_of : ℕ → Option ℕ
name_of n = if n == 0 then None else Some (n - 1)

-- the first one right below each path, by the path's number
abbrev pub firsts : List Link → List (Option ℕ)
firsts links = map (λ link. name_of link.first) links

-- of each winner the next one right below the same path
abbrev pub nexts : List Link → List (Option ℕ)
nexts links = drop 1 (map (λ link. name_of link.next) links)

-- a chain begins with this name, if with any, and has these names
abbrev pub Hangs : List (Option ℕ) → Option ℕ → List ℕ → Type 0
Hangs next first [] = first ≡ None
Hangs next first (x ∷ xs) = (first ≡ Some x) × Hangs next (slice_index_or next x None) xs

-- of some winners those right below the path of a number, by their bids
pub record IsFamily (names : List Named) (winners : List ℕ) (some : ℕ → Type 0) (key : ℕ) (family : List ℕ) : Type 0 where
  pub rises : Rises (bid_at names) family
  pub each : (x : ℕ) → Has family x → some x × IsChildOf names winners key x
  pub found : (x : ℕ) → some x → IsChildOf names winners key x → Has family x

-- they hang in chains: the first one of each number is told, and the next one of each winner
pub record AreChains (names : List Named) (winners : List ℕ) (some : ℕ → Type 0) (first next : List (Option ℕ)) : Type 0 where
  pub wide : length first ≡ length names + 1
  pub long : length next ≡ length names
  pub family : ℕ → List ℕ
  pub hang : (key : ℕ) → key < length first → Hangs next (slice_index_or first key None) (family key)
  pub are : (key : ℕ) → key < length first → IsFamily names winners some key (family key)

-- it is a later name whose bid is not below the first bound, or its bid is not below the second
abbrev pub Passed : List Named → ℕ → ℕ → ℕ → ℕ → Type 0
Passed names from to x y = (to ≤ bid_at names y) ⊎ ((from ≤ bid_at names y) × (x ≤ y))

-- those that were passed hang in chains
abbrev pub AreHungFrom : List Named → List ℕ → ℕ → ℕ → ℕ → List (Option ℕ) → List (Option ℕ) → Type 0
AreHungFrom names winners from to x first next = AreChains names winners (Passed names from to x) first next

abbrev pub AnyName : ℕ → Type 0
AnyName x = ⊤

-- ---- preorder

-- all below a path
abbrev pub below : List Named → List Piece → List Named
below names path = preorder (length names) names path

-- all winners that have a node, in preorder
pub record IsPreorder (names : List Named) (winners : List ℕ) (order : List ℕ) : Type 0 where
  pub whole : map (name_at names) order ≡ pool_names names
  pub wins : All (Wins names winners) order

-- ---- nodes

-- the node of a winner: 1 more than its first place in preorder
abbrev pub node_in_order : List ℕ → ℕ → Option ℕ
node_in_order order w = position_from (λ v. v == w) 1 order

-- the nodes of n winners, where the first i places are left
pub record AreNodesFrom (order : List ℕ) (nodes : List (Option ℕ)) (n i : ℕ) : Type 0 where
  pub within : i ≤ length order
  pub len : length nodes ≡ n
  pub each : (w : ℕ) → w < n → slice_index_or nodes w None ≡ position_from (λ v. v == w) (i + 1) (drop i order)

-- at the winner of each name stands the node of its path
pub record AreNodes (names : List Named) (winners : List ℕ) (nodes : List (Option ℕ)) : Type 0 where
  pub len : length winners ≡ length names
  pub within : (x : ℕ) → x < length names → slice_index_or winners x 0 < length nodes
  pub each : (x : ℕ) → x < length names → slice_index_or nodes (slice_index_or winners x 0) None ≡ node_of_path names (path_at names x)

-- the node of a name that wins its path, and none of each other name
abbrev pub own_node : List Named → List ℕ → ℕ → Option ℕ
own_node names winners x = if slice_index_or winners x 0 == x then node_of_path names (path_at names x) else None
