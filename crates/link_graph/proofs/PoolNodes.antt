-- The nodes of paths: each has the place of its winner in preorder.
use Rattle.std.proofs.Common.{◌≡◌, ◌⊎◌, inl, inr, ℕ, zero, suc, ◌+◌, ◌-◌, ◌<◌, ◌≤◌, ◌==◌, not, nat_lt, Bool, true, false, cond, List, [], ◌∷◌, ◌++◌, length, map, Option, Some, None, get_or, slice_get, refl, sym, ap, ◌∙◌, arith, All, position, option_and_then, option_map}
use Rattle.std.specs.List.{position_from, position_or_len}
use Rattle.std.proofs.lemmas.Bool.{both_ways, cases_eq, eq-eqb, le-ltb, lt-ltb, ltb-true, ne_eqb, cases_lt, false_from_ne_true}
use Rattle.std.proofs.lemmas.List.{get_or-map, length-map, same_lists}
use Rattle.std.proofs.lemmas.List.Elements.{All-head, All-tail}
use Rattle.std.proofs.lemmas.Option.{slice_get-get_or}
use Rattle.odr_names.specs.Numbered.{IsLinkedUp, path_at}
use Rattle.odr_names.specs.Winners.{AreWinners}
use Rattle.type_names.specs.Names.{Named}
use Rattle.type_names.specs.Paths.{Piece}
use Rattle.dwarf_types.specs.declared.shape.Origin.{Origin}
use Rattle.dwarf_types.specs.declared.shape.ShapeUnit.{ShapeUnit}
use Rattle.link_graph.specs.Joining.{AreOriginsFrom, origin_at}
use Rattle.link_graph.specs.Merged.{pool_origin, pool_root, pool_units}
use Rattle.link_graph.specs.Pool.{node_above, node_of_path, path_above, pool_names, same_path}
use Rattle.link_graph.specs.PoolOrder.{AreApart, AreNodes, AreNodesFrom, IsPreorder, Wins, name_at, node_in_order, own_node}
use Rattle.link_graph.proofs.Families.{names_differ, path_is, same_winner, some_path, winner_wins}
use Rattle.link_graph.proofs.PoolPaths.{above_push, path_same, same_path_from}
use Rattle.link_graph.proofs.PoolTrees.{preorder_few}

-- ---- first places

module _ {A : Type 0} (p : A → Bool) where
  from_later : (i : ℕ) (xs : List A) → position_from p (i + 1) xs ≡ option_map (λ (n : ℕ). n + 1) (position_from p i xs)
  from_later i [] = refl
  from_later i (x ∷ xs) = go (p x) (from_later (i + 1) xs) where
    go : (b : Bool) → position_from p (i + 1 + 1) xs ≡ option_map (λ (n : ℕ). n + 1) (position_from p (i + 1) xs) → cond b (Some (i + 1)) (position_from p (i + 1 + 1) xs) ≡ option_map (λ (n : ℕ). n + 1) (cond b (Some i) (position_from p (i + 1) xs))
    go true rest = refl
    go false rest = rest

  position_later : (x : A) (xs : List A) → p x ≡ false → position p (x ∷ xs) ≡ option_map (λ (n : ℕ). n + 1) (position p xs)
  position_later x xs fails =
      let one : position_or_len p (x ∷ xs) ≡ position_or_len p xs + 1 = ap (λ (b : Bool). cond (not b) (1 + position_or_len p xs) 0) fails ∙ omega arith in
      let long : length (x ∷ xs) ≡ length xs + 1 = omega arith in
      (λ i. cond (nat_lt (one i) (long i)) (Some (one i)) None) ∙ go (nat_lt (position_or_len p xs) (length xs)) refl
    where
      go : (b : Bool) → nat_lt (position_or_len p xs) (length xs) ≡ b → cond (nat_lt (position_or_len p xs + 1) (length xs + 1)) (Some (position_or_len p xs + 1)) None ≡ option_map (λ (n : ℕ). n + 1) (cond b (Some (position_or_len p xs)) None)
      go true is = ap (λ (b : Bool). cond b (Some (position_or_len p xs + 1)) None) (lt-ltb (position_or_len p xs + 1) (length xs + 1) (let lt = ltb-true _ _ is in omega (arith, lt)))
      go false is = ap (λ (b : Bool). cond b (Some (position_or_len p xs + 1)) None) (not_below (cases_lt (position_or_len p xs) (length xs)) is)
        where
          not_below : (position_or_len p xs < length xs) ⊎ (length xs ≤ position_or_len p xs) → nat_lt (position_or_len p xs) (length xs) ≡ false → nat_lt (position_or_len p xs + 1) (length xs + 1) ≡ false
          not_below (inl lt) is = absurd (both_ways _ is (lt-ltb _ _ lt))
          not_below (inr le) is = le-ltb (position_or_len p xs + 1) (length xs + 1) (omega (arith, le))

  position_here : (x : A) (xs : List A) → p x ≡ true → position p (x ∷ xs) ≡ Some 0
  position_here x xs passes =
      let none : position_or_len p (x ∷ xs) ≡ 0 = ap (λ (b : Bool). cond (not b) (1 + position_or_len p xs) 0) passes in
      ap (λ (n : ℕ). cond (nat_lt n (length (x ∷ xs))) (Some n) None) none ∙ ap (λ (b : Bool). cond b (Some 0) None) (lt-ltb 0 (length (x ∷ xs)) (omega arith))

  pub position_is : (xs : List A) → position p xs ≡ position_from p 0 xs
  position_is [] = refl
  position_is (x ∷ xs) = go (p x) refl (position_is xs) where
    go : (b : Bool) → p x ≡ b → position p xs ≡ position_from p 0 xs → position p (x ∷ xs) ≡ cond b (Some 0) (position_from p (0 + 1) xs)
    go true is rest = position_here x xs is
    go false is rest = position_later x xs is ∙ ap (option_map (λ (n : ℕ). n + 1)) rest ∙ sym (from_later 0 xs)

  -- counted from 1
  pub position_next : (xs : List A) → option_map (λ (n : ℕ). n + 1) (position p xs) ≡ position_from p 1 xs
  position_next xs = ap (option_map (λ (n : ℕ). n + 1)) (position_is xs) ∙ sym (from_later 0 xs)

pub position_map : {A B : Type 0} (f : A → B) (p : B → Bool) (i : ℕ) (xs : List A) → position_from p i (map f xs) ≡ position_from (λ x. p (f x)) i xs
position_map f p i [] = refl
position_map f p i (x ∷ xs) = ap (cond (p (f x)) (Some i)) (position_map f p (i + 1) xs)

pub position_same : {A : Type 0} (p q : A → Bool) (i : ℕ) (xs : List A) → All (λ x. p x ≡ q x) xs → position_from p i xs ≡ position_from q i xs
position_same p q i [] same = refl
position_same {A} p q i (x ∷ xs) same =
    let here : p x ≡ q x = All-head (λ y. p y ≡ q y) x xs same in
    let rest = position_same p q (i + 1) xs (All-tail (λ y. p y ≡ q y) x xs same) in
    (λ j. cond (here j) (Some i) (rest j))

position_none : {A : Type 0} (i : ℕ) (xs : List A) → position_from (λ (x : A). false) i xs ≡ None
position_none i [] = refl
position_none i (x ∷ xs) = position_none (i + 1) xs

-- ---- nodes of paths

pub few_in_order : (names : List Named) (winners order : List ℕ) → AreApart names → IsPreorder names winners order → length order ≤ length names
few_in_order names winners order apart is =
    let long : length (map (name_at names) order) ≡ length order = length-map order (name_at names) in
    let same : length (map (name_at names) order) ≡ length (pool_names names) = ap length is.whole in
    let few = preorder_few (length names) names [] (names_differ names apart) in
    omega (arith, long, same, few)

node_of_some : (names : List Named) (path : List Piece) → ([] ≡ path → ⊥) → node_of_path names path ≡ option_map (λ (n : ℕ). n + 1) (position (λ (w : Named). same_path w.path path) (pool_names names))
node_of_some names [] some = absurd (some refl)
node_of_some names (p ∷ path) some = refl

pub node_is : (names : List Named) (winners order : List ℕ) (x : ℕ) → AreApart names → AreWinners names winners → IsPreorder names winners order → IsLinkedUp names x → x < length names
    → node_in_order order (get_or winners x 0) ≡ node_of_path names (path_at names x)
node_is names winners order x apart are is linked within =
    sym (node_of_some names (path_at names x) (some_path names x linked) ∙ position_next (λ (w : Named). same_path w.path (path_at names x)) (pool_names names)
    ∙ ap (position_from (λ (w : Named). same_path w.path (path_at names x)) 1) (sym is.whole)
    ∙ position_map (name_at names) (λ (w : Named). same_path w.path (path_at names x)) 1 order
    ∙ position_same (λ (v : ℕ). same_path (name_at names v).path (path_at names x)) (λ (v : ℕ). v == get_or winners x 0) 1 order (λ k d lt. same (get_or order k d) (is.wins k d lt)))
  where
    w : ℕ
    w = get_or winners x 0

    same : (v : ℕ) → Wins names winners v → same_path (name_at names v).path (path_at names x) ≡ (v == get_or winners x 0)
    same v wins = elim (cases_eq v (get_or winners x 0)) [
      | inl e ↦ same_path_from (name_at names v).path (path_at names x) (sym (path_is names v wins.within) ∙ ap (path_at names) e ∙ (are.each x within).same) ∙ sym (eq-eqb v (get_or winners x 0) e)
      | inr other ↦ false_from_ne_true (same_path (name_at names v).path (path_at names x)) (λ t. other (same_winner names winners v (get_or winners x 0) apart are wins (winner_wins names winners x apart are within)
          (path_is names v wins.within ∙ path_same (name_at names v).path (path_at names x) t ∙ sym (are.each x within).same))) ∙ sym (ne_eqb v (get_or winners x 0) other)
    ]

pub nodes_are : (names : List Named) (winners order : List ℕ) (nodes : List (Option ℕ)) → AreApart names → AreWinners names winners → IsPreorder names winners order → ((x : ℕ) → x < length names → IsLinkedUp names x)
    → AreNodesFrom order nodes (length names) 0 → AreNodes names winners nodes
nodes_are names winners order nodes apart are is linked from = record {
  len = are.len;
  within = λ x within. omega (arith, (are.each x within).within, from.len);
  each = λ x within. from.each (get_or winners x 0) (are.each x within).within ∙ node_is names winners order x apart are is (linked x within) within;
}

pub own_nodes_are : (names : List Named) (winners order : List ℕ) (nodes : List (Option ℕ)) → AreApart names → AreWinners names winners → IsPreorder names winners order → ((x : ℕ) → x < length names → IsLinkedUp names x)
    → AreNodesFrom order nodes (length names) 0 → (x : ℕ) → x < length names → slice_get nodes x ≡ Some (own_node names winners x)
own_nodes_are names winners order nodes apart are is linked from x within =
    slice_get-get_or nodes x None (omega (arith, within, from.len)) ∙ ap (λ (node : Option ℕ). Some node) (from.each x within ∙ own (cases_eq (get_or winners x 0) x))
  where
    own : (get_or winners x 0 ≡ x) ⊎ (get_or winners x 0 ≡ x → ⊥) → node_in_order order x ≡ own_node names winners x
    own (inl wins) =
        ap (node_in_order order) (sym wins) ∙ node_is names winners order x apart are is (linked x within) within
        ∙ sym (ap (λ (b : Bool). cond b (node_of_path names (path_at names x)) None) (eq-eqb (get_or winners x 0) x wins))
    own (inr lost) =
        position_same (λ (v : ℕ). v == x) (λ (v : ℕ). false) 1 order (λ k d lt. ne_eqb (get_or order k d) x (λ e. lost (ap (λ (v : ℕ). get_or winners v 0) (sym e) ∙ (is.wins k d lt).itself ∙ e)))
        ∙ position_none 1 order
        ∙ sym (ap (λ (b : Bool). cond b (node_of_path names (path_at names x)) None) (ne_eqb (get_or winners x 0) x lost))

-- ---- the node above

pub node_above_is : (names : List Named) (winners : List ℕ) (nodes : List (Option ℕ)) (x p : ℕ) (piece : Piece) → AreNodes names winners nodes → p < length names → path_at names x ≡ path_at names p ++ piece ∷ [] → get_or nodes (get_or winners p 0) None ≡ node_above names (path_at names x)
node_above_is names winners nodes x p piece are within path = are.each p within ∙ sym (ap (option_and_then (node_of_path names)) (ap path_above path ∙ above_push (path_at names p) piece))

-- ---- the unit

behind_root : (names : List Named) (order : List ℕ) (k : ℕ) → origin_at names order (k + 1) ≡ pool_origin names (name_at names (get_or order k 0))
behind_root names order k =
    let back : k + 1 - 1 ≡ k = omega arith in
    ap (λ (first : Bool). cond first pool_root (pool_origin names (name_at names (get_or order (k + 1 - 1) 0)))) (ne_eqb (k + 1) 0 (λ none. omega (arith, none)))
    ∙ ap (λ (n : ℕ). pool_origin names (name_at names (get_or order n 0))) back

-- nodes that were put at all their places
pub origins_are : (names : List Named) (order : List ℕ) (origins : List Origin) → length origins ≡ length order + 1 → AreOriginsFrom names order 0 origins → origins ≡ pool_root ∷ map (λ w. pool_origin names (name_at names w)) order
origins_are names order origins long are = same_lists origins (pool_root ∷ map its order) (omega (arith, long, length-map order its)) each
  where
    its : ℕ → Origin
    its w = pool_origin names (name_at names w)

    each : (k : ℕ) (d : Origin) → k < length origins → get_or origins k d ≡ get_or (pool_root ∷ map its order) k d
    each zero d lt = are 0 d lt
    each (suc k) d lt = are (suc k) d lt ∙ ap (origin_at names order) (let next : 0 + suc k ≡ k + 1 = omega arith in next) ∙ behind_root names order k ∙ sym (get_or-map its order k 0 d (omega (arith, lt, long)))

abbrev pub pool_unit_of : List Origin → ShapeUnit
pool_unit_of nodes = record { version = 4; nodes = nodes }

maps_joined : {A B C : Type 0} (f : A → B) (g : B → C) (xs : List A) → map g (map f xs) ≡ map (λ x. g (f x)) xs
maps_joined f g [] = refl
maps_joined {A} {B} {C} f g (x ∷ xs) = ap (λ (more : List C). g (f x) ∷ more) (maps_joined f g xs)

pub units_some : (names : List Named) (order : List ℕ) (origins : List Origin) (old new : List ShapeUnit) → 0 < length names → map (name_at names) order ≡ pool_names names → origins ≡ pool_root ∷ map (λ w. pool_origin names (name_at names w)) order
    → old ≡ [] → new ≡ old ++ pool_unit_of origins ∷ [] → new ≡ pool_units 4 names
units_some [] order origins old new some whole made none put = absurd (omega (arith, some))
units_some (n ∷ names) order origins old new some whole made none put =
    put ∙ ap (λ (units : List ShapeUnit). units ++ pool_unit_of origins ∷ []) none
    ∙ ap (λ (nodes : List Origin). pool_unit_of nodes ∷ [])
    (made ∙ ap (λ (nodes : List Origin). pool_root ∷ nodes) (sym (maps_joined (name_at (n ∷ names)) (pool_origin (n ∷ names)) order) ∙ ap (map (pool_origin (n ∷ names))) whole))

pub units_none : (names : List Named) → length names ≤ 0 → [] ≡ pool_units 4 names
units_none [] none = refl
units_none (n ∷ names) none = absurd (omega (arith, none))
