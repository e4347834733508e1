-- The names that have a node: one of each path, each behind the one above it.
use Rattle.std.proofs.Common.{◌≡◌, ◌⊎◌, inl, inr, ℕ, zero, suc, ◌+◌, ◌≤◌, Bool, true, false, cond, List, [], ◌∷◌, ◌++◌, length, get_or, Option, Some, None, refl, sym, ap, subst, ◌∙◌, ◌-◌, arith, append_assoc, append-nil, length-append}
use Rattle.std.specs.Prelude.{nat_lt}
use Rattle.std.specs.List.{All, AllPairs, Contains, filter, flat_map}
use Rattle.std.specs.Option.{option_map, option_map_or}
use Rattle.std.proofs.lemmas.Bool.{both_ways}
use Rattle.std.proofs.lemmas.List.{append_cancel_left}
use Rattle.std.proofs.lemmas.List.Elements.{All-cons, All-contains, All-contains_itself, All-head, All-nil, All-tail, All-weaker}
use Rattle.std.proofs.lemmas.List.Kept.{AllPairs-filter}
use Rattle.std.proofs.lemmas.Option.{none-some, same_Some}
use Rattle.link_graph.specs.Pool.{by_bids, children_of, is_child, path_above, pool_names, preorder, same_path, winners, with_bid}
use Rattle.link_graph.proofs.Gathered.{All-flat_map}
use Rattle.type_names.specs.Names.{Named}
use Rattle.type_names.specs.Paths.{Piece}
use Rattle.merged_laws.proofs.Members.{Apart, apart_append, apart_from_pairs, first_in, from_filter, from_flat_map, in_cases, in_filter, in_flat_map, later_in, none_in, only_in}
use Rattle.merged_laws.proofs.Names.{paths_same, same_paths, winners_apart}

-- ---- paths and those above

pub above_of : (path : List Piece) (piece : Piece) → path_above (path ++ piece ∷ []) ≡ Some path
above_of [] piece = refl
above_of (p ∷ []) piece = refl
above_of (p ∷ q ∷ path) piece = ap (option_map (λ (above : List Piece). p ∷ above)) (above_of (q ∷ path) piece)

pub above_is : (path above : List Piece) → path_above path ≡ Some above → (piece : Piece) × (path ≡ above ++ piece ∷ [])
above_is [] above is = absurd (none-some above is)
above_is (p ∷ []) above is = (p, ap (λ (a : List Piece). a ++ p ∷ []) (same_Some [] above is))
above_is (p ∷ q ∷ path) above is = go (path_above (q ∷ path)) refl is (λ a. above_is (q ∷ path) a)
  where
    go : (o : Option (List Piece)) → path_above (q ∷ path) ≡ o → option_map (λ (above : List Piece). p ∷ above) o ≡ Some above → ((a : List Piece) → path_above (q ∷ path) ≡ Some a → (piece : Piece) × (q ∷ path ≡ a ++ piece ∷ [])) → (piece : Piece) × (p ∷ q ∷ path ≡ above ++ piece ∷ [])
    go None none is rest = absurd (none-some above is)
    go (Some a) some is rest = (let w = rest a some in (w.0, ap (λ (x : List Piece). p ∷ x) w.1 ∙ ap (λ (x : List Piece). x ++ w.0 ∷ []) (same_Some (p ∷ a) above is)))

-- ---- by their bids

abbrev pub Differs : Named → Named → Type 0
Differs a b = a.path ≡ b.path → ⊥

with_cases : (w : Named) (vs : List Named) (x : Named) → Contains (with_bid w vs) x → (w ≡ x) ⊎ Contains vs x
with_cases w [] x h = inl (only_in w x h)
with_cases w (v ∷ vs) x h = go (nat_lt v.bid w.bid) h (λ k. with_cases w vs x k)
  where
    go : (b : Bool) → Contains (cond b (v ∷ with_bid w vs) (w ∷ v ∷ vs)) x → (Contains (with_bid w vs) x → (w ≡ x) ⊎ Contains vs x) → (w ≡ x) ⊎ Contains (v ∷ vs) x
    go false h rest = in_cases w (v ∷ vs) x h
    go true h rest = elim (in_cases v (with_bid w vs) x h) [
      | inl here ↦ inr (subst (Contains (v ∷ vs)) here (first_in v vs))
      | inr later ↦ elim (rest later) [ inl own ↦ inl own | inr there ↦ inr (later_in v vs x there) ]
    ]

with_own : (w : Named) (vs : List Named) → Contains (with_bid w vs) w
with_own w [] = first_in w []
with_own w (v ∷ vs) = go (nat_lt v.bid w.bid) (with_own w vs)
  where
    go : (b : Bool) → Contains (with_bid w vs) w → Contains (cond b (v ∷ with_bid w vs) (w ∷ v ∷ vs)) w
    go false rest = first_in w (v ∷ vs)
    go true rest = later_in v (with_bid w vs) w rest

with_other : (w : Named) (vs : List Named) (x : Named) → Contains vs x → Contains (with_bid w vs) x
with_other w [] x h = absurd (none_in x h)
with_other w (v ∷ vs) x h = go (nat_lt v.bid w.bid) (λ k. with_other w vs x k)
  where
    go : (b : Bool) → (Contains vs x → Contains (with_bid w vs) x) → Contains (cond b (v ∷ with_bid w vs) (w ∷ v ∷ vs)) x
    go false rest = later_in w (v ∷ vs) x h
    go true rest = elim (in_cases v vs x h) [
      | inl here ↦ subst (Contains (v ∷ with_bid w vs)) here (first_in v (with_bid w vs))
      | inr later ↦ later_in v (with_bid w vs) x (rest later)
    ]

with_all : (P : Named → Type 0) (w : Named) (vs : List Named) → P w → All P vs → All P (with_bid w vs)
with_all P w vs own h k d lt = elim (with_cases w vs (get_or (with_bid w vs) k d) (All-contains_itself (with_bid w vs) k d lt)) [
  | inl same ↦ subst P same own
  | inr there ↦ All-contains P vs (get_or (with_bid w vs) k d) h there
]

with_apart : (w : Named) (vs : List Named) → All (Differs w) vs → Apart Differs vs → Apart Differs (with_bid w vs)
with_apart w [] h k = (All-nil (Differs w), tt)
with_apart w (v ∷ vs) h k = go (nat_lt v.bid w.bid) (with_apart w vs (All-tail (Differs w) v vs h) k.1)
  where
    go : (b : Bool) → Apart Differs (with_bid w vs) → Apart Differs (cond b (v ∷ with_bid w vs) (w ∷ v ∷ vs))
    go false rest = (h, k)
    go true rest = (with_all (Differs v) w vs (λ same. All-head (Differs w) v vs h (sym same)) k.0, rest)

pub by_bids_in : (ws : List Named) (x : Named) → Contains ws x → Contains (by_bids ws) x
by_bids_in [] x h = absurd (none_in x h)
by_bids_in (w ∷ ws) x h = elim (in_cases w ws x h) [
  | inl here ↦ subst (Contains (with_bid w (by_bids ws))) here (with_own w (by_bids ws))
  | inr later ↦ with_other w (by_bids ws) x (by_bids_in ws x later)
]

pub by_bids_from : (ws : List Named) (x : Named) → Contains (by_bids ws) x → Contains ws x
by_bids_from [] x h = absurd (none_in x h)
by_bids_from (w ∷ ws) x h = elim (with_cases w (by_bids ws) x h) [
  | inl own ↦ subst (Contains (w ∷ ws)) own (first_in w ws)
  | inr there ↦ later_in w ws x (by_bids_from ws x there)
]

by_bids_apart : (ws : List Named) → Apart Differs ws → Apart Differs (by_bids ws)
by_bids_apart [] h = tt
by_bids_apart (w ∷ ws) h = with_apart w (by_bids ws) (λ k d lt. All-contains (Differs w) ws (get_or (by_bids ws) k d) h.0 (by_bids_from ws (get_or (by_bids ws) k d) (All-contains_itself (by_bids ws) k d lt))) (by_bids_apart ws h.1)

-- ---- children

child_by : (path : List Piece) (above : Option (List Piece)) → option_map_or (same_path path) above false ≡ true → above ≡ Some path
child_by path None is = absurd (both_ways _ refl is)
child_by path (Some a) is = ap (λ (p : List Piece). Some p) (sym (paths_same path a is))

module _ (ns : List Named) where
  pub child_above : (path : List Piece) (w : Named) → Contains (children_of ns path) w → Contains (winners ns) w × (path_above w.path ≡ Some path)
  child_above path w h =
      let parts = from_filter (is_child path) (winners ns) w (by_bids_from (filter (is_child path) (winners ns)) w h) in
      (parts.0, child_by path (path_above w.path) parts.1)

  pub child_there : (path : List Piece) (piece : Piece) (w : Named) → Contains (winners ns) w → w.path ≡ path ++ piece ∷ [] → Contains (children_of ns path) w
  child_there path piece w h is =
      by_bids_in (filter (is_child path) (winners ns)) w (in_filter (is_child path) (winners ns) w h (ap (λ (p : List Piece). option_map_or (same_path path) (path_above p) false) is ∙ ap (λ (a : Option (List Piece)). option_map_or (same_path path) a false) (above_of path piece) ∙ same_paths path))

  children_apart : AllPairs Differs (winners ns) → (path : List Piece) → Apart Differs (children_of ns path)
  children_apart apart path = by_bids_apart (filter (is_child path) (winners ns)) (apart_from_pairs Differs (filter (is_child path) (winners ns)) (AllPairs-filter Differs (is_child path) (winners ns) apart))

  -- ---- in preorder

  abbrev pub branch : ℕ → Named → List Named
  branch levels w = w ∷ preorder levels ns w.path

  -- what stands below a path has it and more
  abbrev Below : List Piece → Named → Type 0
  Below path w = (piece : Piece) × (rest : List Piece) × (w.path ≡ path ++ piece ∷ rest)

  all_below : (levels : ℕ) (path : List Piece) → All (Below path) (preorder levels ns path)
  unfolding preorder
  all_below zero path = All-nil (Below path)
  all_below (suc levels) path = All-flat_map (Below path) (branch levels) (children_of ns path)
      (All-weaker (Contains (children_of ns path)) (λ w. All (Below path) (branch levels w)) (λ w h. of_child w (above_is w.path path (child_above path w h).1) (all_below levels w.path)) (children_of ns path) (All-contains_itself (children_of ns path)))
    where
      of_child : (w : Named) → (piece : Piece) × (w.path ≡ path ++ piece ∷ []) → All (Below w.path) (preorder levels ns w.path) → All (Below path) (branch levels w)
      of_child w is below = All-cons (Below path) w (preorder levels ns w.path) (is.0, [], is.1)
          (All-weaker (Below w.path) (Below path) (λ v h. (is.0, h.0 ∷ h.1, h.2 ∙ ap (λ (p : List Piece). p ++ h.0 ∷ h.1) is.1 ∙ append_assoc path (is.0 ∷ []) (h.0 ∷ h.1))) (preorder levels ns w.path) below)

  -- all of them are winners
  pub all_win : (levels : ℕ) (path : List Piece) → All (Contains (winners ns)) (preorder levels ns path)
  unfolding preorder
  all_win zero path = All-nil (Contains (winners ns))
  all_win (suc levels) path = All-flat_map (Contains (winners ns)) (branch levels) (children_of ns path)
      (All-weaker (Contains (children_of ns path)) (λ w. All (Contains (winners ns)) (branch levels w))
      (λ w h. All-cons (Contains (winners ns)) w (preorder levels ns w.path) (child_above path w h).0 (all_win levels w.path)) (children_of ns path) (All-contains_itself (children_of ns path)))

  -- ---- all paths differ

  abbrev Within : Named → Named → Type 0
  Within w v = (rest : List Piece) × (v.path ≡ w.path ++ rest)

  all_within : (levels : ℕ) (w : Named) → All (Within w) (branch levels w)
  all_within levels w = All-cons (Within w) w (preorder levels ns w.path) ([], sym (append-nil w.path)) (All-weaker (Below w.path) (Within w) (λ v h. (h.0 ∷ h.1, h.2)) (preorder levels ns w.path) (all_below levels w.path))

  own_apart : (w v : Named) → Below w.path v → Differs w v
  own_apart w v h same = (let long = ap length (same ∙ h.2) ∙ length-append w.path (h.0 ∷ h.1) in omega (arith, long))

  first_or : Piece → List Piece → Piece
  first_or d [] = d
  first_or d (p ∷ path) = p

  first_same : (path : List Piece) (a b : Piece) (r s : List Piece) → (path ++ a ∷ []) ++ r ≡ (path ++ b ∷ []) ++ s → a ≡ b
  unfolding first_or
  first_same path a b r s same = ap (first_or a) (append_cancel_left path (a ∷ r) (b ∷ s) (sym (append_assoc path (a ∷ []) r) ∙ same ∙ append_assoc path (b ∷ []) s))

  -- what stands in the branches of two children is apart
  branch_apart : (path : List Piece) (w c v x : Named) → path_above w.path ≡ Some path → path_above c.path ≡ Some path → Differs w c → Within w v → Within c x → Differs v x
  branch_apart path w c v x up up' differ h k same =
      let a = above_is w.path path up in
      let b = above_is c.path path up' in
      let one = first_same path a.0 b.0 h.0 k.0 (sym (h.1 ∙ ap (λ (p : List Piece). p ++ h.0) a.1) ∙ same ∙ k.1 ∙ ap (λ (p : List Piece). p ++ k.0) b.1) in
      differ (a.1 ∙ ap (λ (p : Piece). path ++ p ∷ []) one ∙ sym b.1)

  branches_apart : (levels : ℕ) (path : List Piece) (cs : List Named) → All (Contains (children_of ns path)) cs → Apart Differs cs → ((w : Named) → Apart Differs (preorder levels ns w.path)) → Apart Differs (flat_map (branch levels) cs)
  branches_apart levels path [] are apart below = tt
  branches_apart levels path (w ∷ cs) are apart below =
      let rest = flat_map (branch levels) cs in
      let up : path_above w.path ≡ Some path = (child_above path w (All-head (Contains (children_of ns path)) w cs are)).1 in
      let later = All-tail (Contains (children_of ns path)) w cs are in
      apart_append Differs (branch levels w) rest
      (All-weaker (Below w.path) (Differs w) (own_apart w) (preorder levels ns w.path) (all_below levels w.path), below w)
      (branches_apart levels path cs later apart.1 below)
      (All-weaker (Within w) (λ v. All (Differs v) rest) (λ v h. All-flat_map (Differs v) (branch levels) cs
      (λ k d lt.
      let c = get_or cs k d in
      All-weaker (Within c) (Differs v) (λ x inside. branch_apart path w c v x up (child_above path c (later k d lt)).1 (apart.0 k d lt) h inside) (branch levels c) (all_within levels c)))
      (branch levels w) (all_within levels w))

  preorder_apart : (levels : ℕ) → AllPairs Differs (winners ns) → (path : List Piece) → Apart Differs (preorder levels ns path)
  unfolding preorder
  preorder_apart zero apart path = tt
  preorder_apart (suc levels) apart path = branches_apart levels path (children_of ns path) (All-contains_itself (children_of ns path)) (children_apart apart path) (λ w. preorder_apart levels apart w.path)

  pub pool_apart : AllPairs (λ a b. a.bid ≡ b.bid → ⊥) ns → Apart Differs (pool_names ns)
  pool_apart bids = preorder_apart (length ns) (winners_apart ns bids) []

  -- ---- which have a node

  -- a winner right below one that has a node has one, a level further down
  pub deeper : (levels : ℕ) (path : List Piece) (v w : Named) (piece : Piece) → Contains (preorder levels ns path) v → Contains (winners ns) w → w.path ≡ v.path ++ piece ∷ [] → Contains (preorder (suc levels) ns path) w
  unfolding preorder
  deeper zero path v w piece h wins is = absurd (none_in v h)
  deeper (suc levels) path v w piece h wins is =
      let at = from_flat_map (branch levels) (children_of ns path) v h in
      let c = at.0 in
      let below : Contains (preorder (suc levels) ns c.path) w = elim (in_cases c (preorder levels ns c.path) v at.2) [
        | inl same ↦ (
            let child : Contains (children_of ns c.path) w = child_there c.path piece w wins (is ∙ ap (λ (x : Named). x.path ++ piece ∷ []) (sym same)) in
            in_flat_map (branch levels) (children_of ns c.path) w w child (first_in w (preorder levels ns w.path)))
        | inr further ↦ deeper levels c.path v w piece further wins is
      ] in
      in_flat_map (branch (suc levels)) (children_of ns path) c w at.1 (later_in c (preorder (suc levels) ns c.path) w below)

  one_more : (levels : ℕ) (path : List Piece) (v : Named) → Contains (preorder levels ns path) v → Contains (preorder (suc levels) ns path) v
  unfolding preorder
  one_more zero path v h = absurd (none_in v h)
  one_more (suc levels) path v h =
      let at = from_flat_map (branch levels) (children_of ns path) v h in
      let c = at.0 in
      let own : Contains (branch (suc levels) c) v = elim (in_cases c (preorder levels ns c.path) v at.2) [
        | inl same ↦ subst (Contains (branch (suc levels) c)) same (first_in c (preorder (suc levels) ns c.path))
        | inr further ↦ later_in c (preorder (suc levels) ns c.path) v (one_more levels c.path v further)
      ] in
      in_flat_map (branch (suc levels)) (children_of ns path) c v at.1 own

  more_by : (d levels : ℕ) (path : List Piece) (v : Named) → Contains (preorder levels ns path) v → Contains (preorder (d + levels) ns path) v
  more_by zero levels path v h = subst (λ (n : ℕ). Contains (preorder n ns path) v) (let same : levels ≡ zero + levels = omega arith in same) h
  more_by (suc d) levels path v h = subst (λ (n : ℕ). Contains (preorder n ns path) v) (let same : suc (d + levels) ≡ suc d + levels = omega arith in same) (one_more (d + levels) path v (more_by d levels path v h))

  -- more levels have no fewer
  pub more_levels : (levels most : ℕ) (path : List Piece) (v : Named) → levels ≤ most → Contains (preorder levels ns path) v → Contains (preorder most ns path) v
  more_levels levels most path v le h = subst (λ (n : ℕ). Contains (preorder n ns path) v) (let same : most - levels + levels ≡ most = omega (arith, le) in same) (more_by (most - levels) levels path v h)

  pub at_top : (levels : ℕ) (w : Named) (piece : Piece) → Contains (winners ns) w → w.path ≡ piece ∷ [] → Contains (preorder (suc levels) ns []) w
  unfolding preorder
  at_top levels w piece wins is = in_flat_map (branch levels) (children_of ns []) w w (child_there [] piece w wins is) (first_in w (preorder levels ns w.path))
