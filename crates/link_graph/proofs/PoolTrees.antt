-- The tree of paths: the winners right below a path, and all below it in preorder.
use Rattle.std.proofs.Common.{◌≡◌, ◌⊎◌, inl, inr, ℕ, zero, suc, ◌+◌, ◌<◌, ◌≤◌, ◌&&◌, ◌||◌, not, Bool, true, false, cond, nat_lt, List, [], ◌∷◌, ◌++◌, length, take, refl, sym, ap, ◌∙◌, arith, subst, filter, flat_map}
use Rattle.std.proofs.lemmas.Bool.{both_ways, le-ltb, ltb-true, ltb-false}
use Rattle.std.proofs.lemmas.List.{length_push, take_all}
use Rattle.type_names.specs.Names.{Named}
use Rattle.type_names.specs.Paths.{Piece}
use Rattle.link_graph.proofs.PoolPaths.{child_path, path_same, same_path_from}
use Rattle.link_graph.proofs.Rising.{Differ, Has, Rises, differ_append, differ_filter, differ_one, flat_map_same, from_filter, from_flat_map, has_filter, no_more, none_has}
use Rattle.link_graph.specs.PoolOrder.{below}
use Rattle.link_graph.specs.Pool.{by_bids, children_of, is_child, is_outbid, preorder, same_path, winners, with_bid}

-- ---- names by their bids

pub bid_in : (w : Named) (vs : List Named) (z : Named) → (w ≡ z) ⊎ Has vs z → Has (with_bid w vs) z
bid_in w [] z has = has
bid_in w (v ∷ vs) z has = go (nat_lt v.bid w.bid) has (bid_in w vs z) where
  go : (b : Bool) → (w ≡ z) ⊎ ((v ≡ z) ⊎ Has vs z) → ((w ≡ z) ⊎ Has vs z → Has (with_bid w vs) z) → Has (cond b (v ∷ with_bid w vs) (w ∷ v ∷ vs)) z
  go true (inl e) rest = inr (rest (inl e))
  go true (inr (inl e)) rest = inl e
  go true (inr (inr h)) rest = inr (rest (inr h))
  go false h rest = h

pub bid_out : (w : Named) (vs : List Named) (z : Named) → Has (with_bid w vs) z → (w ≡ z) ⊎ Has vs z
bid_out w [] z has = has
bid_out w (v ∷ vs) z has = go (nat_lt v.bid w.bid) has (bid_out w vs z) where
  go : (b : Bool) → Has (cond b (v ∷ with_bid w vs) (w ∷ v ∷ vs)) z → (Has (with_bid w vs) z → (w ≡ z) ⊎ Has vs z) → (w ≡ z) ⊎ ((v ≡ z) ⊎ Has vs z)
  go true (inl e) rest = inr (inl e)
  go true (inr h) rest = elim (rest h) [ inl e ↦ inl e | inr g ↦ inr (inr g) ]
  go false h rest = h

rises_bid : (w : Named) (vs : List Named) → Rises (λ (v : Named). v.bid) vs → ((v : Named) → Has vs v → w.bid ≡ v.bid → ⊥) → Rises (λ (v : Named). v.bid) (with_bid w vs)
rises_bid w [] up other = ((λ y has. absurd has), tt)
rises_bid w (v ∷ vs) up other = go (nat_lt v.bid w.bid) refl (rises_bid w vs up.1 (λ y has. other y (inr has))) where
  below : w.bid < v.bid → (y : Named) → (v ≡ y) ⊎ Has vs y → w.bid < y.bid
  below lt y (inl e) = omega (arith, lt, ap (λ (x : Named). x.bid) e)
  below lt y (inr h) = omega (arith, lt, up.0 y h)

  above : v.bid < w.bid → (y : Named) → (w ≡ y) ⊎ Has vs y → v.bid < y.bid
  above lt y (inl e) = omega (arith, lt, ap (λ (x : Named). x.bid) e)
  above lt y (inr h) = up.0 y h

  go : (b : Bool) → nat_lt v.bid w.bid ≡ b → Rises (λ (v : Named). v.bid) (with_bid w vs) → Rises (λ (v : Named). v.bid) (cond b (v ∷ with_bid w vs) (w ∷ v ∷ vs))
  go true is rest = ((λ y has. above (ltb-true v.bid w.bid is) y (bid_out w vs y has)), rest)
  go false is rest = ((λ y has. below (let le = ltb-false v.bid w.bid is in let ne = other v (inl refl) in omega (arith, le, ne)) y has), up)

pub by_bids_in : (ws : List Named) (z : Named) → Has ws z → Has (by_bids ws) z
by_bids_in [] z has = has
by_bids_in (w ∷ ws) z has = go has (by_bids_in ws z) where
  go : (w ≡ z) ⊎ Has ws z → (Has ws z → Has (by_bids ws) z) → Has (with_bid w (by_bids ws)) z
  go (inl e) rest = bid_in w (by_bids ws) z (inl e)
  go (inr h) rest = bid_in w (by_bids ws) z (inr (rest h))

pub by_bids_out : (ws : List Named) (z : Named) → Has (by_bids ws) z → Has ws z
by_bids_out [] z has = has
by_bids_out (w ∷ ws) z has = go (bid_out w (by_bids ws) z has) (by_bids_out ws z) where
  go : (w ≡ z) ⊎ Has (by_bids ws) z → (Has (by_bids ws) z → Has ws z) → (w ≡ z) ⊎ Has ws z
  go (inl e) rest = inl e
  go (inr h) rest = inr (rest h)

pub rises_by_bids : (ws : List Named) → Differ (λ (v : Named). v.bid) ws → Rises (λ (v : Named). v.bid) (by_bids ws)
rises_by_bids [] apart = tt
rises_by_bids (w ∷ ws) apart = rises_bid w (by_bids ws) (rises_by_bids ws apart.1) (λ v has. apart.0 v (by_bids_out ws v has))

differ_rising : (f : Named → ℕ) (ws : List Named) → Rises f ws → Differ f ws
differ_rising f [] up = tt
differ_rising f (w ∷ ws) up = ((λ y has same. (let lt = up.0 y has in absurd (omega (arith, lt, same)))), differ_rising f ws up.1)

-- ---- names that no other outbids

not_true : (b : Bool) → not b ≡ true → b ≡ false
not_true true is = absurd (both_ways _ refl is)
not_true false is = refl

true_not : (b : Bool) → b ≡ false → not b ≡ true
true_not b is = ap not is

pub not_outbid : (names : List Named) (w v : Named) → is_outbid names w ≡ false → Has names v → v.path ≡ w.path → w.bid ≤ v.bid
not_outbid [] w v none has same = absurd has
not_outbid (n ∷ names) w v none has same = go (same_path n.path w.path && nat_lt n.bid w.bid) refl none has (not_outbid names w v) where
  here : (same_path n.path w.path && nat_lt n.bid w.bid) ≡ false → n ≡ v → w.bid ≤ v.bid
  here is e =
      let test : (same_path n.path w.path && nat_lt n.bid w.bid) ≡ nat_lt n.bid w.bid = ap (λ (b : Bool). b && nat_lt n.bid w.bid) (same_path_from n.path w.path (ap (λ (x : Named). x.path) e ∙ same)) in
      let le = ltb-false n.bid w.bid (sym test ∙ is) in
      omega (arith, le, ap (λ (x : Named). x.bid) e)

  go : (b : Bool) → (same_path n.path w.path && nat_lt n.bid w.bid) ≡ b → (b || is_outbid names w) ≡ false → (n ≡ v) ⊎ Has names v → (is_outbid names w ≡ false → Has names v → v.path ≡ w.path → w.bid ≤ v.bid) → w.bid ≤ v.bid
  go true is t h rest = absurd (both_ways _ t refl)
  go false is t (inl e) rest = here is e
  go false is t (inr h) rest = rest t h same

pub outbid_none : (names : List Named) (w : Named) → ((v : Named) → Has names v → v.path ≡ w.path → w.bid ≤ v.bid) → is_outbid names w ≡ false
outbid_none [] w least = refl
outbid_none (n ∷ names) w least = go (same_path n.path w.path) refl (outbid_none names w (λ v has. least v (inr has))) where
  go : (b : Bool) → same_path n.path w.path ≡ b → is_outbid names w ≡ false → ((b && nat_lt n.bid w.bid) || is_outbid names w) ≡ false
  go false is rest = rest
  go true is rest = ap (λ (b : Bool). b || is_outbid names w) (le-ltb n.bid w.bid (least n (inl refl) (path_same n.path w.path is))) ∙ rest

-- ---- the winners right below a path

pub record IsChild (names : List Named) (path : List Piece) (w : Named) : Type 0 where
  pub among : Has names w
  pub wins : is_outbid names w ≡ false
  pub child : is_child path w ≡ true

pub child_is : (names : List Named) (path : List Piece) (w : Named) → Has (children_of names path) w → IsChild names path w
child_is names path w has =
    let one = from_filter (is_child path) (winners names) w (by_bids_out (filter (is_child path) (winners names)) w has) in
    let two = from_filter (λ w. not (is_outbid names w)) names w one.0 in
    record { among = two.0; wins = not_true (is_outbid names w) two.1; child = one.1 }

pub child_from : (names : List Named) (path : List Piece) (w : Named) → IsChild names path w → Has (children_of names path) w
child_from names path w is =
    by_bids_in (filter (is_child path) (winners names)) w
    (has_filter (is_child path) (winners names) w (has_filter (λ w. not (is_outbid names w)) names w is.among (true_not (is_outbid names w) is.wins)) is.child)

pub children_rise : (names : List Named) (path : List Piece) → Differ (λ (v : Named). v.bid) names → Rises (λ (v : Named). v.bid) (children_of names path)
children_rise names path apart = rises_by_bids (filter (is_child path) (winners names)) (differ_filter (λ (v : Named). v.bid) (is_child path) (winners names) (differ_filter (λ (v : Named). v.bid) (λ w. not (is_outbid names w)) names apart))

child_long : (names : List Named) (path : List Piece) (w : Named) → IsChild names path w → length w.path ≡ length path + 1
child_long names path w is = let it = child_path path w is.child in ap length it.1 ∙ length_push path it.0

-- ---- levels

-- no path has more pieces than there are names
abbrev pub AreShort : List Named → Type 0
AreShort names = (w : Named) → Has names w → length w.path ≤ length names

no_children : (names : List Named) (path : List Piece) → AreShort names → length names ≤ length path → children_of names path ≡ []
no_children names path short deep = none_has (children_of names path) (λ w has. (
    let is = child_is names path w has in
    let long = child_long names path w is in
    let most = short w is.among in
    absurd (omega (arith, long, most, deep))))

enough : (m n : ℕ) (names : List Named) (path : List Piece) → AreShort names → length names ≤ m + length path → length names ≤ n + length path → preorder m names path ≡ preorder n names path
unfolding preorder
enough zero zero names path short deep deep_too = refl
enough zero (suc n) names path short deep deep_too = ap (flat_map (λ w. w ∷ preorder n names w.path)) (sym (no_children names path short (omega (arith, deep))))
enough (suc m) zero names path short deep deep_too = ap (flat_map (λ w. w ∷ preorder m names w.path)) (no_children names path short (omega (arith, deep_too)))
enough (suc m) (suc n) names path short deep deep_too =
    flat_map_same (λ w. w ∷ preorder m names w.path) (λ w. w ∷ preorder n names w.path) (children_of names path) (λ w has. (
    let long = child_long names path w (child_is names path w has) in
    ap (λ (rest : List Named). w ∷ rest) (enough m n names w.path short (omega (arith, long, deep)) (omega (arith, long, deep_too)))))

one_level : (levels : ℕ) (names : List Named) (path : List Piece) → preorder (suc levels) names path ≡ flat_map (λ w. w ∷ preorder levels names w.path) (children_of names path)
unfolding preorder
one_level levels names path = refl

pub below_unfolds : (names : List Named) (path : List Piece) → AreShort names → below names path ≡ flat_map (λ w. w ∷ below names w.path) (children_of names path)
below_unfolds names path short = enough (length names) (suc (length names)) names path short (omega arith) (omega arith) ∙ one_level (length names) names path

-- ---- each stands there once

pub record IsBelow (names : List Named) (path : List Piece) (w : Named) : Type 0 where
  pub among : Has names w
  pub wins : is_outbid names w ≡ false
  pub deeper : length path < length w.path
  pub front : take (length path) w.path ≡ path

take_front : (path : List Piece) (p : Piece) → take (length path) (path ++ p ∷ []) ≡ path
take_front [] p = refl
take_front (q ∷ path) p = ap (λ (xs : List Piece). q ∷ xs) (take_front path p)

front_more : (n : ℕ) (path front : List Piece) (p : Piece) → take n path ≡ front ++ p ∷ [] → n ≡ length front + 1 → take (length front) path ≡ front
front_more zero path front p is n_is = absurd (omega (arith, n_is))
front_more (suc n) [] front p is n_is = absurd (let e : 0 ≡ length (front ++ p ∷ []) = ap length is in omega (arith, e, length_push front p))
front_more (suc n) (q ∷ path) [] p is n_is = refl
front_more (suc n) (q ∷ path) (r ∷ front) p is n_is =
    let first : q ≡ r = ap (λ (xs : List Piece). head xs) is in
    let rest : take (length front) path ≡ front = front_more n path front p (ap (λ (xs : List Piece). tail xs) is) (omega (arith, n_is)) in
    (λ i. first i ∷ rest i)
  where
    head : List Piece → Piece
    head [] = q
    head (x ∷ xs) = x

    tail : List Piece → List Piece
    tail [] = []
    tail (x ∷ xs) = xs

child_below : (names : List Named) (path : List Piece) (w : Named) → IsChild names path w → IsBelow names path w
child_below names path w is =
    let it = child_path path w is.child in
    record {
      among = is.among;
      wins = is.wins;
      deeper = omega (arith, child_long names path w is);
      front = ap (take (length path)) it.1 ∙ take_front path it.0;
    }

below_child : (names : List Named) (path : List Piece) (w x : Named) → IsChild names path w → IsBelow names w.path x → IsBelow names path x
below_child names path w x is lower =
    let it = child_path path w is.child in
    let long = child_long names path w is in
    record {
      among = lower.among;
      wins = lower.wins;
      deeper = omega (arith, long, lower.deeper);
      front = front_more (length w.path) x.path path it.0 (lower.front ∙ it.1) long;
    }

pub is_below : (levels : ℕ) (names : List Named) (path : List Piece) (x : Named) → Has (preorder levels names path) x → IsBelow names path x
unfolding preorder
is_below zero names path x has = absurd has
is_below (suc levels) names path x has =
    let from = from_flat_map (λ w. w ∷ preorder levels names w.path) (children_of names path) x has in
    let child = child_is names path from.0 from.1 in
    go from.0 child from.2 (is_below levels names from.0.path x)
  where
    go : (w : Named) → IsChild names path w → (w ≡ x) ⊎ Has (preorder levels names w.path) x → (Has (preorder levels names w.path) x → IsBelow names w.path x) → IsBelow names path x
    go w child (inl e) rest = subst (IsBelow names path) e (child_below names path w child)
    go w child (inr h) rest = below_child names path w x child (rest h)

-- what stands in the tree of a child has its path in front
in_tree : (levels : ℕ) (names : List Named) (path : List Piece) (w x : Named) → IsChild names path w → (w ≡ x) ⊎ Has (preorder levels names w.path) x → Has names x × (take (length path + 1) x.path ≡ w.path)
in_tree levels names path w x child has = go has (is_below levels names w.path x) where
  long : length path + 1 ≡ length w.path
  long = sym (child_long names path w child)

  go : (w ≡ x) ⊎ Has (preorder levels names w.path) x → (Has (preorder levels names w.path) x → IsBelow names w.path x) → Has names x × (take (length path + 1) x.path ≡ w.path)
  go (inl e) rest = (subst (Has names) e child.among, ap (λ (n : ℕ). take n x.path) long ∙ ap (λ (v : Named). take (length w.path) v.path) (sym e) ∙ take_all (length w.path) w.path (omega arith))
  go (inr h) rest = ((rest h).among, ap (λ (n : ℕ). take n x.path) long ∙ (rest h).front)

-- children of one path are told by their paths
same_child : (names : List Named) (path : List Piece) (v w : Named) → IsChild names path v → IsChild names path w → v.path ≡ w.path → v.bid ≡ w.bid
same_child names path v w is_v is_w same =
    let low = not_outbid names v w is_v.wins is_w.among (sym same) in
    let high = not_outbid names w v is_w.wins is_v.among same in
    omega (arith, low, high)

pub preorder_differs : (levels : ℕ) (names : List Named) (path : List Piece) → Differ (λ (v : Named). v.bid) names → Differ (λ (v : Named). v.bid) (preorder levels names path)
unfolding preorder
preorder_differs zero names path apart = tt
preorder_differs (suc levels) names path apart =
    trees (children_of names path) (differ_rising (λ (v : Named). v.bid) (children_of names path) (children_rise names path apart)) (child_is names path) (λ w. preorder_differs levels names w.path apart)
  where
    tree : Named → List Named
    tree w = w ∷ preorder levels names w.path

    one : (w : Named) → IsChild names path w → Differ (λ (v : Named). v.bid) (preorder levels names w.path) → Differ (λ (v : Named). v.bid) (w ∷ preorder levels names w.path)
    one w child rest = (
      (λ y has same. (
          let lower = is_below levels names w.path y has in
          let e : w ≡ y = differ_one (λ (v : Named). v.bid) names w y apart child.among lower.among same in
          let long : length w.path ≡ length y.path = ap (λ (v : Named). length v.path) e in
          omega (arith, lower.deeper, long))),
      rest,
    )

    across : (c d x y : Named) → IsChild names path c → IsChild names path d → (c.bid ≡ d.bid → ⊥) → Has (c ∷ preorder levels names c.path) x → Has (d ∷ preorder levels names d.path) y → x.bid ≡ y.bid → ⊥
    across c d x y is_c is_d other in_x in_y same =
        let of_x = in_tree levels names path c x is_c in_x in
        let of_y = in_tree levels names path d y is_d in_y in
        let e : x ≡ y = differ_one (λ (v : Named). v.bid) names x y apart of_x.0 of_y.0 same in
        other (same_child names path c d is_c is_d (sym of_x.1 ∙ ap (λ (v : Named). take (length path + 1) v.path) e ∙ of_y.1))

    trees : (cs : List Named) → Differ (λ (v : Named). v.bid) cs → ((w : Named) → Has cs w → IsChild names path w) → ((w : Named) → Differ (λ (v : Named). v.bid) (preorder levels names w.path)) → Differ (λ (v : Named). v.bid) (flat_map (λ w. w ∷ preorder levels names w.path) cs)
    trees [] other are rest = tt
    trees (c ∷ cs) other are rest =
        differ_append (λ (v : Named). v.bid) (c ∷ preorder levels names c.path) (flat_map (λ w. w ∷ preorder levels names w.path) cs) (one c (are c (inl refl)) (rest c)) (trees cs other.1 (λ w has. are w (inr has)) rest)
        (λ x y in_x in_y. (
        let from = from_flat_map (λ w. w ∷ preorder levels names w.path) cs y in_y in
        across c from.0 x y (are c (inl refl)) (are from.0 (inr from.1)) (other.0 from.0 from.1) in_x from.2))

-- no more of them than there are names
pub preorder_few : (levels : ℕ) (names : List Named) (path : List Piece) → Differ (λ (v : Named). v.bid) names → length (preorder levels names path) ≤ length names
preorder_few levels names path apart = no_more (λ (v : Named). v.bid) (preorder levels names path) names (preorder_differs levels names path apart) (λ x has. (is_below levels names path x has).among)
