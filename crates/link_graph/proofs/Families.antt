-- Winners with what stands above them: the families of paths, and their chains.
use Rattle.std.proofs.Common.{◌≡◌, ◌⊎◌, inl, inr, ℕ, zero, suc, ◌+◌, ◌-◌, ◌^◌, ◌<◌, ◌≤◌, eqb, Bool, false, cond, List, [], ◌∷◌, ◌++◌, length, map, replicate, Option, Some, None, slice_get, slice_set, get_or, refl, sym, ap, ◌∙◌, arith, subst}
use Rattle.std.specs.List.{flat_map}
use Rattle.std.specs.Option.{ForSome, option_map_or}
use Rattle.std.proofs.lemmas.Bool.{cases_eq, cases_lt, eq-eqb, ne_eqb}
use Rattle.std.proofs.lemmas.List.{get_or-replicate, get_or-set_other, get_or-set_same, length-replicate, length-set, length_push, same_from_push}
use Rattle.std.proofs.lemmas.Option.{same_Some, slice_get-get_or, slice_get_within}
use Rattle.odr_names.specs.Numbered.{IsLinkedUp, bid_at, path_at}
use Rattle.odr_names.specs.Winners.{AreWinners}
use Rattle.type_names.specs.Names.{Named}
use Rattle.type_names.specs.Paths.{Piece}
use Rattle.link_graph.specs.Pool.{children_of, is_outbid}
use Rattle.link_graph.specs.PoolOrder.{AnyName, AreApart, AreChains, AreHungFrom, AreRanked, Hangs, IsChildOf, IsFamily, IsKey, IsRightBelow, Passed, Wins, below, key_of, key_path, name_at}
use Rattle.link_graph.proofs.PoolPaths.{child_path, is_child_from, not_empty}
use Rattle.link_graph.proofs.PoolTrees.{AreShort, below_unfolds, child_from, child_is, children_rise, not_outbid, outbid_none}
use Rattle.link_graph.proofs.Rising.{Differ, Has, differ_from, flat_map_of_map, from_map, has_at, has_map, only_rising, place_of, rises_map}

-- ---- bids

-- ranked names have different bids
pub ranked_apart : (names : List Named) → AreRanked names → AreApart names
ranked_apart names ranked i j v w at_i at_j same = elim (cases_lt i j) [
  | inl lt ↦ absurd (let less = ranked i j v w lt at_i at_j (λ late. omega (arith, late, same)) in omega (arith, less, same))
  | inr le ↦ elim (cases_lt j i) [
    | inl lt ↦ absurd (let less = ranked j i w v lt at_j at_i (λ late. omega (arith, late, same)) in omega (arith, less, same))
    | inr ge ↦ omega (arith, le, ge)
  ]
]

-- ---- names by their numbers

pub name_is : (names : List Named) (x : ℕ) → x < length names → slice_get names x ≡ Some (name_at names x)
name_is names x within = slice_get-get_or names x (record { object = 0; entry = 0; parent = None; path = []; bid = 0 }) within

pub path_is : (names : List Named) (x : ℕ) → x < length names → path_at names x ≡ (name_at names x).path
path_is names x within = ap (λ (o : Option Named). option_map_or (λ (w : Named). w.path) o []) (name_is names x within)

pub bid_is : (names : List Named) (x : ℕ) → x < length names → bid_at names x ≡ (name_at names x).bid
bid_is names x within = ap (λ (o : Option Named). option_map_or (λ (w : Named). w.bid) o 0) (name_is names x within)

pub name_in : (names : List Named) (x : ℕ) → x < length names → Has names (name_at names x)
name_in names x within = has_at names x (name_at names x) (name_is names x within)

-- the number of a name
pub number_of : (names : List Named) (w : Named) → Has names w → (x : ℕ) × (x < length names) × (name_at names x ≡ w)
number_of names w has =
    let it = place_of names w has in
    let within = slice_get_within names it.0 w it.1 in
    (it.0, within, same_Some (name_at names it.0) w (sym (name_is names it.0 within) ∙ it.1))

pub names_differ : (names : List Named) → AreApart names → Differ (λ (w : Named). w.bid) names
names_differ names apart = differ_from (λ (w : Named). w.bid) names apart

pub same_name : (names : List Named) (x y : ℕ) → AreApart names → x < length names → y < length names → (name_at names x).bid ≡ (name_at names y).bid → x ≡ y
same_name names x y apart within_x within_y same = apart x y (name_at names x) (name_at names y) (name_is names x within_x) (name_is names y within_y) same

-- ---- paths are no longer than names are many

long : (names : List Named) (n x : ℕ) → ((x : ℕ) → x < length names → IsLinkedUp names x) → x < n → x < length names → length (path_at names x) ≤ x + 1
long names zero x linked lt within = absurd (omega arith)
long names (suc n) x linked lt within =
    let it = linked x within in
    ap_le (go it.up it.before (λ p lower. long names n p linked (omega (arith, lower, lt)) (omega (arith, lower, within)))) (ap length it.path ∙ length_push (option_map_or (path_at names) it.up []) it.piece)
  where
    go : (up : Option ℕ) → ForSome up (λ p. p < x) → ((p : ℕ) → p < x → length (path_at names p) ≤ p + 1) → length (option_map_or (path_at names) up []) ≤ x
    go None before shorter = omega arith
    go (Some p) before shorter = let lower = before p refl in let most = shorter p lower in omega (arith, lower, most)

    ap_le : {a b : ℕ} → a ≤ x → b ≡ a + 1 → b ≤ x + 1
    ap_le le is = omega (arith, le, is)

pub short_names : (names : List Named) → ((x : ℕ) → x < length names → IsLinkedUp names x) → AreShort names
short_names names linked w has =
    let it = number_of names w has in
    let most = long names (suc it.0) it.0 linked (omega arith) it.1 in
    let same : length (path_at names it.0) ≡ length w.path = ap length (path_is names it.0 it.1) ∙ ap (λ (w : Named). length w.path) it.2 in
    omega (arith, most, same, it.1)

-- ---- winners

pub wins_path : (names : List Named) (winners : List ℕ) (x : ℕ) → AreWinners names winners → Wins names winners x → is_outbid names (name_at names x) ≡ false
wins_path names winners x are wins = outbid_none names (name_at names x) (λ v has same. (
    let it = number_of names v has in
    let of_x = are.each x wins.within in
    let path : path_at names it.0 ≡ path_at names x = path_is names it.0 it.1 ∙ ap (λ (w : Named). w.path) it.2 ∙ same ∙ sym (path_is names x wins.within) in
    let least = of_x.least it.0 it.1 path in
    let bid_x : bid_at names (get_or winners x 0) ≡ (name_at names x).bid = ap (bid_at names) wins.itself ∙ bid_is names x wins.within in
    let bid_v : bid_at names it.0 ≡ v.bid = bid_is names it.0 it.1 ∙ ap (λ (w : Named). w.bid) it.2 in
    omega (arith, least, bid_x, bid_v)))

pub wins_from : (names : List Named) (winners : List ℕ) (x : ℕ) → AreApart names → AreWinners names winners → x < length names → is_outbid names (name_at names x) ≡ false → Wins names winners x
wins_from names winners x apart are within none =
    let of_x = are.each x within in
    let w = get_or winners x 0 in
    let path : (name_at names w).path ≡ (name_at names x).path = sym (path_is names w of_x.within) ∙ of_x.same ∙ path_is names x within in
    let low = not_outbid names (name_at names x) (name_at names w) none (name_in names w of_x.within) path in
    let high = of_x.least x within refl in
    let same : (name_at names w).bid ≡ (name_at names x).bid = omega (arith, low, high, bid_is names w of_x.within, bid_is names x within) in
    record { within = within; itself = same_name names w x apart of_x.within within same }

pub same_winner : (names : List Named) (winners : List ℕ) (v w : ℕ) → AreApart names → AreWinners names winners → Wins names winners v → Wins names winners w → path_at names v ≡ path_at names w → v ≡ w
same_winner names winners v w apart are wins_v wins_w same =
    let of_v = are.each v wins_v.within in
    let of_w = are.each w wins_w.within in
    let low = of_v.least w wins_w.within (sym same) in
    let high = of_w.least v wins_v.within same in
    let bid_v : bid_at names (get_or winners v 0) ≡ bid_at names v = ap (bid_at names) wins_v.itself in
    let bid_w : bid_at names (get_or winners w 0) ≡ bid_at names w = ap (bid_at names) wins_w.itself in
    same_name names v w apart wins_v.within wins_w.within (omega (arith, low, high, bid_v, bid_w, bid_is names v wins_v.within, bid_is names w wins_w.within))

-- the winner of a path wins
pub winner_wins : (names : List Named) (winners : List ℕ) (x : ℕ) → AreApart names → AreWinners names winners → x < length names → Wins names winners (get_or winners x 0)
winner_wins names winners x apart are within =
    let of_x = are.each x within in
    let w = get_or winners x 0 in
    wins_from names winners w apart are of_x.within (outbid_none names (name_at names w) (λ v has same. (
    let it = number_of names v has in
    let path : path_at names it.0 ≡ path_at names x = path_is names it.0 it.1 ∙ ap (λ (w : Named). w.path) it.2 ∙ same ∙ sym (path_is names w of_x.within) ∙ of_x.same in
    let least = of_x.least it.0 it.1 path in
    let bid_v : bid_at names it.0 ≡ v.bid = bid_is names it.0 it.1 ∙ ap (λ (w : Named). w.bid) it.2 in
    omega (arith, least, bid_v, bid_is names w of_x.within))))

-- ---- numbers of paths above

pub key_path_up : (names : List Named) (w : ℕ) → key_path names (w + 1) ≡ path_at names w
key_path_up names w =
    let some : eqb (w + 1) 0 ≡ false = ne_eqb (w + 1) 0 (λ e. omega (arith, e)) in
    let one : w + 1 - 1 ≡ w = omega arith in
    ap (λ (b : Bool). cond b [] (path_at names (w + 1 - 1))) some ∙ ap (path_at names) one

pub some_path : (names : List Named) (x : ℕ) → IsLinkedUp names x → [] ≡ path_at names x → ⊥
some_path names x linked none = not_empty (option_map_or (path_at names) linked.up []) linked.piece (none ∙ linked.path)

pub same_key : (names : List Named) (winners : List ℕ) (a b : ℕ) → AreApart names → AreWinners names winners → ((x : ℕ) → x < length names → IsLinkedUp names x) → IsKey names winners a → IsKey names winners b → key_path names a ≡ key_path names b → a ≡ b
same_key names winners a b apart are linked (inl is_a) (inl is_b) same = is_a ∙ sym is_b
same_key names winners a b apart are linked (inl is_a) (inr key_b) same = absurd (some_path names key_b.0 (linked key_b.0 key_b.2.within) (ap (key_path names) (sym is_a) ∙ same ∙ ap (key_path names) key_b.1 ∙ key_path_up names key_b.0))
same_key names winners a b apart are linked (inr key_a) (inl is_b) same = absurd (some_path names key_a.0 (linked key_a.0 key_a.2.within) (ap (key_path names) (sym is_b) ∙ sym same ∙ ap (key_path names) key_a.1 ∙ key_path_up names key_a.0))
same_key names winners a b apart are linked (inr key_a) (inr key_b) same =
    let path : path_at names key_a.0 ≡ path_at names key_b.0 = sym (key_path_up names key_a.0) ∙ ap (key_path names) (sym key_a.1) ∙ same ∙ ap (key_path names) key_b.1 ∙ key_path_up names key_b.0 in
    key_a.1 ∙ ap (λ (w : ℕ). w + 1) (same_winner names winners key_a.0 key_b.0 apart are key_a.2 key_b.2 path) ∙ sym key_b.1

-- the number of the path above a name
pub key_above : (names : List Named) (winners : List ℕ) (x : ℕ) (up : Option ℕ) → AreApart names → AreWinners names winners → x < length names → ForSome up (λ p. p < x)
    → IsKey names winners (key_of winners up) × (key_path names (key_of winners up) ≡ option_map_or (path_at names) up [])
key_above names winners x None apart are within before = (inl refl, refl)
key_above names winners x (Some p) apart are within before =
    let lower = before p refl in
    let p_in : p < length names = omega (arith, lower, within) in
    let w = get_or winners p 0 in
    (inr (w, refl, winner_wins names winners p apart are p_in), key_path_up names w ∙ (are.each p p_in).same)

-- what is told of the name above
abbrev pub linked_up : (names : List Named) (x : ℕ) (up : Option ℕ) → ForSome up (λ p. p < x) → (piece : Piece) × (path_at names x ≡ option_map_or (path_at names) up [] ++ piece ∷ []) → IsLinkedUp names x
linked_up names x up before path = record { up = up; before = before; piece = path.0; path = path.1 }

-- the number of the path above a name
pub right_below : (names : List Named) (winners : List ℕ) (x key : ℕ) (linked : IsLinkedUp names x) → AreApart names → AreWinners names winners → x < length names → key ≡ key_of winners linked.up → IsRightBelow names winners key x
right_below names winners x key linked apart are within is =
    let above = key_above names winners x linked.up apart are within linked.before in
    record {
      key_is = subst (IsKey names winners) (sym is) above.0;
      piece = linked.piece;
      path = linked.path ∙ ap (λ (path : List Piece). path ++ linked.piece ∷ []) (sym above.1 ∙ ap (key_path names) (sym is));
    }

-- a name stands right below one path
pub one_key : (names : List Named) (winners : List ℕ) (a b x : ℕ) → AreApart names → AreWinners names winners → ((x : ℕ) → x < length names → IsLinkedUp names x) → IsRightBelow names winners a x → IsRightBelow names winners b x → a ≡ b
one_key names winners a b x apart are linked is_a is_b =
    same_key names winners a b apart are linked is_a.key_is is_b.key_is (same_from_push (key_path names a) (key_path names b) is_a.piece is_b.piece (sym is_a.path ∙ is_b.path)).0

-- a number is that of none, or 1 more than that of a name
pub key_few : (names : List Named) (winners : List ℕ) (key : ℕ) → IsKey names winners key → key < length names + 1
key_few names winners key (inl is) = omega (arith, is)
key_few names winners key (inr w) = omega (arith, w.1, w.2.within)

-- ---- families

-- a family of a path is its children
family_children : (names : List Named) (winners : List ℕ) (key : ℕ) (family : List ℕ) → AreApart names → AreWinners names winners → IsKey names winners key → IsFamily names winners AnyName key family
    → map (name_at names) family ≡ children_of names (key_path names key)
family_children names winners key family apart are is_key is =
    only_rising (λ (w : Named). w.bid) (map (name_at names) family) (children_of names (key_path names key))
    (rises_map (λ (w : Named). w.bid) (name_at names) (bid_at names) family (λ x has. bid_is names x ((is.each x has).1.0).within) is.rises)
    (children_rise names (key_path names key) (names_differ names apart)) into from
  where
    into : (z : Named) → Has (map (name_at names) family) z → Has (children_of names (key_path names key)) z
    into z has =
        let it = from_map (name_at names) family z has in
        let child = (is.each it.0 it.1).1 in
        subst (Has (children_of names (key_path names key))) it.2 (child_from names (key_path names key) (name_at names it.0) (record {
          among = name_in names it.0 child.0.within;
          wins = wins_path names winners it.0 are child.0;
          child = is_child_from (key_path names key) (name_at names it.0) child.1.piece (sym (path_is names it.0 child.0.within) ∙ child.1.path);
        }))

    from : (z : Named) → Has (children_of names (key_path names key)) z → Has (map (name_at names) family) z
    from z has =
        let child = child_is names (key_path names key) z has in
        let it = number_of names z child.among in
        let wins = wins_from names winners it.0 apart are it.1 (ap (is_outbid names) it.2 ∙ child.wins) in
        let split = child_path (key_path names key) z child.child in
        let here : IsRightBelow names winners key it.0 =
        record { key_is = is_key; piece = split.0; path = path_is names it.0 it.1 ∙ ap (λ (w : Named). w.path) it.2 ∙ split.1 } in
        subst (Has (map (name_at names) family)) it.2 (has_map (name_at names) family it.0 (is.found it.0 tt (wins, here)))

-- what a chain gives: each winner, and all below it
abbrev pub chain_gives : List Named → List ℕ → List Named
chain_gives names family = flat_map (λ x. name_at names x ∷ below names (name_at names x).path) family

-- a family gives all below its path
pub family_below : (names : List Named) (winners : List ℕ) (key : ℕ) (family : List ℕ) → AreApart names → AreWinners names winners → ((x : ℕ) → x < length names → IsLinkedUp names x) → IsKey names winners key
    → IsFamily names winners AnyName key family → chain_gives names family ≡ below names (key_path names key)
family_below names winners key family apart are linked is_key is =
    sym (flat_map_of_map (name_at names) (λ (w : Named). w ∷ below names w.path) family)
    ∙ ap (flat_map (λ (w : Named). w ∷ below names w.path)) (family_children names winners key family apart are is_key is)
    ∙ sym (below_unfolds names (key_path names key) (short_names names linked))

-- ---- chains

pub hangs_set : (next : List (Option ℕ)) (n : ℕ) (v first : Option ℕ) (xs : List ℕ) → (Has xs n → ⊥) → Hangs next first xs → Hangs (slice_set next n v) first xs
hangs_set next n v first [] fresh hangs = hangs
hangs_set next n v first (x ∷ xs) fresh hangs = (
  hangs.0,
  subst (λ (o : Option ℕ). Hangs (slice_set next n v) o xs) (sym (get_or-set_other next n x v None (λ same. fresh (inl same))))
      (hangs_set next n v (get_or next x None) xs (λ has. fresh (inr has)) hangs.1),
)

-- no winner hangs at first
pub no_chains : (names : List Named) (winners : List ℕ) (some : ℕ → Type 0) (first next : List (Option ℕ)) → length first ≡ length names + 1 → length next ≡ length names → ((key : ℕ) → key < length first → get_or first key None ≡ None)
    → ((x : ℕ) → some x → x < length names → ⊥) → AreChains names winners some first next
no_chains names winners some first next wide long empty none = record {
  wide = wide;
  long = long;
  family = λ key. [];
  hang = λ key lt. empty key lt;
  are = λ key lt. record { rises = tt; each = λ x has. absurd has; found = λ x among child. absurd (none x among child.0.within) };
}

-- the same chains of other names, if they have the same winners
pub chains_same : (names : List Named) (winners : List ℕ) (some other : ℕ → Type 0) (first next : List (Option ℕ)) → ((x : ℕ) → some x → other x) → ((x : ℕ) → other x → Wins names winners x → some x)
    → AreChains names winners some first next → AreChains names winners other first next
chains_same names winners some other first next into from are = record {
  wide = are.wide;
  long = are.long;
  family = are.family;
  hang = are.hang;
  are = λ key lt. (
      let is = are.are key lt in
      record { rises = is.rises; each = λ x has. (into x (is.each x has).0, (is.each x has).1); found = λ x among child. is.found x (from x among child.0) child });
}

-- one winner more, before those that hang
module _ (names : List Named) (winners : List ℕ) (some more : ℕ → Type 0) (first next : List (Option ℕ)) (key x : ℕ) (apart : AreApart names) (are : AreWinners names winners) (linked : (x : ℕ) → x < length names → IsLinkedUp names x)
    (child : IsChildOf names winners key x) (fresh : some x → ⊥) (new : more x) (into : (y : ℕ) → some y → more y) (from : (y : ℕ) → more y → some y ⊎ (y ≡ x)) (later : (y : ℕ) → some y → y < length names → bid_at names x < bid_at names y)
    (so_far : AreChains names winners some first next) where
  key_in : key < length first
  key_in = omega (arith, key_few names winners key child.1.key_is, so_far.wide)

  abbrev first' : List (Option ℕ)
  first' = slice_set first key (Some x)

  abbrev next' : List (Option ℕ)
  next' = slice_set next x (get_or first key None)

  not_there : (k : ℕ) → k < length first → Has (so_far.family k) x → ⊥
  not_there k lt has = fresh ((so_far.are k lt).each x has).0

  hangs : (k : ℕ) → k < length first → Hangs next' (get_or first k None) (so_far.family k)
  hangs k lt = hangs_set next x (get_or first key None) (get_or first k None) (so_far.family k) (not_there k lt) (so_far.hang k lt)

  hangs_here : Hangs next' (get_or first' key None) (x ∷ so_far.family key)
  hangs_here = (
    get_or-set_same first key (Some x) None key_in,
    subst (λ (o : Option ℕ). Hangs next' o (so_far.family key)) (sym (get_or-set_same next x (get_or first key None) None (omega (arith, child.0.within, so_far.long)))) (hangs key key_in),
  )

  family_here : IsFamily names winners more key (x ∷ so_far.family key)
  family_here = record {
    rises = ((λ y has. later y (is.each y has).0 ((is.each y has).1.0).within), is.rises);
    each = each;
    found = λ y among its. elim (from y among) [ inl before ↦ inr (is.found y before its) | inr same ↦ inl (sym same) ];
  } where
    is : IsFamily names winners some key (so_far.family key)
    is = so_far.are key key_in

    each : (y : ℕ) → (x ≡ y) ⊎ Has (so_far.family key) y → more y × IsChildOf names winners key y
    each y (inl same) = (subst more same new, subst (IsChildOf names winners key) same child)
    each y (inr has) = (into y (is.each y has).0, (is.each y has).1)

  family_other : (k : ℕ) → k < length first → (k ≡ key → ⊥) → IsFamily names winners more k (so_far.family k)
  family_other k lt other = record {
    rises = is.rises;
    each = λ y has. (into y (is.each y has).0, (is.each y has).1);
    found = λ y among its. elim (from y among) [
      | inl before ↦ is.found y before its
      | inr same ↦ absurd (other (one_key names winners k key x apart are linked (subst (IsRightBelow names winners k) same its.1) child.1))
    ];
  } where
    is : IsFamily names winners some k (so_far.family k)
    is = so_far.are k lt

  pub chains_more : AreChains names winners more first' next'
  chains_more = record {
    wide = length-set first key (Some x) ∙ so_far.wide;
    long = length-set next x (get_or first key None) ∙ so_far.long;
    family = family;
    hang = λ k lt. (
        let within : k < length first = omega (arith, lt, length-set first key (Some x)) in
        elim (cases_eq k key) [
          | inl same ↦ subst (λ (n : ℕ). Hangs next' (get_or first' n None) (family n)) (sym same) (subst (λ (b : Bool). Hangs next' (get_or first' key None) (cond b (x ∷ so_far.family key) (so_far.family key))) (sym (eq-eqb key key refl)) hangs_here)
          | inr other ↦ subst (λ (b : Bool). Hangs next' (get_or first' k None) (cond b (x ∷ so_far.family key) (so_far.family k))) (sym (ne_eqb k key other))
              (subst (λ (o : Option ℕ). Hangs next' o (so_far.family k)) (sym (get_or-set_other first key k (Some x) None other)) (hangs k within))
        ]);
    are = λ k lt. (
        let within : k < length first = omega (arith, lt, length-set first key (Some x)) in
        elim (cases_eq k key) [
          | inl same ↦ subst (λ (n : ℕ). IsFamily names winners more n (family n)) (sym same) (subst (λ (b : Bool). IsFamily names winners more key (cond b (x ∷ so_far.family key) (so_far.family key))) (sym (eq-eqb key key refl)) family_here)
          | inr other ↦ subst (λ (b : Bool). IsFamily names winners more k (cond b (x ∷ so_far.family key) (so_far.family k))) (sym (ne_eqb k key other)) (family_other k within other)
        ]);
  } where
    family : ℕ → List ℕ
    family k = cond (eqb k key) (x ∷ so_far.family key) (so_far.family k)

-- ---- names that were passed

module _ (names : List Named) (winners : List ℕ) (from to n : ℕ) where
  pub passed_on : (y : ℕ) → Passed names from to (n + 1) y → Passed names from to n y
  passed_on y (inl late) = inl late
  passed_on y (inr p) = inr (p.0, omega (arith, p.1))

  pub passed_split : (y : ℕ) → Passed names from to n y → Passed names from to (n + 1) y ⊎ (y ≡ n)
  passed_split y (inl late) = inl (inl late)
  passed_split y (inr p) = elim (cases_eq y n) [ inl same ↦ inr same | inr other ↦ inl (inr (p.0, omega (arith, p.1, other))) ]

  -- the name at hand doesn't win
  pub passed_loser : (get_or winners n 0 ≡ n → ⊥) → (y : ℕ) → Passed names from to n y → Wins names winners y → Passed names from to (n + 1) y
  passed_loser loses y passed wins = elim (passed_split y passed) [ inl before ↦ before | inr same ↦ absurd (loses (ap (λ (k : ℕ). get_or winners k 0) (sym same) ∙ wins.itself ∙ same)) ]

  -- its bid is out of bounds
  pub passed_low : bid_at names n < from → (y : ℕ) → Passed names from to n y → Wins names winners y → Passed names from to (n + 1) y
  passed_low low y (inl late) wins = inl late
  passed_low low y (inr p) wins = elim (cases_eq y n) [
    | inl same ↦ absurd (let its = ap (bid_at names) same in omega (arith, p.0, its, low))
    | inr other ↦ inr (p.0, omega (arith, p.1, other))
  ]

  pub passed_high : to ≤ bid_at names n → (y : ℕ) → Passed names from to n y → Wins names winners y → Passed names from to (n + 1) y
  passed_high high y (inl late) wins = inl late
  passed_high high y (inr p) wins = elim (cases_eq y n) [
    | inl same ↦ inl (let its = ap (bid_at names) same in omega (arith, its, high))
    | inr other ↦ inr (p.0, omega (arith, p.1, other))
  ]

-- a winner in bounds bids less than those that were passed
pub passed_later : (names : List Named) (from to n : ℕ) → AreRanked names → n < length names → (2 ^ 63 ≤ from) ⊎ (to ≤ 2 ^ 63) → bid_at names n < to → (y : ℕ) → Passed names from to (n + 1) y → y < length names → bid_at names n < bid_at names y
passed_later names from to n ranked within bounds low y (inl late) there = omega (arith, late, low)
passed_later names from to n ranked within bounds low y (inr p) there =
    let bid_n = bid_is names n within in
    let bid_y = bid_is names y there in
    let less = ranked n y (name_at names n) (name_at names y) (omega (arith, p.1)) (name_is names n within) (name_is names y there) (λ declared. kind bounds (omega (arith, declared, bid_n)) (omega (arith, p.0, bid_y))) in
    omega (arith, less, bid_n, bid_y)
  where
    kind : (2 ^ 63 ≤ from) ⊎ (to ≤ 2 ^ 63) → 2 ^ 63 ≤ bid_at names n → from ≤ (name_at names y).bid → 2 ^ 63 ≤ (name_at names y).bid
    kind (inl high) declared le = omega (arith, high, le)
    kind (inr lower) declared le = absurd (omega (arith, lower, declared, low))

pub passed_fresh : (names : List Named) (from to n : ℕ) → bid_at names n < to → Passed names from to (n + 1) n → ⊥
passed_fresh names from to n low (inl late) = omega (arith, late, low)
passed_fresh names from to n low (inr p) = omega (arith, p.1)

pub passed_none : (names : List Named) (from to : ℕ) → ((x : ℕ) → x < length names → bid_at names x < to) → (x : ℕ) → Passed names from to (length names) x → x < length names → ⊥
passed_none names from to lower x (inl late) within = let low = lower x within in omega (arith, late, low)
passed_none names from to lower x (inr p) within = omega (arith, p.1, within)

-- the names from one bid on have been passed, and those below it have not
pub passed_half : (names : List Named) (from to : ℕ) → from ≤ to → (x : ℕ) → Passed names from to 0 x → Passed names 0 from (length names) x
passed_half names from to le x (inl late) = inl (omega (arith, late, le))
passed_half names from to le x (inr p) = inl p.0

pub half_passed : (names : List Named) (winners : List ℕ) (from to : ℕ) (x : ℕ) → Passed names 0 from (length names) x → Wins names winners x → Passed names from to 0 x
half_passed names winners from to x (inl late) wins = inr (late, omega arith)
half_passed names winners from to x (inr p) wins = absurd (omega (arith, p.1, wins.within))

pub passed_new : (names : List Named) (from to n : ℕ) → from ≤ bid_at names n → Passed names from to n n
passed_new names from to n low = inr (low, omega arith)

-- ---- names that are left

-- the name at hand hangs nowhere
pub hung_past : (names : List Named) (winners : List ℕ) (from to n : ℕ) (first next : List (Option ℕ)) → ((y : ℕ) → Passed names from to n y → Wins names winners y → Passed names from to (n + 1) y)
    → AreHungFrom names winners from to (n + 1) first next → AreHungFrom names winners from to n first next
hung_past names winners from to n first next past so_far = chains_same names winners (Passed names from to (n + 1)) (Passed names from to n) first next (passed_on names winners from to n) past so_far

-- it hangs before those that were passed
pub hung_more : (names : List Named) (winners : List ℕ) (from to n : ℕ) (first next : List (Option ℕ)) (key : ℕ) → AreRanked names → AreWinners names winners → (2 ^ 63 ≤ from) ⊎ (to ≤ 2 ^ 63) → ((y : ℕ) → y < length names → IsLinkedUp names y)
    → (linked : IsLinkedUp names n) → key ≡ key_of winners linked.up → Wins names winners n → from ≤ bid_at names n → bid_at names n < to
    → AreHungFrom names winners from to (n + 1) first next → AreHungFrom names winners from to n (slice_set first key (Some n)) (slice_set next n (get_or first key None))
hung_more names winners from to n first next key ranked are bounds all linked is wins low high so_far = chains_more names winners (Passed names from to (n + 1)) (Passed names from to n) first next key n (ranked_apart names ranked) are all
    (wins, right_below names winners n key linked (ranked_apart names ranked) are wins.within is) (passed_fresh names from to n high) (passed_new names from to n low) (passed_on names winners from to n) (passed_split names winners from to n)
    (passed_later names from to n ranked wins.within bounds high) so_far

-- where the rows were just made
none_yet : (names : List Named) (winners : List ℕ) (some : ℕ → Type 0) (first next : List (Option ℕ)) (n m : ℕ) → first ≡ replicate n None → next ≡ replicate m None → n ≡ m + 1 → m ≡ length names → ((x : ℕ) → some x → x < length names → ⊥) → AreChains names winners some first next
none_yet names winners some first next n m first_is next_is more all none =
    no_chains names winners some first next (ap length first_is ∙ length-replicate n nothing ∙ more ∙ ap (λ (k : ℕ). k + 1) all) (ap length next_is ∙ length-replicate m nothing ∙ all)
    (λ key lt. ap (λ (xs : List (Option ℕ)). get_or xs key None) first_is ∙ get_or-replicate n key nothing None (omega (arith, lt, ap length first_is, length-replicate n nothing))) none
  where
    nothing : Option ℕ
    nothing = None

pub none_hung : (names : List Named) (winners : List ℕ) (from to : ℕ) (first next : List (Option ℕ)) (n m : ℕ) → first ≡ replicate n None → next ≡ replicate m None → n ≡ m + 1 → m ≡ length names → ((x : ℕ) → x < length names → bid_at names x < to)
    → AreHungFrom names winners from to (length names) first next
none_hung names winners from to first next n m first_is next_is more all lower = none_yet names winners (Passed names from to (length names)) first next n m first_is next_is more all (passed_none names from to lower)

-- those from one bid on hang, and those below it are to
pub hung_half : (names : List Named) (winners : List ℕ) (from to : ℕ) (first next : List (Option ℕ)) → from ≤ to → AreHungFrom names winners from to 0 first next → AreHungFrom names winners 0 from (length names) first next
hung_half names winners from to first next le hung = chains_same names winners (Passed names from to 0) (Passed names 0 from (length names)) first next (passed_half names from to le) (half_passed names winners from to) hung
