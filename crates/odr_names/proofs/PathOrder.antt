-- The order of paths is total, and ties equal paths alone.
use Rattle.std.proofs.Common.{◌≡◌, inl, inr, ℕ, ◌≤◌, false, List, [], ◌∷◌, ◌++◌, Some, None, refl, sym, ap, ◌∙◌, arith, subst}
use Rattle.std.specs.Prelude.{reverse}
use Rattle.std.specs.Cmp.{IsTotalOrder}
use Rattle.std.specs.Cmp.Lexicographic.{options_total, slice_cmp}
use Rattle.std.specs.Option.{option_cmp}
use Rattle.std.specs.Ordering.{is_gt, is_lt, nat_cmp, ordering_reverse, ordering_then}
use Rattle.std.specs.declared.cmp.Ordering.{Ordering}
use Rattle.std.specs.declared.cmp.Ordering.TheVariants.{Less, Equal, Greater}
use Rattle.std.proofs.lemmas.Bool.{both_ways, cases_lt, le-ltb, ne_eqb}
use Rattle.std.proofs.lemmas.Cmp.{lists_total, nat_cmp_total, nat_list_cmp_total, on_total, then_total, tied_itself}
use Rattle.std.proofs.lemmas.List.{reverse-append, reverse-reverse}
use Rattle.std.proofs.lemmas.Map.Lookups.{CmpEqualImpliesEq, exact_bytes, exact_unsigned}
use Rattle.odr_names.specs.declared.winners.Ranked.{Ranked}
use Rattle.odr_names.specs.Numbered.{SamePath, path_at}
use Rattle.odr_names.specs.PathOrder.{own_order, path_order, piece_order, rank_order, text_order}
use Rattle.type_names.specs.Names.{Named}
use Rattle.type_names.specs.Paths.{Piece}

-- ---- it is total

texts_total : IsTotalOrder text_order
texts_total = options_total nat_list_cmp_total

owns_total : IsTotalOrder own_order
owns_total = options_total (then_total (on_total (λ (p : ℕ × ℕ). p.0) nat_cmp_total) (on_total (λ (p : ℕ × ℕ). p.1) nat_cmp_total))

pieces_total : IsTotalOrder piece_order
pieces_total =
    then_total (then_total (on_total (λ (p : Piece). p.ordinal) nat_cmp_total) (on_total (λ (p : Piece). p.parts.tag) nat_cmp_total))
    (then_total (then_total (on_total (λ (p : Piece). p.parts.name) texts_total) (on_total (λ (p : Piece). p.parts.linkage) texts_total))
    (then_total (on_total (λ (p : Piece). p.parts.spelled) texts_total) (on_total (λ (p : Piece). p.parts.private) owns_total)))

paths_total : IsTotalOrder path_order
paths_total = on_total (λ (path : List Piece). reverse path) (lists_total pieces_total)

-- the order by hash and path, and that of ranks
abbrev key_order : List Named → Ranked → Ranked → Ordering
key_order names a b = ordering_then (nat_cmp a.hash b.hash) (path_order (path_at names a.name) (path_at names b.name))

keys_total : (names : List Named) → IsTotalOrder (key_order names)
keys_total names = then_total (on_total (λ (r : Ranked). r.hash) nat_cmp_total) (on_total (λ (r : Ranked). path_at names r.name) paths_total)

pub ranks_total : (names : List Named) → IsTotalOrder (rank_order names)
ranks_total names = then_total (keys_total names) (on_total (λ (r : Ranked). r.bid) nat_cmp_total)

-- ---- it ties equal ones alone

less_not : {G : Type 0} → Less ≡ Equal → G
less_not e = absurd (both_ways _ (ap is_lt e) refl)

greater_not : {G : Type 0} → Greater ≡ Equal → G
greater_not e = absurd (both_ways _ (ap is_gt e) refl)

both_tied : (a b : Ordering) → ordering_then a b ≡ Equal → (a ≡ Equal) × (b ≡ Equal)
both_tied Less b e = less_not e
both_tied Equal b e = (refl, e)
both_tied Greater b e = greater_not e

exact_options : {K : Type 0} (R : K → K → Ordering) → CmpEqualImpliesEq R → CmpEqualImpliesEq (option_cmp R)
exact_options R exact None None e = refl
exact_options R exact None (Some b) e = less_not e
exact_options R exact (Some a) None e = greater_not e
exact_options {K} R exact (Some a) (Some b) e = ap (λ (x : K). Some x) (exact a b e)

exact_lists : {K : Type 0} (R : K → K → Ordering) → CmpEqualImpliesEq R → CmpEqualImpliesEq (slice_cmp R)
exact_lists R exact [] [] e = refl
exact_lists R exact [] (y ∷ ys) e = less_not e
exact_lists R exact (x ∷ xs) [] e = greater_not e
exact_lists R exact (x ∷ xs) (y ∷ ys) e = (
    let both = both_tied (R x y) (slice_cmp R xs ys) e in
    let first = exact x y both.0 in
    let more = exact_lists R exact xs ys both.1 in
    λ i. first i ∷ more i)

exact_texts : CmpEqualImpliesEq text_order
exact_texts = exact_options (slice_cmp nat_cmp) exact_bytes

exact_owns : CmpEqualImpliesEq own_order
exact_owns = exact_options _ (λ a b e. (
    let both = both_tied (nat_cmp a.0 b.0) (nat_cmp a.1 b.1) e in
    let first = exact_unsigned a.0 b.0 both.0 in
    let second = exact_unsigned a.1 b.1 both.1 in
    λ i. (first i, second i)))

exact_pieces : CmpEqualImpliesEq piece_order
exact_pieces a b e =
    let sides = both_tied _ _ e in
    let numbers = both_tied _ _ sides.0 in
    let texts = both_tied _ _ sides.1 in
    let front = both_tied _ _ texts.0 in
    let back = both_tied _ _ texts.1 in
    let ordinal = exact_unsigned a.ordinal b.ordinal numbers.0 in
    let tag = exact_unsigned a.parts.tag b.parts.tag numbers.1 in
    let name = exact_texts a.parts.name b.parts.name front.0 in
    let linkage = exact_texts a.parts.linkage b.parts.linkage front.1 in
    let spelled = exact_texts a.parts.spelled b.parts.spelled back.0 in
    let private = exact_owns a.parts.private b.parts.private back.1 in
    λ i. record { parts = record { tag = tag i; name = name i; linkage = linkage i; spelled = spelled i; private = private i }; ordinal = ordinal i }

exact_paths : CmpEqualImpliesEq path_order
exact_paths a b e = sym (reverse-reverse a) ∙ ap reverse (exact_lists piece_order exact_pieces (reverse a) (reverse b) e) ∙ reverse-reverse b

pub tied_path : (a b : List Piece) → a ≡ b → path_order a b ≡ Equal
tied_path a b same = subst (λ (b : List Piece). path_order a b ≡ Equal) same (tied_itself paths_total a)

-- ---- paths that go on

-- the last pieces are compared first
pub order_push : (a b : List Piece) (p q : Piece) → path_order (a ++ p ∷ []) (b ++ q ∷ []) ≡ ordering_then (piece_order p q) (path_order a b)
order_push a b p q = λ i. slice_cmp piece_order (reverse-append a (p ∷ []) i) (reverse-append b (q ∷ []) i)

pub order_longer : (a : List Piece) (p : Piece) → path_order (a ++ p ∷ []) [] ≡ Greater
order_longer a p = ap (λ (path : List Piece). slice_cmp piece_order path []) (reverse-append a (p ∷ []))

pub order_shorter : (b : List Piece) (q : Piece) → path_order [] (b ++ q ∷ []) ≡ Less
order_shorter b q = ap (λ (path : List Piece). slice_cmp piece_order [] path) (reverse-append b (q ∷ []))

-- ---- ranks in order

not_above : (o : Ordering) → is_gt o ≡ false → is_lt o ≡ false → o ≡ Equal
not_above Less gt lt = absurd (both_ways _ lt refl)
not_above Equal gt lt = refl
not_above Greater gt lt = absurd (both_ways _ gt refl)

turned : (o : Ordering) → is_gt (ordering_reverse o) ≡ is_lt o
turned Less = refl
turned Equal = refl
turned Greater = refl

turned_back : (o : Ordering) → is_lt (ordering_reverse o) ≡ is_gt o
turned_back Less = refl
turned_back Equal = refl
turned_back Greater = refl

first_up : (a b : Ordering) → is_gt (ordering_then a b) ≡ false → is_gt a ≡ false
first_up Less b up = refl
first_up Equal b up = refl
first_up Greater b up = up

-- what is not below stands behind
pub not_behind : (names : List Named) (r s : Ranked) → is_lt (rank_order names s r) ≡ false → is_gt (rank_order names r s) ≡ false
not_behind names r s not_below = ap is_gt ((ranks_total names).antisymm r s) ∙ turned (rank_order names s r) ∙ not_below

-- of ranks of one path the bids rise
pub bids_rise : (names : List Named) (r s : Ranked) → r.hash ≡ s.hash → SamePath names r.name s.name → is_gt (rank_order names r s) ≡ false → r.bid ≤ s.bid
bids_rise names r s hash path up = elim (cases_lt s.bid r.bid) [
  | inr le ↦ le
  | inl lt ↦ absurd (
      let bids : nat_cmp r.bid s.bid ≡ Greater = rw (le-ltb r.bid s.bid (omega arith), ne_eqb r.bid s.bid (λ e. omega (arith, e, lt))) refl in
      let key : key_order names r s ≡ Equal = rw (subst (λ (h : ℕ). nat_cmp r.hash h ≡ Equal) hash (tied_itself nat_cmp_total r.hash), tied_path (path_at names r.name) (path_at names s.name) path) refl in
      let over : rank_order names r s ≡ Greater = rw (key, bids) refl in
      both_ways _ up (ap is_gt over))
]

-- a rank between two of one path is of that path
pub between : (names : List Named) (r s t : Ranked) → r.hash ≡ t.hash → SamePath names r.name t.name → is_gt (rank_order names r s) ≡ false → is_gt (rank_order names s t) ≡ false → SamePath names s.name t.name
between names r s t hash path low high =
    let order = keys_total names in
    let key : key_order names r t ≡ Equal = rw (subst (λ (h : ℕ). nat_cmp r.hash h ≡ Equal) hash (tied_itself nat_cmp_total r.hash), tied_path (path_at names r.name) (path_at names t.name) path) refl in
    let same : key_order names r s ≡ key_order names t s = order.congr r t s key in
    let up : is_gt (key_order names t s) ≡ false = sym (ap is_gt same) ∙ first_up (key_order names r s) (nat_cmp r.bid s.bid) low in
    let down : is_lt (key_order names t s) ≡ false = ap is_lt (order.antisymm t s) ∙ turned_back (key_order names s t) ∙ first_up (key_order names s t) (nat_cmp s.bid t.bid) high in
    let tied = both_tied (nat_cmp t.hash s.hash) _ (not_above (key_order names t s) up down) in
    sym (exact_paths (path_at names t.name) (path_at names s.name) tied.1)
