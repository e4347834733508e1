-- Chains as they are kept: the links of paths and their winners.
use Rattle.std.proofs.Common.{◌≡◌, ℕ, ◌+◌, ◌-◌, ◌<◌, Bool, cond, List, [], ◌∷◌, ◌++◌, length, map, drop, zero, suc, replicate, Option, Some, None, get_or, slice_set, refl, sym, ap, ◌∙◌, arith}
use Rattle.std.proofs.lemmas.Bool.{ne_eqb}
use Rattle.std.proofs.lemmas.List.{drop-replicate, drop-set-add, get_or-drop, get_or-map, map-set, map_push, set-get_or}
use Rattle.link_graph.specs.declared.pool.Link.{Link}
use Rattle.link_graph.specs.PoolOrder.{firsts, name_of, nexts}

-- ---- numbers in links

pub name_none : (n : ℕ) → n ≡ 0 → name_of n ≡ None
name_none n is = ap name_of is

pub name_some : (n : ℕ) → (n ≡ 0 → ⊥) → name_of n ≡ Some (n - 1)
name_some n some = ap (λ (b : Bool). cond b None (Some (n - 1))) (ne_eqb n 0 some)

name_up : (x : ℕ) → name_of (x + 1) ≡ Some x
name_up x = name_some (x + 1) (λ e. omega (arith, e)) ∙ ap (λ (k : ℕ). Some k) {x = x + 1 - 1} {y = x} (omega arith)

pub opened_more : (opened longer : List ℕ) (n : ℕ) → longer ≡ opened ++ n ∷ [] → map name_of longer ≡ map name_of opened ++ name_of n ∷ []
opened_more opened longer n is = ap (map name_of) is ∙ map_push name_of opened n

-- ---- links

abbrev first_in : Link → Option ℕ
first_in link = name_of link.first

abbrev next_in : Link → Option ℕ
next_in link = name_of link.next

pub first_at : (links : List Link) (k : ℕ) (d : Link) → k < length links → get_or (firsts links) k None ≡ name_of (get_or links k d).first
first_at links k d lt = get_or-map first_in links k d None lt

pub next_at : (links : List Link) (x : ℕ) (d : Link) → x + 1 < length links → get_or (nexts links) x None ≡ name_of (get_or links (x + 1) d).next
next_at links x d lt = get_or-drop 1 (map next_in links) x None ∙ ap (λ (k : ℕ). get_or (map next_in links) k None) {x = 1 + x} {y = x + 1} (omega arith) ∙ get_or-map next_in links (x + 1) d None lt

-- the number of the first link is opened
pub opened_one : (links : List Link) (d : Link) (none opened : List ℕ) → 0 < length links → none ≡ [] → opened ≡ none ++ (get_or links 0 d).first ∷ [] → map name_of opened ≡ [] ++ get_or (firsts links) 0 None ∷ []
opened_one links d none opened some is_none is =
    opened_more none opened (get_or links 0 d).first is ∙ ap (λ (xs : List ℕ). map name_of xs ++ name_of (get_or links 0 d).first ∷ []) is_none ∙ ap (λ (o : Option ℕ). [] ++ o ∷ []) (sym (first_at links 0 d some))

-- those of a winner's link are
pub opened_two : (links : List Link) (d : Link) (top : ℕ) (left one two : List ℕ) → (top ≡ 0 → ⊥) → top < length links → one ≡ left ++ (get_or links top d).next ∷ [] → two ≡ one ++ (get_or links top d).first ∷ []
    → map name_of two ≡ (map name_of left ++ get_or (nexts links) (top - 1) None ∷ []) ++ get_or (firsts links) (top - 1 + 1) None ∷ []
opened_two links d top left one two some within is_one is_two =
    let link = get_or links top d in
    let back : top - 1 + 1 ≡ top = omega (arith, some) in
    let next : get_or (nexts links) (top - 1) None ≡ name_of link.next = next_at links (top - 1) d (omega (arith, back, within)) ∙ ap (λ (k : ℕ). name_of (get_or links k d).next) back in
    let first : get_or (firsts links) (top - 1 + 1) None ≡ name_of link.first = ap (λ (k : ℕ). get_or (firsts links) k None) back ∙ first_at links top d within in
    opened_more one two link.first is_two ∙ ap (λ (xs : List (Option ℕ)). xs ++ name_of link.first ∷ []) (opened_more left one link.next is_one)
    ∙ ap (λ (o : Option ℕ). (map name_of left ++ o ∷ []) ++ name_of link.first ∷ []) (sym next) ∙ ap (λ (o : Option ℕ). (map name_of left ++ get_or (nexts links) (top - 1) None ∷ []) ++ o ∷ []) (sym first)

-- a link whose part is put as it was
part_stays : {A : Type 0} (part : Link → A) (links : List Link) (k : ℕ) (d link : Link) → part link ≡ part (get_or links k d) → map part (slice_set links k link) ≡ map part links
part_stays part links k d link same =
    map-set part links k link ∙ ap (slice_set (map part links) k) same ∙ sym (map-set part links k (get_or links k d)) ∙ ap (map part) (set-get_or links k d)

-- name x is put before those right below the path of the number: what stands at the name, at the number, and at the number then
module _ (links : List Link) (key x : ℕ) (at_x at_key at_last d e f : Link) (key_in : key < length links) (x_is : at_x ≡ get_or links (x + 1) d) (key_is : at_key ≡ get_or links key e) where
  abbrev longer : List Link
  longer = slice_set links (x + 1) (record { first = at_x.first; next = at_key.first })

  abbrev hung : List Link
  hung = slice_set longer key (record { first = x + 1; next = at_last.next })

  pub firsts_hung : firsts hung ≡ slice_set (firsts links) key (Some x)
  firsts_hung =
      map-set first_in longer key (record { first = x + 1; next = at_last.next }) ∙ ap (slice_set (map first_in longer) key) (name_up x)
      ∙ ap (λ (xs : List (Option ℕ)). slice_set xs key (Some x)) (part_stays first_in links (x + 1) d (record { first = at_x.first; next = at_key.first }) (ap first_in x_is))

  pub nexts_hung : at_last ≡ get_or longer key f → nexts hung ≡ slice_set (nexts links) x (get_or (firsts links) key None)
  nexts_hung last_is =
      ap (drop 1) (part_stays next_in longer key f (record { first = x + 1; next = at_last.next }) (ap next_in last_is) ∙ map-set next_in links (x + 1) (record { first = at_x.first; next = at_key.first }))
      ∙ ap (λ (k : ℕ). drop 1 (slice_set (map next_in links) k (name_of at_key.first))) {x = x + 1} {y = 1 + x} (omega arith)
      ∙ drop-set-add 1 (map next_in links) x (name_of at_key.first) ∙ ap (slice_set (nexts links) x) (ap first_in key_is ∙ sym (first_at links key e key_in))

-- ---- no links

map_replicate : {A B : Type 0} (f : A → B) (n : ℕ) (a : A) → map f (replicate n a) ≡ replicate n (f a)
map_replicate f zero a = refl
map_replicate {A} {B} f (suc n) a = ap (λ (bs : List B). f a ∷ bs) (map_replicate f n a)

abbrev pub no_link : Link
no_link = record { first = 0; next = 0 }

pub firsts_none : (n : ℕ) → firsts (replicate n no_link) ≡ replicate n None
firsts_none n = map_replicate first_in n no_link

pub nexts_none : (n : ℕ) → nexts (replicate (n + 1) no_link) ≡ replicate n None
nexts_none n = ap (drop 1) (map_replicate next_in (n + 1) no_link) ∙ drop-replicate 1 (n + 1) (next_in no_link) ∙ ap (λ (k : ℕ). replicate k (next_in no_link)) {x = n + 1 - 1} {y = n} (omega arith)
