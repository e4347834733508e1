-- The names of a link stand in the order of their bids but for declarations: a bid tells whether it is one, the object, and the entry.
use Rattle.std.proofs.Common.{◌≡◌, ◌⊎◌, inl, inr, ℕ, zero, suc, ◌+◌, ◌-◌, ◌*◌, ◌^◌, ◌<◌, ◌≤◌, Bool, true, false, cond, List, [], ◌∷◌, length, Some, None, slice_get, All, refl, ap, arith, subst, filter_map, flat_map}
use Rattle.std.specs.Prelude.{if◌then◌else◌}
use Rattle.std.specs.List.{cons_option, enumerate_from}
use Rattle.std.proofs.lemmas.Option.{get_or_from_slice_get, none-some, same_Some, slice_get_within}
use Rattle.dwarf_types.specs.declared.analysis.Analysis.{Analysis}
use Rattle.dwarf_types.specs.declared.entry.Entry.{Entry}
use Rattle.dwarf_types.specs.Sound.{IsSound}
use Rattle.odr_names.specs.Numbered.{objects_of}
use Rattle.odr_names.proofs.ObjectLists.{object_parts}
use Rattle.type_names.specs.Entries.{is_declaration}
use Rattle.type_names.specs.Heads.{Object, entries_of, is_pooled}
use Rattle.type_names.specs.Names.{Named, named_of, names, names_in}
use Rattle.link_graph.specs.Merged.{linked_names}
use Rattle.link_graph.specs.PoolOrder.{AreRanked}
use Rattle.link_graph.proofs.Rising.{Has, Rises, has_at, has_either, place_of, rises_append}

-- a name of an object from number n on, of which there are so many
record IsNamed (n count : ℕ) (w : Named) : Type 0 where
  pub from : n ≤ w.object
  pub below : w.object < n + count
  pub few : w.entry < 2 ^ 24
  pub declared : Bool
  pub bid : w.bid ≡ cond declared (2 ^ 63) 0 + w.object * 2 ^ 32 + w.entry

-- ---- one object

-- the names of its entries from number k on
abbrev named_from : ℕ → Object → ℕ → List Entry → List Named
named_from n o k es = filter_map (λ (e : ℕ × Entry). if is_pooled o e.0 then Some (named_of n o e.0 e.1) else None) (enumerate_from k es)

record IsNamedFrom (n : ℕ) (o : Object) (k count : ℕ) (w : Named) : Type 0 where
  pub entry : Entry
  pub number : ℕ
  pub from : k ≤ number
  pub below : number < k + count
  pub named : named_of n o number entry ≡ w

named_in : (n : ℕ) (o : Object) (k : ℕ) (es : List Entry) (w : Named) → Has (named_from n o k es) w → IsNamedFrom n o k (length es) w
named_in n o k [] w has = absurd has
named_in n o k (e ∷ es) w has = go (is_pooled o k) has (named_in n o (k + 1) es w) where
  later : IsNamedFrom n o (k + 1) (length es) w → IsNamedFrom n o k (length (e ∷ es)) w
  later it = record { entry = it.entry; number = it.number; from = omega (arith, it.from); below = omega (arith, it.below); named = it.named }

  go : (b : Bool) → Has (cons_option (cond b (Some (named_of n o k e)) None) (named_from n o (k + 1) es)) w → (Has (named_from n o (k + 1) es) w → IsNamedFrom n o (k + 1) (length es) w) → IsNamedFrom n o k (length (e ∷ es)) w
  go true (inl same) rest = record { entry = e; number = k; from = omega arith; below = omega arith; named = same }
  go true (inr h) rest = later (rest h)
  go false h rest = later (rest h)

rises_in : (n : ℕ) (o : Object) (k : ℕ) (es : List Entry) → Rises (λ (w : Named). w.object * 2 ^ 32 + w.entry) (named_from n o k es)
rises_in n o k [] = tt
rises_in n o k (e ∷ es) = go (is_pooled o k) (rises_in n o (k + 1) es) where
  first : (w : Named) → Has (named_from n o (k + 1) es) w → n * 2 ^ 32 + k < w.object * 2 ^ 32 + w.entry
  first w has =
      let it = named_in n o (k + 1) es w has in
      let object : n ≡ w.object = ap (λ (w : Named). w.object) it.named in
      let entry : it.number ≡ w.entry = ap (λ (w : Named). w.entry) it.named in
      omega (arith, object, entry, it.from)

  go : (b : Bool) → Rises (λ (w : Named). w.object * 2 ^ 32 + w.entry) (named_from n o (k + 1) es) → Rises (λ (w : Named). w.object * 2 ^ 32 + w.entry) (cons_option (cond b (Some (named_of n o k e)) None) (named_from n o (k + 1) es))
  go true rest = (first, rest)
  go false rest = rest

is_named : (n : ℕ) (o : Object) (w : Named) → length (entries_of o) ≤ 2 ^ 24 → Has (names_in n o) w → IsNamed n 1 w
is_named n o w few has =
    let it = named_in n o 0 (entries_of o) w has in
    let object : n ≡ w.object = ap (λ (w : Named). w.object) it.named in
    let entry : it.number ≡ w.entry = ap (λ (w : Named). w.entry) it.named in
    record {
      from = omega (arith, object);
      below = omega (arith, object);
      few = omega (arith, entry, it.below, few);
      declared = is_declaration it.entry;
      bid = subst (λ (w : Named). w.bid ≡ cond (is_declaration it.entry) (2 ^ 63) 0 + w.object * 2 ^ 32 + w.entry) it.named refl;
    }

-- ---- all objects

names_from : ℕ → List Object → List Named
names_from n objects = flat_map (λ (o : ℕ × Object). names_in o.0 o.1) (enumerate_from n objects)

named_of_all : (n : ℕ) (objects : List Object) (w : Named) → ((o : Object) → Has objects o → length (entries_of o) ≤ 2 ^ 24) → Has (names_from n objects) w → IsNamed n (length objects) w
unfolding names_from
named_of_all n [] w few has = absurd has
named_of_all n (o ∷ objects) w few has = go (has_either (names_in n o) (names_from (n + 1) objects) w has) (named_of_all (n + 1) objects w (λ o h. few o (inr h))) where
  go : Has (names_in n o) w ⊎ Has (names_from (n + 1) objects) w → (Has (names_from (n + 1) objects) w → IsNamed (n + 1) (length objects) w) → IsNamed n (length (o ∷ objects)) w
  go (inl h) rest = let it = is_named n o w (few o (inl refl)) h in record { from = it.from; below = omega (arith, it.below); few = it.few; declared = it.declared; bid = it.bid }
  go (inr h) rest = let it = rest h in record { from = omega (arith, it.from); below = omega (arith, it.below); few = it.few; declared = it.declared; bid = it.bid }

rises_all : (n : ℕ) (objects : List Object) → ((o : Object) → Has objects o → length (entries_of o) ≤ 2 ^ 24) → Rises (λ (w : Named). w.object * 2 ^ 32 + w.entry) (names_from n objects)
unfolding names_from
rises_all n [] few = tt
rises_all n (o ∷ objects) few =
    rises_append (λ (w : Named). w.object * 2 ^ 32 + w.entry) (names_in n o) (names_from (n + 1) objects) (rises_in n o 0 (entries_of o)) (rises_all (n + 1) objects (λ o h. few o (inr h)))
    (λ v w front back. (
    let a = is_named n o v (few o (inl refl)) front in
    let b = named_of_all (n + 1) objects w (λ o h. few o (inr h)) back in
    omega (arith, a.below, a.few, b.from)))

rises_at : {A : Type 0} (f : A → ℕ) (xs : List A) (i j : ℕ) (v w : A) → Rises f xs → i < j → slice_get xs i ≡ Some v → slice_get xs j ≡ Some w → f v < f w
rises_at f [] i j v w up lt at_i at_j = absurd (none-some v at_i)
rises_at f (x ∷ xs) i zero v w up lt at_i at_j = absurd (omega (arith, lt))
rises_at {A} f (x ∷ xs) zero (suc j) v w up lt at_i at_j = subst (λ (x : A). f x < f w) (same_Some x v at_i) (up.0 w (has_at xs j w at_j))
rises_at f (x ∷ xs) (suc i) (suc j) v w up lt at_i at_j = rises_at f xs i j v w up.1 (omega (arith, lt)) at_i at_j

-- of two places the bids go by the entries', but where a declaration stands before a definition
place_ranked : (v w : Named) → IsNamed 1 (2 ^ 16 - 1) v → IsNamed 1 (2 ^ 16 - 1) w → v.object * 2 ^ 32 + v.entry < w.object * 2 ^ 32 + w.entry → (2 ^ 63 ≤ v.bid → 2 ^ 63 ≤ w.bid) → v.bid < w.bid
place_ranked v w is_v is_w less kind = go is_v.declared is_w.declared is_v.bid is_w.bid where
  go : (a b : Bool) → v.bid ≡ cond a (2 ^ 63) 0 + v.object * 2 ^ 32 + v.entry → w.bid ≡ cond b (2 ^ 63) 0 + w.object * 2 ^ 32 + w.entry → v.bid < w.bid
  go true true x y = omega (arith, x, y, less)
  go false false x y = omega (arith, x, y, less)
  go false true x y = omega (arith, x, y, less)
  go true false x y = absurd (let late = kind (omega (arith, x)) in omega (arith, y, late, is_w.below, is_w.few))

pub names_ranked : (objects : List Object) → length objects < 2 ^ 16 → ((o : Object) → Has objects o → length (entries_of o) ≤ 2 ^ 24) → AreRanked (names objects)
unfolding names_from
names_ranked objects few short = λ i j v w lt at_i at_j kind. (
    let up = rises_all 1 objects short in
    place_ranked v w (bounded v (named_of_all 1 objects v short (has_at (names objects) i v at_i))) (bounded w (named_of_all 1 objects w short (has_at (names objects) j w at_j)))
    (rises_at (λ (w : Named). w.object * 2 ^ 32 + w.entry) (names objects) i j v w up lt at_i at_j) kind) where
      bounded : (w : Named) → IsNamed 1 (length objects) w → IsNamed 1 (2 ^ 16 - 1) w
      bounded w it = record { from = it.from; below = omega (arith, it.below, few); few = it.few; declared = it.declared; bid = it.bid }

-- ---- a link

no_more_objects : (seen : List Analysis) (live : List (List Bool)) → length (objects_of seen live) ≤ length seen
no_more_objects [] live = omega arith
no_more_objects (a ∷ seen) [] = omega arith
no_more_objects (a ∷ seen) (row ∷ live) = let rest = no_more_objects seen live in omega (arith, rest)

pub linked_ranked : (odr : Bool) (seen : List Analysis) (live : List (List Bool)) → All IsSound seen → length seen < 2 ^ 16 → AreRanked (linked_names odr seen live)
linked_ranked true seen live sound few = names_ranked (objects_of seen live) (omega (arith, no_more_objects seen live, few)) (λ o has. (
    let at = place_of (objects_of seen live) o has in
    let a = (object_parts seen live at.0 o at.1).0 in
    let is : IsSound o.seen = subst IsSound (get_or_from_slice_get seen at.0 o.seen o.seen a) (sound at.0 o.seen (slice_get_within seen at.0 o.seen a)) in
    is.few))
linked_ranked false seen live sound few = names_ranked [] (omega arith) (λ o has. absurd has)
