-- The names of a link, and the one that wins each path.
use Rattle.std.proofs.Common.{◌≡◌, inl, inr, ℕ, zero, suc, ◌+◌, ◌-◌, ◌<◌, ◌≤◌, ◌==◌, ◌&&◌, not, Bool, true, false, cond, List, [], ◌∷◌, get_or, slice_get, Some, None, refl, sym, ap, subst, ◌∙◌, arith}
use Rattle.std.specs.Prelude.{nat_lt, if◌then◌else◌}
use Rattle.std.specs.List.{All, AllPairs, Contains, enumerate_from}
use Rattle.std.proofs.lemmas.Bool.{both_ways, cases_order, eq-eqb, eqb-true, lt-ltb, ltb-true}
use Rattle.std.proofs.lemmas.List.Elements.{All-weaker, All-contains_itself}
use Rattle.std.proofs.lemmas.List.Kept.{AllPairs-filter}
use Rattle.std.proofs.lemmas.Option.{none-some, same_Some}
use Rattle.dwarf_types.specs.declared.entry.Entry.{Entry}
use Rattle.link_graph.specs.Pool.{is_outbid, same_path, same_piece, winners}
use Rattle.link_graph.proofs.Gathered.{All-filter_map, All-flat_map}
use Rattle.odr_names.proofs.Counting.{parts_same, same_parts_self}
use Rattle.type_names.specs.Heads.{Object, entries_of, is_pooled}
use Rattle.type_names.specs.Names.{Named, named_of, names, names_in}
use Rattle.type_names.specs.Paths.{Piece, same_parts}
use Rattle.merged_laws.proofs.Members.{all_numbered, any_from, any_in, from_filter, in_filter, in_filter_map, in_flat_map, in_numbered}
use Rattle.merged_laws.proofs.Plain.{and_made, and_parts, not_true}

-- ---- equal paths

pieces_same : (a b : Piece) → same_piece a b ≡ true → a ≡ b
pieces_same a b is =
    let parts = and_parts (same_parts a.parts b.parts) (a.ordinal == b.ordinal) is in
    let x = parts_same a.parts b.parts parts.0 in
    let y = eqb-true a.ordinal b.ordinal parts.1 in
    (λ i. record { parts = x i; ordinal = y i })

same_pieces : (a : Piece) → same_piece a a ≡ true
same_pieces a = and_made (same_parts a.parts a.parts) (a.ordinal == a.ordinal) (same_parts_self a.parts) (eq-eqb a.ordinal a.ordinal refl)

pub paths_same : (a b : List Piece) → same_path a b ≡ true → a ≡ b
paths_same [] [] is = refl
paths_same [] (b ∷ bs) is = absurd (both_ways _ refl is)
paths_same (a ∷ path) [] is = absurd (both_ways _ refl is)
paths_same (a ∷ path) (b ∷ other) is =
    let parts = and_parts (same_piece a b) (same_path path other) is in
    let x = pieces_same a b parts.0 in
    let y = paths_same path other parts.1 in
    (λ i. x i ∷ y i)

pub same_paths : (a : List Piece) → same_path a a ≡ true
same_paths [] = refl
same_paths (a ∷ path) = and_made (same_piece a a) (same_path path path) (same_pieces a) (same_paths path)

-- ---- what names stand for

pub record IsNameOf (objects : List Object) (w : Named) : Type 0 where
  pub object : Object
  pub entry : Entry
  pub counted : 1 ≤ w.object
  pub its : slice_get objects (w.object - 1) ≡ Some object
  pub stands : slice_get (entries_of object) w.entry ≡ Some entry
  pub pooled : is_pooled object w.entry ≡ true
  pub is : w ≡ named_of w.object object w.entry entry

name_by : (n : ℕ) (o : Object) (e : ℕ × Entry) (y : Named) (b : Bool) → is_pooled o e.0 ≡ b → cond b (Some (named_of n o e.0 e.1)) None ≡ Some y → (is_pooled o e.0 ≡ true) × (named_of n o e.0 e.1 ≡ y)
name_by n o e y true pooled is = (pooled, same_Some _ y is)
name_by n o e y false pooled is = absurd (none-some y is)

made_name : (objects : List Object) (n : ℕ) (o : Object) (e : ℕ × Entry) (y : Named) → 1 ≤ n → slice_get objects (n - 1) ≡ Some o → slice_get (entries_of o) e.0 ≡ Some e.1 → (if is_pooled o e.0 then Some (named_of n o e.0 e.1) else None) ≡ Some y → IsNameOf objects y
made_name objects n o e y counted its stands is =
    let w = name_by n o e y (is_pooled o e.0) refl is in
    subst (IsNameOf objects) w.1 (record { object = o; entry = e.1; counted = counted; its = its; stands = stands; pooled = w.0; is = refl })

pub all_names : (objects : List Object) → All (IsNameOf objects) (names objects)
all_names objects =
    All-flat_map (IsNameOf objects) (λ (o : ℕ × Object). names_in o.0 o.1) (enumerate_from 1 objects)
    (All-weaker (λ (o : ℕ × Object). (1 ≤ o.0) × (slice_get objects (o.0 - 1) ≡ Some o.1)) (λ o. All (IsNameOf objects) (names_in o.0 o.1))
    (λ o h. All-filter_map (IsNameOf objects) (λ (e : ℕ × Entry). if is_pooled o.1 e.0 then Some (named_of o.0 o.1 e.0 e.1) else None) (enumerate_from 0 (entries_of o.1))
    (All-weaker (λ (e : ℕ × Entry). (0 ≤ e.0) × (slice_get (entries_of o.1) (e.0 - 0) ≡ Some e.1)) (λ e. (y : Named) → (if is_pooled o.1 e.0 then Some (named_of o.0 o.1 e.0 e.1) else None) ≡ Some y → IsNameOf objects y)
    (λ e k y is. (let same : e.0 - 0 ≡ e.0 = omega arith in made_name objects o.0 o.1 e y h.0 h.1 (ap (slice_get (entries_of o.1)) (sym same) ∙ k.1) is))
    (enumerate_from 0 (entries_of o.1)) (all_numbered 0 (entries_of o.1))))
    (enumerate_from 1 objects) (all_numbered 1 objects))

pub name_there : (objects : List Object) (i : ℕ) (o : Object) (k : ℕ) (e : Entry) → slice_get objects i ≡ Some o → slice_get (entries_of o) k ≡ Some e → is_pooled o k ≡ true → Contains (names objects) (named_of (i + 1) o k e)
name_there objects i o k e at stands pooled =
    let number : 1 + i ≡ i + 1 = omega arith in
    let zeroth : 0 + k ≡ k = omega arith in
    let in_objects : Contains (enumerate_from 1 objects) (i + 1, o) = subst (λ (n : ℕ). Contains (enumerate_from 1 objects) (n, o)) number (in_numbered 1 objects i o at) in
    let in_entries : Contains (enumerate_from 0 (entries_of o)) (k, e) = subst (λ (n : ℕ). Contains (enumerate_from 0 (entries_of o)) (n, e)) zeroth (in_numbered 0 (entries_of o) k e stands) in
    in_flat_map (λ (o : ℕ × Object). names_in o.0 o.1) (enumerate_from 1 objects) (i + 1, o) (named_of (i + 1) o k e) in_objects
    (in_filter_map (λ (x : ℕ × Entry). if is_pooled o x.0 then Some (named_of (i + 1) o x.0 x.1) else None) (enumerate_from 0 (entries_of o)) (k, e) (named_of (i + 1) o k e) in_entries
    (ap (λ (b : Bool). cond b (Some (named_of (i + 1) o k e)) None) pooled))

-- ---- winners

-- a winner of each path
module _ (ns : List Named) where
  winner_by : (most : ℕ) (x : Named) → Contains ns x → x.bid < most → (w : Named) × Contains (winners ns) w × (w.path ≡ x.path)
  winner_by zero x there lt = absurd (omega (arith, lt))
  winner_by (suc most) x there lt = go (is_outbid ns x) refl (λ y. winner_by most y)
    where
      go : (b : Bool) → is_outbid ns x ≡ b → ((y : Named) → Contains ns y → y.bid < most → (w : Named) × Contains (winners ns) w × (w.path ≡ y.path)) → (w : Named) × Contains (winners ns) w × (w.path ≡ x.path)
      go false own lower = (x, in_filter (λ w. not (is_outbid ns w)) ns x there (ap not own), refl)
      go true outbid lower =
          let y = any_in (λ (other : Named). same_path other.path x.path && nat_lt other.bid x.bid) ns outbid in
          let parts = and_parts (same_path y.0.path x.path) (nat_lt y.0.bid x.bid) y.2 in
          let w = lower y.0 y.1 (omega (arith, ltb-true y.0.bid x.bid parts.1, lt)) in
          (w.0, w.1, w.2 ∙ paths_same y.0.path x.path parts.0)

  pub winner_of : (x : Named) → Contains ns x → (w : Named) × Contains (winners ns) w × (w.path ≡ x.path)
  winner_of x there = winner_by (x.bid + 1) x there (omega arith)

  pub winner_named : (w : Named) → Contains (winners ns) w → Contains ns w
  winner_named w h = (from_filter (λ w. not (is_outbid ns w)) ns w h).0

  -- none of its path has a lower bid
  pub least : (w x : Named) → Contains (winners ns) w → Contains ns x → x.path ≡ w.path → x.bid < w.bid → ⊥
  least w x h there same lower =
      both_ways _ (not_true (is_outbid ns w) (from_filter (λ w. not (is_outbid ns w)) ns w h).1)
      (any_from (λ (other : Named). same_path other.path w.path && nat_lt other.bid w.bid) ns x there
      (and_made (same_path x.path w.path) (nat_lt x.bid w.bid) (ap (λ (p : List Piece). same_path p w.path) same ∙ same_paths w.path) (lt-ltb x.bid w.bid lower)))

  -- so the winners of one path are one, where no two names have one bid
  pub winners_apart : AllPairs (λ a b. a.bid ≡ b.bid → ⊥) ns → AllPairs (λ a b. a.path ≡ b.path → ⊥) (winners ns)
  winners_apart bids i j d lt within same =
      let a = get_or (winners ns) i d in
      let b = get_or (winners ns) j d in
      let in_a : Contains (winners ns) a = All-contains_itself (winners ns) i d (omega (arith, lt, within)) in
      let in_b : Contains (winners ns) b = All-contains_itself (winners ns) j d within in
      elim (cases_order a.bid b.bid) [
        | inl equal ↦ AllPairs-filter (λ a b. a.bid ≡ b.bid → ⊥) (λ w. not (is_outbid ns w)) ns bids i j d lt within equal
        | inr w ↦ elim w [
          | inl lower ↦ least b a in_b (winner_named a in_a) same lower
          | inr lower ↦ least a b in_a (winner_named b in_b) (sym same) lower
        ]
      ]
