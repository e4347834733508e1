-- Where references to live entries lead: a merged one's to the node of the name that wins its path, and another's to its own.
use Rattle.std.proofs.Common.{◌≡◌, inl, inr, ℕ, suc, ◌+◌, ◌&&◌, Bool, true, false, cond, List, [], ◌∷◌, ◌++◌, length, length-append, get_or, slice_get, Option, Some, None, refl, sym, ap, subst, ◌∙◌, arith}
use Rattle.std.specs.List.{All, Contains, flat_map, position}
use Rattle.std.specs.Option.{option_and_then, option_map}
use Rattle.std.proofs.lemmas.Bool.{cases_lt}
use Rattle.std.proofs.lemmas.List.Elements.{All-contains_itself, All-head, All-tail}
use Rattle.std.proofs.lemmas.List.Quantifiers.{position-Some}
use Rattle.std.proofs.lemmas.Option.{none-some, same_Some, slice_get-get_or, slice_get-map, slice_get_within}
use Rattle.dwarf_types.specs.declared.analysis.Analysis.{Analysis}
use Rattle.dwarf_types.specs.declared.entry.Attr.{Attr}
use Rattle.dwarf_types.specs.declared.entry.Entry.{Entry}
use Rattle.dwarf_types.specs.declared.graph.Target.{Target}
use Rattle.dwarf_types.specs.declared.shape.Shape.{Shape}
use Rattle.dwarf_types.specs.declared.shape.ShapeUnit.{ShapeUnit}
use Rattle.dwarf_types.specs.LinkedUnits.{plain_target}
use Rattle.dwarf_types.specs.LinkedUnits as linked_units
use Rattle.dwarf_types.specs.Live.{Stands, bases_of, its_base, op_bases, operations_of}
use Rattle.dwarf_types.specs.Sound.{IsSound}
use Rattle.dwarf_types.specs.Tree.{ParentsStandBefore}
use Rattle.link_graph.specs.Graph.{image_of, pool_version}
use Rattle.link_graph.specs.Merged.{image_in, kept_object, kept_objects, linked_names, object_units, pool_count, pool_origin, pool_units, shape_of}
use Rattle.link_graph.specs.Pool.{node_of_path, pool_names, same_path, winners}
use Rattle.linked_laws.specs.Nodes.{IsKeptEntry, origin_at}
use Rattle.linked_laws.proofs.Nodes.{has_origin, one_unit_each, only_kept}
use Rattle.odr_names.specs.Numbered.{objects_of, merged}
use Rattle.odr_names.specs.Making.{AreLiveRows}
use Rattle.odr_names.proofs.Closed.{path_below, pooled_parent}
use Rattle.type_names.specs.Entries.{is_field}
use Rattle.type_names.specs.Heads.{Object, entries_of, is_live, is_pooled}
use Rattle.type_names.specs.Names.{Named}
use Rattle.type_names.specs.Paths.{Piece, ordinal_of, parts_of, path_of, piece_of}
use Rattle.type_names.proofs.Pooling.{sound_parents}
use Rattle.type_names.proofs.Subtrees.{in_itself}
use Rattle.merged_laws.specs.Leads.{IsLiveEntry, LeadsBeside, LeadsTo, Wins}
use Rattle.merged_laws.proofs.Members.{none_in}
use Rattle.merged_laws.proofs.Names.{least, paths_same, winner_named}
use Rattle.merged_laws.proofs.Nodes.{IsGood, merged_good, node_of_entry, objects_good}
use Rattle.merged_laws.proofs.OpenAbove.{no_field}
use Rattle.merged_laws.proofs.PathTree.{all_win}
use Rattle.merged_laws.proofs.Plain.{and_parts, base_alone, holds_kept, kept_live}
use Rattle.merged_laws.proofs.Told.{image_read, in_object, origins_of, pool_shape}
use Rattle.merged_laws.proofs.Untied.{no_bases, none_pass}
use Rattle.merged_laws.proofs.Versions.{pooled_live}

abbrev pub target_by : ℕ → ℕ → Target
target_by unit node = record { unit = unit; node = node }

-- ---- the unit of merged entries

pub as_many : (version : ℕ) (ns : List Named) → length (pool_units version ns) ≡ pool_count ns
as_many version [] = refl
as_many version (n ∷ ns) = refl

first_unit : (version : ℕ) (ns : List Named) (others : List ShapeUnit) → (ns ≡ [] → ⊥) → slice_get (pool_units version ns ++ others) 0 ≡ Some (pool_shape version ns)
first_unit version [] others some = absurd (some refl)
first_unit version (n ∷ ns) others some = refl

-- the name whose node stands at a path
record IsAt (ns : List Named) (path : List Piece) (m : ℕ) : Type 0 where
  name : Named
  number : ℕ
  behind : m ≡ suc number
  there : slice_get (pool_names ns) number ≡ Some name
  wins : Contains (winners ns) name
  path_is : name.path ≡ path

name_at : (ns : List Named) (path : List Piece) (m : ℕ) → (path ≡ [] → ⊥) → node_of_path ns path ≡ Some m → IsAt ns path m
name_at ns [] m some is = absurd (some refl)
name_at ns (p ∷ path) m some is = go (position test (pool_names ns)) refl is
  where
    test : Named → Bool
    test w = same_path w.path (p ∷ path)

    go : (found : Option ℕ) → position test (pool_names ns) ≡ found → option_map (λ n. n + 1) found ≡ Some m → IsAt ns (p ∷ path) m
    go None none e = absurd (none-some m e)
    go (Some n) at e =
        let d : Named = record { object = 0; entry = 0; parent = None; path = []; bid = 0 } in
        let found = position-Some test (pool_names ns) n d at in
        record {
          name = get_or (pool_names ns) n d;
          number = n;
          behind = (let same = same_Some (n + 1) m e in omega (arith, same));
          there = slice_get-get_or (pool_names ns) n d found.0;
          wins = all_win ns (length ns) [] n d found.0;
          path_is = paths_same (get_or (pool_names ns) n d).path (p ∷ path) found.1;
        }

origin_there : (version : ℕ) (ns : List Named) (others : List ShapeUnit) (path : List Piece) (m : ℕ) → (ns ≡ [] → ⊥) → (at : IsAt ns path m) → origin_at (pool_units version ns ++ others) (target_by 0 m) ≡ Some (pool_origin ns at.name)
origin_there version ns others path m some at =
    ap (option_and_then (λ (unit : ShapeUnit). slice_get unit.nodes m)) (first_unit version ns others some)
    ∙ ap (slice_get (origins_of ns)) at.behind ∙ slice_get-map (pool_origin ns) (pool_names ns) at.number ∙ ap (option_map (pool_origin ns)) at.there

wins_path : (ns : List Named) (path : List Piece) (m : ℕ) → (at : IsAt ns path m) → Wins ns path at.name
wins_path ns path m at = record {
  named = winner_named ns at.name at.wins;
  its_path = at.path_is;
  least = λ j d lt same. (
      let v = get_or ns j d in
      elim (cases_lt v.bid at.name.bid) [
        | inl lower ↦ absurd (least ns at.name v at.wins (All-contains_itself ns j d lt) (same ∙ sym at.path_is) lower)
        | inr le ↦ le
      ]);
}

-- ---- entries that name base types

no_base : (attrs : List Attr) → All (λ a. is_field a.value ≡ false) attrs → flat_map (λ a. flat_map op_bases (operations_of a.value)) attrs ≡ []
no_base [] none = refl
no_base (a ∷ attrs) none =
    ap (λ (bs : List ℕ). bs ++ flat_map (λ (a : Attr). flat_map op_bases (operations_of a.value)) attrs) (no_bases a.value (All-head (λ (a : Attr). is_field a.value ≡ false) a attrs none))
    ∙ no_base attrs (All-tail (λ (a : Attr). is_field a.value ≡ false) a attrs none)

module _ (odr : Bool) (seen : List Analysis) (live : List (List Bool)) (sound : All IsSound seen) (rows : AreLiveRows seen live) where
  abbrev shape : Shape
  shape = shape_of odr seen live

  abbrev ns : List Named
  ns = linked_names odr seen live

  abbrev objects : List linked_units.Object
  objects = kept_objects odr seen live

  abbrev version : ℕ
  version = pool_version (object_units odr seen live)

  module _ (i k : ℕ) (o : Object) (e : Entry) (it : IsLiveEntry seen live i k o e) where
    good : IsGood o
    good = objects_good seen live sound rows i o it.object

    before : ParentsStandBefore (entries_of o)
    before = sound_parents o.seen good.sound

    lives : is_live o k ≡ true
    lives = (good.row.exact k).1 it.lives

    pub image_is : image_of shape i k ≡ cond (odr && is_pooled o k) (option_map (target_by 0) (node_of_path ns (path_of (i + 1) o k))) (plain_target (pool_count ns) objects i k)
    image_is = image_read odr seen live i k ∙ ap (option_and_then (in_object odr seen live i k)) it.object ∙ ap (option_and_then (λ (e : Entry). image_in odr seen live (i, o) k)) it.stands

    -- ---- its own node

    kept : (odr && is_pooled o k) ≡ false → IsKeptEntry objects i k (kept_object odr o) e
    kept own = record {
      object = slice_get-map (kept_object odr) (objects_of seen live) i ∙ ap (option_map (kept_object odr)) it.object;
      stands = it.stands;
      kept = holds_kept odr o k e before good.lives it.stands (record { number = k; within = slice_get_within (entries_of o) k e it.stands; lives = lives; own = own; inside = in_itself (entries_of o) k before });
    }

    pub own_image : (odr && is_pooled o k) ≡ false → image_of shape i k ≡ plain_target (pool_count ns) objects i k
    own_image own = image_is ∙ ap (λ (b : Bool). cond b (option_map (target_by 0) (node_of_path ns (path_of (i + 1) o k))) (plain_target (pool_count ns) objects i k)) own

    pub leads_own : (odr && is_pooled o k) ≡ false → LeadsTo shape i k (i + 1) k
    leads_own own =
        let h = has_origin objects (pool_units version ns) i k (kept_object odr o) e good.sound (kept own) in
        record {
          target = h.target;
          leads = own_image own ∙ ap (λ (first : ℕ). plain_target first objects i k) (sym (as_many version ns)) ∙ h.leads;
          origin = h.origin;
          stands = h.stands;
          its_object = h.object;
          its_entry = h.entry;
        }

    -- ---- the node of its path

    pub some_path : is_pooled o k ≡ true → path_of (i + 1) o k ≡ [] → ⊥
    some_path pooled empty =
        let up = pooled_parent o k before good.lives pooled in
        let piece : Piece = record { parts = parts_of (i + 1) o k e; ordinal = ordinal_of (i + 1) o k e } in
        let its : piece_of (i + 1) o k ≡ Some piece = ap (option_map (λ (e : Entry). record { parts = parts_of (i + 1) o k e; ordinal = ordinal_of (i + 1) o k e })) it.stands in
        let long = ap length (sym empty ∙ path_below (i + 1) o k up.0 piece before up.1 its) ∙ length-append (path_of (i + 1) o up.0) (piece ∷ []) in
        omega (arith, long)

    pub leads_merged : (odr && is_pooled o k) ≡ true → (w : Named) × Wins ns (path_of (i + 1) o k) w × LeadsTo shape i k w.object w.entry
    leads_merged merges =
        let parts = and_parts odr (is_pooled o k) merges in
        let there = ap (λ (b : Bool). slice_get (merged b seen live) i) parts.0 ∙ it.object in
        let m = node_of_entry (merged odr seen live) (merged_good odr seen live sound rows) i o there k parts.1 in
        let at = name_at ns (path_of (i + 1) o k) m.0 (some_path parts.1) m.1 in
        let wins = wins_path ns (path_of (i + 1) o k) m.0 at in
        let some : ns ≡ [] → ⊥ = λ none. none_in at.name (subst (λ (xs : List Named). Contains xs at.name) none wins.named) in (
          at.name,
          wins,
          record {
            target = target_by 0 m.0;
            leads = image_is ∙ ap (λ (b : Bool). cond b (option_map (target_by 0) (node_of_path ns (path_of (i + 1) o k))) (plain_target (pool_count ns) objects i k)) merges ∙ ap (option_map (target_by 0)) m.1;
            origin = pool_origin ns at.name;
            stands = origin_there version ns (object_units odr seen live) (path_of (i + 1) o k) m.0 some at;
            its_object = refl;
            its_entry = refl;
          },
        )

    -- ---- base types

    -- a merged entry names no base type
    alone : (j : ℕ) → Contains (bases_of e) j → (odr && is_pooled o k) ≡ false
    alone j there = go (odr && is_pooled o k) refl
      where
        go : (b : Bool) → (odr && is_pooled o k) ≡ b → b ≡ false
        go false is = refl
        go true is =
            let none = no_field o k e before it.stands (and_parts odr (is_pooled o k) is).1 in
            absurd (none_in j (subst (λ (bs : List ℕ). Contains bs j) (no_base e.attrs (none_pass (λ (a : Attr). is_field a.value) e.attrs none)) there))

  pub leads_beside : (i k j : ℕ) (o : Object) (e : Entry) → IsLiveEntry seen live i k o e → Contains (bases_of e) j → LeadsBeside shape i k j
  leads_beside i k j o e it there =
      let sound_o = (good i k o e it).sound in
      let base = (sound_o.entries k e it.stands).bases j there in
      let x = base.entry in
      let base_it : IsLiveEntry seen live i j o x = record { object = it.object; stands = base.stands; lives = (suc it.lives.0, (k, it.lives.1, its_base e it.stands there)) } in
      let own_k = alone i k o e it j there in
      let own_j = base_alone odr o j x (before i k o e it) base.stands base.tag in
      let one = leads_own i k o e it own_k in
      let other = leads_own i j o x base_it own_j in
      record {
        one = one;
        other = other;
        same_unit = sym (one_unit_each objects (pool_count ns) i (kept_object odr o) k j e x one.target other.target sound_o (kept i k o e it own_k) (kept i j o x base_it own_j) base.unit
            (sym (own_image i k o e it own_k) ∙ one.leads) (sym (own_image i j o x base_it own_j) ∙ other.leads));
      }

  -- ---- no others have one

  pub only_live : (i k : ℕ) (target : Target) → image_of shape i k ≡ Some target → (o : Object) × (e : Entry) × IsLiveEntry seen live i k o e
  only_live i k target is = of_object (slice_get (objects_of seen live) i) refl (sym (image_read odr seen live i k) ∙ is)
    where
      decide : (o : Object) (e : Entry) → slice_get (objects_of seen live) i ≡ Some o → Stands (entries_of o) k e → (b : Bool) → (odr && is_pooled o k) ≡ b
          → cond b (option_map (target_by 0) (node_of_path ns (path_of (i + 1) o k))) (plain_target (pool_count ns) objects i k) ≡ Some target → is_live o k ≡ true
      decide o e at stands true merges t =
          let good = objects_good seen live sound rows i o at in
          pooled_live o k (sound_parents o.seen good.sound) good.lives (and_parts odr (is_pooled o k) merges).1
      decide o e at stands false own t =
          let good = objects_good seen live sound rows i o at in
          let w = only_kept objects (pool_count ns) i k target t in
          let same : kept_object odr o ≡ w.0 = same_Some (kept_object odr o) w.0 (sym (slice_get-map (kept_object odr) (objects_of seen live) i ∙ ap (option_map (kept_object odr)) at) ∙ w.2.object) in
          kept_live odr o k e (sound_parents o.seen good.sound) good.lives stands (ap (λ (x : linked_units.Object). linked_units.is_kept x k) same ∙ w.2.kept)

      of_entry : (o : Object) → slice_get (objects_of seen live) i ≡ Some o → (found : Option Entry) → slice_get (entries_of o) k ≡ found → option_and_then (λ (e : Entry). image_in odr seen live (i, o) k) found ≡ Some target
          → (o : Object) × (e : Entry) × IsLiveEntry seen live i k o e
      of_entry o at None none t = absurd (none-some target t)
      of_entry o at (Some e) some t = (o, e, record { object = at; stands = some; lives = ((objects_good seen live sound rows i o at).row.exact k).0 (decide o e at some (odr && is_pooled o k) refl t) })

      of_object : (found : Option Object) → slice_get (objects_of seen live) i ≡ found → option_and_then (in_object odr seen live i k) found ≡ Some target → (o : Object) × (e : Entry) × IsLiveEntry seen live i k o e
      of_object None none t = absurd (none-some target t)
      of_object (Some o) some t = of_entry o some (slice_get (entries_of o) k) refl t
