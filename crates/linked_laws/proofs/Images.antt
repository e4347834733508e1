-- The units of the linked graph, and where the entries that are written went.
use Rattle.std.proofs.Common.{◌≡◌, ◌+◌, ◌==◌, ℕ, suc, Bool, true, false, cond, eqb, List, [], ◌∷◌, ◌++◌, length, get_or, slice_get, Option, Some, None, refl, sym, ap, subst, ◌∙◌, arith}
use Rattle.std.specs.List.{All, enumerate_from, filter_map, position}
use Rattle.std.specs.Option.{is_some, option_and_then, option_map}
use Rattle.std.proofs.lemmas.Bool.{and_parts, eqb-true, ne_eqb}
use Rattle.std.proofs.lemmas.List.Elements.{All-weaker}
use Rattle.std.proofs.lemmas.List.Quantifiers.{position-Some}
use Rattle.std.proofs.lemmas.Option.{same_Some, slice_get-get_or, slice_get_within}
use Rattle.dwarf_types.specs.declared.entry.Entry.{Entry}
use Rattle.dwarf_types.specs.declared.entry.InUnit.{InUnit}
use Rattle.dwarf_types.specs.declared.graph.OutUnit.{OutUnit}
use Rattle.dwarf_types.specs.declared.graph.Target.{Target}
use Rattle.dwarf_types.specs.LinkedGraph.{linked_behind, unit_written, written}
use Rattle.dwarf_types.specs.LinkedUnits.{Object, Source, is_kept, kept_entries, node_number, plain_target, same_source, sources, sources_in}
use Rattle.dwarf_types.specs.Live.{Stands}
use Rattle.dwarf_types.specs.Sound.{IsSound}
use Rattle.link_graph.proofs.Gathered.{All-enumerate, All-filter_map, All-flat_map}
use Rattle.link_graph.proofs.Shapes.{source_position}
use Rattle.linked_laws.proofs.Lists.{kept_at}
use Rattle.linked_laws.proofs.Written.{all_written, node_of_entry}

pub slice_get_behind : {A : Type 0} (xs ys : List A) (n : ℕ) → slice_get (xs ++ ys) (length xs + n) ≡ slice_get ys n
slice_get_behind [] ys n = let same : 0 + n ≡ n = omega arith in ap (slice_get ys) same
slice_get_behind (x ∷ xs) ys n = let same : length (x ∷ xs) + n ≡ suc (length xs + n) = omega arith in ap (slice_get (x ∷ (xs ++ ys))) same ∙ slice_get_behind xs ys n

abbrev pub source_by : ℕ → ℕ → Source
source_by object unit = record { object = object; unit = unit }

module _ (objects : List Object) where
  -- a unit of an object, with an entry that is written
  pub record IsSource (s : Source) : Type 0 where
    pub object : Object
    pub unit : InUnit
    pub at : slice_get objects s.object ≡ Some object
    pub is : slice_get object.seen.units s.unit ≡ Some unit
    pub some : (length (kept_entries object s.unit) == 0) ≡ false

  unless : (b : Bool) (x y : Source) → cond b None (Some x) ≡ Some y → (x ≡ y) × (b ≡ false)
  unless true x y e = absurd cc
  unless false x y e = (same_Some x y e, refl)

  in_object : (i : ℕ) (o : Object) (u : ℕ × InUnit) (y : Source) → slice_get objects i ≡ Some o → slice_get o.seen.units u.0 ≡ Some u.1
      → cond (eqb (length (kept_entries o u.0)) 0) None (Some (source_by i u.0)) ≡ Some y → IsSource y
  in_object i o u y at is e =
      let h = unless (eqb (length (kept_entries o u.0)) 0) (source_by i u.0) y e in
      let own : IsSource (source_by i u.0) = record { object = o; unit = u.1; at = at; is = is; some = h.1 } in
      subst IsSource h.0 own

  -- each unit that is written is one of an object
  pub all_sources : All IsSource (sources objects)
  all_sources =
      All-flat_map IsSource sources_in (enumerate_from 0 objects)
      (All-weaker (λ (x : ℕ × Object). slice_get objects x.0 ≡ Some x.1) (λ x. All IsSource (sources_in x))
      (λ x at. All-filter_map IsSource (λ (u : ℕ × InUnit). cond (eqb (length (kept_entries x.1 u.0)) 0) None (Some (source_by x.0 u.0))) (enumerate_from 0 x.1.seen.units)
      (All-weaker (λ (u : ℕ × InUnit). slice_get x.1.seen.units u.0 ≡ Some u.1) (λ u. (y : Source) → cond (eqb (length (kept_entries x.1 u.0)) 0) None (Some (source_by x.0 u.0)) ≡ Some y → IsSource y)
      (λ u is y e. in_object x.0 x.1 u y at is e) (enumerate_from 0 x.1.seen.units) (All-enumerate x.1.seen.units)))
      (enumerate_from 0 objects) (All-enumerate objects))

  source_same : (s t : Source) → same_source s t ≡ true → t ≡ s
  source_same s t e =
      let h = and_parts (eqb s.object t.object) (eqb s.unit t.unit) e in
      ap (λ (n : ℕ). source_by n t.unit) (sym (eqb-true s.object t.object h.0)) ∙ ap (source_by s.object) (sym (eqb-true s.unit t.unit h.1))

  abbrev pub target_by : ℕ → ℕ → Target
  target_by unit node = record { unit = unit; node = node }

  -- where the node of an entry that is written stands, behind so many units
  pub record Lies (first i : ℕ) (o : Object) (k : ℕ) (e : Entry) : Type 0 where
    pub target : Target
    pub is : plain_target first objects i k ≡ Some target
    pub number : node_number o e.unit k ≡ Some target.node
    pub node : slice_get (kept_entries o e.unit) target.node ≡ Some (k, e)
    pub place : ℕ
    pub found : position (same_source (source_by i e.unit)) (sources objects) ≡ Some place
    pub source : slice_get (sources objects) place ≡ Some (source_by i e.unit)
    pub unit : target.unit ≡ first + place

  pub lies : (first i : ℕ) (o : Object) (k : ℕ) (e : Entry) (unit : InUnit) → slice_get objects i ≡ Some o → IsSound o.seen → Stands o.seen.entries k e → slice_get o.seen.units e.unit ≡ Some unit → is_kept o k ≡ true → Lies first i o k e
  lies first i o k e unit at sound stands is kept =
      let own = node_of_entry o e.unit unit k e sound is stands refl kept in
      let source = source_by i e.unit in
      let some : eqb (length (kept_entries o e.unit)) 0 ≡ false = ne_eqb (length (kept_entries o e.unit)) 0 (λ none. omega (arith, none, slice_get_within (kept_entries o e.unit) own.number (k, e) own.at)) in
      let found = source_position objects i o e.unit unit at is some in
      let there = position-Some (same_source source) (sources objects) _ source found in
      let read = slice_get-get_or (sources objects) _ source there.0 ∙ ap (λ (s : Source). Some s) (source_same source _ there.1) in
      let target : plain_target first objects i k ≡ Some (target_by (first + _) own.number) =
      ap (option_and_then (λ (x : Object). option_and_then (λ (y : Entry). option_and_then (λ n. option_map (λ node. target_by (first + n) node) (node_number x y.unit k)) (position (same_source (source_by i y.unit)) (sources objects))) (slice_get x.seen.entries k))) at
      ∙ ap (option_and_then (λ (y : Entry). option_and_then (λ n. option_map (λ node. target_by (first + n) node) (node_number o y.unit k)) (position (same_source (source_by i y.unit)) (sources objects)))) stands
      ∙ ap (option_and_then (λ n. option_map (λ node. target_by (first + n) node) (node_number o e.unit k))) found
      ∙ ap (option_map (λ node. target_by (first + _) node)) own.is in
      record {
        target = target_by (first + _) own.number;
        is = target;
        number = own.is;
        node = own.at;
        place = _;
        found = found;
        source = read;
        unit = refl;
      }

  -- behind some units, by the image of each entry of each object
  module _ (units : List OutUnit) (image : ℕ → ℕ → Option Target) where
    -- what is written of a unit
    pub source_written : (s : Source) (o : Object) (unit : InUnit) → slice_get objects s.object ≡ Some o → slice_get o.seen.units s.unit ≡ Some unit → written image objects s ≡ Some (unit_written (image s.object) o s.unit unit)
    source_written s o unit at is =
        ap (option_and_then (λ (x : Object). option_map (unit_written (image s.object) x s.unit) (slice_get x.seen.units s.unit))) at ∙ ap (option_map (unit_written (image s.object) o s.unit)) is

    pub all_there : All (λ s. is_some (written image objects s) ≡ true) (sources objects)
    all_there = All-weaker IsSource (λ s. is_some (written image objects s) ≡ true) (λ s h. ap is_some (source_written s h.object h.unit h.at h.is)) (sources objects) all_sources

    -- where the node of an entry that is written stands
    pub record Goes (i : ℕ) (o : Object) (k : ℕ) (e : Entry) (unit : InUnit) : Type 0 where
      pub target : Target
      pub is : plain_target (length units) objects i k ≡ Some target
      pub number : node_number o e.unit k ≡ Some target.node
      pub in_graph : slice_get (linked_behind units image objects).units target.unit ≡ Some (unit_written (image i) o e.unit unit)
      pub node : slice_get (kept_entries o e.unit) target.node ≡ Some (k, e)

    pub goes : (i : ℕ) (o : Object) (k : ℕ) (e : Entry) (unit : InUnit) → slice_get objects i ≡ Some o → IsSound o.seen → Stands o.seen.entries k e → slice_get o.seen.units e.unit ≡ Some unit → is_kept o k ≡ true → Goes i o k e unit
    goes i o k e unit at sound stands is kept =
        let own = lies (length units) i o k e unit at sound stands is kept in
        let place = kept_at (written image objects) (sources objects) own.place all_there ∙ ap (option_and_then (written image objects)) own.source ∙ source_written (source_by i e.unit) o unit at is in
        record {
          target = own.target;
          is = own.is;
          number = own.number;
          in_graph = ap (slice_get (linked_behind units image objects).units) own.unit ∙ slice_get_behind units (filter_map (written image objects) (sources objects)) own.place ∙ place;
          node = own.node;
        }

  -- an entry that has a node is written
  pub record IsPlaced (o : Object) (k : ℕ) : Type 0 where
    pub entry : Entry
    pub stands : Stands o.seen.entries k entry
    pub kept : is_kept o k ≡ true

  pub entry_placed : (first i : ℕ) (o : Object) (k : ℕ) (target : Target) → slice_get objects i ≡ Some o → plain_target first objects i k ≡ Some target → IsPlaced o k
  entry_placed first i o k target at is = by (slice_get o.seen.entries k) refl
      (sym (ap (option_and_then (λ (x : Object). option_and_then (λ (y : Entry). option_and_then (λ n. option_map (λ node. target_by (first + n) node) (node_number x y.unit k)) (position (same_source (source_by i y.unit)) (sources objects))) (slice_get x.seen.entries k))) at) ∙ is)
    where
      node_by : (e : Entry) (found : Option ℕ) → slice_get o.seen.entries k ≡ Some e → node_number o e.unit k ≡ found → (unit : Option ℕ) → option_and_then (λ n. option_map (λ node. target_by (first + n) node) found) unit ≡ Some target → IsPlaced o k
      node_by e None stands number None none = absurd cc
      node_by e None stands number (Some n) none = absurd cc
      node_by e (Some node) stands number unit some =
          let first = position-Some (λ x. x.0 == k) (kept_entries o e.unit) node (k, e) number in
          let x = get_or (kept_entries o e.unit) node (k, e) in
          record { entry = e; stands = stands; kept = subst (λ (n : ℕ). is_kept o n ≡ true) (eqb-true x.0 k first.1) (all_written o e.unit node (k, e) first.0).kept }

      by : (found : Option Entry) → slice_get o.seen.entries k ≡ found
          → option_and_then (λ (y : Entry). option_and_then (λ n. option_map (λ node. target_by (first + n) node) (node_number o y.unit k)) (position (same_source (source_by i y.unit)) (sources objects))) found ≡ Some target → IsPlaced o k
      by None none some = absurd cc
      by (Some e) stands some = node_by e (node_number o e.unit k) stands refl (position (same_source (source_by i e.unit)) (sources objects)) some
