-- A unit that is written is well, and so is the graph.
use Rattle.std.proofs.Common.{◌≡◌, ◌<◌, ◌+◌, ◌==◌, ℕ, suc, Bool, true, false, cond, eqb, List, [], ◌∷◌, ◌++◌, length, map, drop, get_or, slice_get, Option, Some, None, inl, inr, refl, sym, ap, subst, ◌∙◌, append-nil, arith}
use Rattle.std.specs.List.{All, Contains, filter_map, flat_map, list_any}
use Rattle.std.specs.Option.{is_none, option_and_then, option_map, option_map_or}
use Rattle.std.proofs.lemmas.Bool.{cases_lt, eqb-false, eqb-true}
use Rattle.std.proofs.lemmas.List.{length-map}
use Rattle.std.proofs.lemmas.List.Elements.{All-append, All-cons, All-contains_itself, All-map, All-nil, All-weaker}
use Rattle.std.proofs.lemmas.Option.{get_or_from_slice_get, same_Some, slice_get_cases, slice_get-get_or, slice_get-map, slice_get_within}
use Rattle.ds_base.specs.DwarfNumbers.{DW_AT_low_pc, DW_AT_ranges}
use Rattle.dwarf_types.specs.declared.address.Span.{Span}
use Rattle.dwarf_types.specs.declared.entry.Attr.{Attr}
use Rattle.dwarf_types.specs.declared.entry.Entry.{Entry}
use Rattle.dwarf_types.specs.declared.entry.InUnit.{InUnit}
use Rattle.dwarf_types.specs.declared.graph.Graph.{Graph}
use Rattle.dwarf_types.specs.declared.graph.Node.{Node}
use Rattle.dwarf_types.specs.declared.graph.OutAttr.{OutAttr}
use Rattle.dwarf_types.specs.declared.graph.OutUnit.{OutUnit}
use Rattle.dwarf_types.specs.declared.graph.OutValue.TheVariants as out
use Rattle.dwarf_types.specs.declared.graph.Target.{Target}
use Rattle.dwarf_types.specs.LinkedGraph.{closing, code_of_unit, linked, linked_behind, node_of, unit_written, written}
use Rattle.dwarf_types.specs.LinkedUnits.{Object, Source, is_kept, kept_entries, node_number, parent_node, plain_target, sources}
use Rattle.dwarf_types.specs.LinkedValues.{attrs_written}
use Rattle.dwarf_types.specs.Live.{Stands, bases_of, op_bases, operations_of}
use Rattle.dwarf_types.specs.Sound.{IsParent}
use Rattle.dwarf_types.specs.Sound as sound_bases
use Rattle.dwarf_types.specs.Well.{IsWell, IsWellUnit}
use Rattle.dwarf_types.specs.WellLines.{IsFrame}
use Rattle.dwarf_types.specs.WellNodes.{IsAttribute, IsNode, IsPreorderParent, has_lines}
use Rattle.dwarf_types.specs.WellRoots.{EndsWith, IsRoot, closing_pair, is_code_range, is_split, names_lines_first, with_ranges, without_ranges}
use Rattle.dwarf_types.specs.WellValues.{IsTarget}
use Rattle.link_graph.proofs.Gathered.{All-filter_map, All-flat_map}
use Rattle.link_graph.proofs.Units.{unit_has}
use Rattle.linked_laws.specs.Spellable.{IsSpellableEntry, IsSpellableUnit, version_of}
use Rattle.linked_laws.specs.Spellable as given
use Rattle.linked_laws.specs.Kept.{IsWhole, Leads}
use Rattle.linked_laws.proofs.Attributes.{BaseGoes, Refers, allows_itself, attributes_hold, mapped_some}
use Rattle.linked_laws.proofs.Chains.{entry_of_unit, root_kept}
use Rattle.linked_laws.proofs.Images.{IsSource, all_sources, entry_placed, goes, source_written}
use Rattle.linked_laws.proofs.Lists.{all_of_each}
use Rattle.linked_laws.proofs.Preorder.{first_alone, node_parent, rise_read}
use Rattle.linked_laws.proofs.Roots.{any_append, first_append, first_left, first_none, lines_append, lines_out, lines_left, no_code_left, no_lines_left, no_split_left}
use Rattle.linked_laws.proofs.Spans.{code_spans}
use Rattle.linked_laws.proofs.Written.{IsWritten, all_written, node_of_entry, written_at, written_rise}

-- ---- what closes a root

closing_some : (spans : List Span) (root : Bool) → List OutAttr
closing_some spans root = cond root (cond (eqb (length spans) 0) [] (closing_pair spans)) []

module _
    (units : List OutUnit) (places : ℕ → ℕ → Option Target) (objects : List Object) (each : (i : ℕ) (o : Object) → slice_get objects i ≡ Some o → IsWhole o)
    (leads : (i : ℕ) (o : Object) → slice_get objects i ≡ Some o → Leads units places objects i o)
  where
    abbrev graph : Graph
    graph = linked_behind units places objects

    module _ (s : Source) (o : Object) (unit : InUnit) (at : slice_get objects s.object ≡ Some o) (is : slice_get o.seen.units s.unit ≡ Some unit) where
      abbrev image : ℕ → Option Target
      image = places s.object

      abbrev spans : List Span
      spans = code_of_unit o s.unit

      abbrev f : ℕ × Entry → Node
      f = node_of image o s.unit

      abbrev kept : List (ℕ × Entry)
      kept = kept_entries o s.unit

      abbrev nodes : List Node
      nodes = map f kept

      whole : IsWhole o
      whole = each s.object o at

      -- ---- targets and base types

      pub refers : (e : Entry) → All (Refers image graph nodes) e.attrs
      refers e n d lt j target sibling found gone = (leads s.object o at).targets j target gone

      base_there : (e : Entry) (j : ℕ) → e.unit ≡ s.unit → is_kept o j ≡ true → sound_bases.IsBaseType o.seen.entries e.unit j → BaseGoes image graph nodes j
      base_there e j same j_kept base =
          let x = base.entry in
          let own = whole.sound.entries j x base.stands in
          let g = goes objects units places s.object o j x own.unit at whole.sound base.stands own.its_unit j_kept in
          let place : slice_get kept g.target.node ≡ Some (j, x) = subst (λ (v : ℕ). slice_get (kept_entries o v) g.target.node ≡ Some (j, x)) (base.unit ∙ same) g.node in
          (g.target, (leads s.object o at).bases j x j_kept base.stands base.tag ∙ g.is, record { node = f (j, x); stands = slice_get-map f kept g.target.node ∙ ap (option_map f) place; tag = base.tag })

      pub bases : (k : ℕ) (e : Entry) → Stands o.seen.entries k e → e.unit ≡ s.unit → is_kept o k ≡ true → All (λ a. All (BaseGoes image graph nodes) (flat_map op_bases (operations_of a.value))) e.attrs
      bases k e stands same k_kept =
          all_of_each (BaseGoes image graph nodes) (λ (a : Attr). flat_map op_bases (operations_of a.value)) e.attrs
          (All-weaker (Contains (bases_of e)) (BaseGoes image graph nodes) (λ j there. base_there e j same (whole.bases k j e k_kept stands there) ((whole.sound.entries k e stands).bases j there)) (bases_of e) (All-contains_itself (bases_of e)))

      -- ---- nodes

      closing_attrs : All (IsAttribute (IsTarget graph) unit.version nodes) (closing_pair spans)
      closing_attrs =
          let low : OutAttr = record { name = DW_AT_low_pc; value = out.Address 0 } in
          let ranges : OutAttr = record { name = DW_AT_ranges; value = out.Ranges spans } in
          All-cons (IsAttribute (IsTarget graph) unit.version nodes) low (ranges ∷ []) (record { some = omega arith; fits = omega arith; kept = refl; value = omega arith; stands = tt })
          (All-cons (IsAttribute (IsTarget graph) unit.version nodes) ranges [] (record { some = omega arith; fits = omega arith; kept = refl; value = code_spans o s.unit whole.given.code; stands = refl }) (All-nil (IsAttribute (IsTarget graph) unit.version nodes)))

      closing_by : (root none : Bool) → All (IsAttribute (IsTarget graph) unit.version nodes) (cond root (cond none [] (closing_pair spans)) [])
      closing_by true true = All-nil (IsAttribute (IsTarget graph) unit.version nodes)
      closing_by true false = closing_attrs
      closing_by false none = All-nil (IsAttribute (IsTarget graph) unit.version nodes)

      pub node_holds : (x : ℕ × Entry) → IsWritten o s.unit x → IsNode (IsTarget graph) unit.version nodes (f x)
      node_holds x w =
          let e_given = given_of x.0 x.1 w.stands w.unit in
          record {
            some = e_given.some;
            fits = e_given.fits;
            attrs = All-append (IsAttribute (IsTarget graph) unit.version nodes) (attrs_written image None x.1) (closing x.1 spans)
                (attributes_hold image graph nodes unit.version unit.version (allows_itself unit.version) None tt x.1 e_given.attrs (refers x.1) (bases x.0 x.1 w.stands w.unit w.kept))
                (closing_by (is_none x.1.parent) (eqb (length spans) 0));
          }
        where
          its_version : (e : Entry) → e.unit ≡ s.unit → version_of o.seen.units e.unit ≡ unit.version
          its_version e same = ap (version_of o.seen.units) same ∙ ap (λ (found : Option InUnit). option_map_or (λ (u : InUnit). u.version) found 0) is

          given_of : (k : ℕ) (e : Entry) → Stands o.seen.entries k e → e.unit ≡ s.unit → IsSpellableEntry unit.version e
          given_of k e stands same =
              subst (λ (version : ℕ). IsSpellableEntry version e) (its_version e same)
              (subst (λ (x : Entry). IsSpellableEntry (version_of o.seen.units x.unit) x) (get_or_from_slice_get o.seen.entries k e e stands) (whole.given.entries k e (slice_get_within o.seen.entries k e stands)))

      pub all_nodes : All (IsNode (IsTarget graph) unit.version nodes) nodes
      all_nodes = All-map (IsNode (IsTarget graph) unit.version nodes) f kept (All-weaker (IsWritten o s.unit) (λ x. IsNode (IsTarget graph) unit.version nodes (f x)) node_holds kept (all_written o s.unit))

      -- ---- the root

      -- the unit's root stands first
      record First : Type 0 where
        root : Entry
        stands : Stands o.seen.entries unit.first root
        unit_is : root.unit ≡ s.unit
        kept_is : is_kept o unit.first ≡ true
        rest : List (ℕ × Entry)
        all : kept ≡ (unit.first, root) ∷ rest

      head_is : {A : Type 0} (xs : List A) (x : A) → slice_get xs 0 ≡ Some x → xs ≡ x ∷ drop 1 xs
      head_is [] x e = absurd cc
      head_is (y ∷ xs) x e = ap (λ z. z ∷ xs) (same_Some y x e)

      first_by : (y : ℕ × Entry) → slice_get kept 0 ≡ Some y → First
      first_by y there =
          let w = written_at o s.unit 0 y there in
          let lies = unit_has o.seen s.unit unit y.0 y.1 whole.sound is w.stands w.unit in
          let root_is = root_kept o whole.sound whole.parents s.unit unit y.0 y.1 is w.stands w.unit w.kept in
          let own = entry_of_unit o whole.sound whole.parents s.unit unit unit.first is (record { from_first = omega arith; before_end = omega (arith, lies.from_first, lies.before_end) }) in
          let node = node_of_entry o s.unit unit unit.first own.0 whole.sound is own.1 own.2 root_is in
          let zeroth : node.number ≡ 0 = elim (cases_lt 0 node.number) [
            | inl lt ↦ absurd (omega (arith, lies.from_first, rise_read kept (written_rise o s.unit) 0 node.number y (unit.first, own.0) there node.at lt))
            | inr le ↦ omega (arith, le)
          ] in
          let place = subst (λ (n : ℕ). slice_get kept n ≡ Some (unit.first, own.0)) zeroth node.at in
          record { root = own.0; stands = own.1; unit_is = own.2; kept_is = root_is; rest = drop 1 kept; all = head_is kept (unit.first, own.0) place }

      first : (length kept == 0) ≡ false → First
      first some = elim (slice_get_cases kept 0).1 [
        | inl w ↦ first_by w.0 w.2
        | inr w ↦ absurd (eqb-false (length kept) 0 some (omega (arith, w.0)))
      ]

      parent_none : (parent : Option ℕ) → IsParent unit unit.first parent → parent ≡ None
      parent_none None h = refl
      parent_none (Some p) h = absurd (omega (arith, h.0, h.1))

      root_alone : (r : First) → r.root.parent ≡ None
      root_alone r =
          let own = whole.sound.entries unit.first r.root r.stands in
          let unit_same : own.unit ≡ unit = same_Some own.unit unit (sym own.its_unit ∙ ap (slice_get o.seen.units) r.unit_is ∙ is) in
          parent_none r.root.parent (subst (λ (x : InUnit). IsParent x unit.first r.root.parent) unit_same own.parent)

      given_unit : IsSpellableUnit o.seen.entries unit
      given_unit = subst (IsSpellableUnit o.seen.entries) (get_or_from_slice_get o.seen.units s.unit unit unit is) (whole.given.units s.unit unit (slice_get_within o.seen.units s.unit unit is))

      nothing : (xs : List Span) → length xs ≡ 0 → xs ≡ []
      nothing [] e = refl
      nothing (x ∷ xs) e = absurd (omega (arith, e))

      ends_by : (none : Bool) → eqb (length spans) 0 ≡ none → (attrs : List OutAttr) → list_any (λ b. is_code_range b.name) attrs ≡ false → EndsWith spans (attrs ++ cond none [] (closing_pair spans))
      ends_by true e attrs code =
          let empty : spans ≡ [] = nothing spans (eqb-true (length spans) 0 e) in
          without_ranges empty (ap (list_any (λ b. is_code_range b.name)) (append-nil attrs) ∙ code)
      ends_by false e attrs code = with_ranges attrs refl code

      closing_root : (r : First) → (attrs : List OutAttr) → attrs ++ closing r.root spans ≡ attrs ++ cond (eqb (length spans) 0) [] (closing_pair spans)
      closing_root r attrs = ap (λ (b : Bool). attrs ++ cond b (cond (eqb (length spans) 0) [] (closing_pair spans)) []) (ap is_none (root_alone r))

      no_lines_close : (none : Bool) → lines_out (cond none [] (closing_pair spans)) ≡ false
      no_lines_close true = refl
      no_lines_close false = refl

      no_split_close : (none : Bool) → list_any (λ b. is_split b.name) (cond none [] (closing_pair spans)) ≡ false
      no_split_close true = refl
      no_split_close false = refl

      root_holds : (r : First) → IsRoot (unit_written image o s.unit unit) (f (unit.first, r.root))
      root_holds r =
          let given_root = given_unit.root r.root r.stands in
          let attrs = attrs_written image None r.root in
          let none = eqb (length spans) 0 in
          let close = cond none [] (closing_pair spans) in
          let all = closing_root r attrs in
          record {
            parent = ap (option_and_then (node_number o s.unit)) (root_alone r);
            tag = given_root.tag;
            whole = ap (list_any (λ b. is_split b.name)) all ∙ any_append (λ b. is_split b.name) attrs close (no_split_close none) ∙ no_split_left image r.root given_root.whole;
            ends = subst (EndsWith spans) (sym all) (ends_by none refl attrs (no_code_left image r.root (root_alone r)));
            stmt_list = ap names_lines_first all ∙ first_append attrs close (first_left image r.root r.root.attrs given_root.stmt_list) (first_none image r.root close (no_lines_close none)) (no_lines_close none);
            lines = given_root.lines ∙ sym (lines_left image r.root r.root.attrs given_root.stmt_list) ∙ sym (lines_append attrs close (no_lines_close none)) ∙ ap lines_out (sym all);
          }

      -- ---- the nodes below

      behind_at : (r : First) (j : ℕ) (x : ℕ × Entry) → slice_get r.rest j ≡ Some x → slice_get kept (j + 1) ≡ Some x
      behind_at r j x there =
          let next : j + 1 ≡ suc j = omega arith in
          ap (λ (xs : List (ℕ × Entry)). slice_get xs (j + 1)) r.all ∙ ap (slice_get ((unit.first, r.root) ∷ r.rest)) next ∙ there

      first_at : (r : First) → slice_get kept 0 ≡ Some (unit.first, r.root)
      first_at r = ap (λ (xs : List (ℕ × Entry)). slice_get xs 0) r.all

      -- all others stand behind the root
      behind_root : (r : First) (j : ℕ) (x : ℕ × Entry) → slice_get r.rest j ≡ Some x → unit.first < x.0
      behind_root r j x there = rise_read kept (written_rise o s.unit) 0 (j + 1) (unit.first, r.root) x (first_at r) (behind_at r j x there) (omega arith)

      parent_same : (x : ℕ × Entry) → (f x).parent ≡ parent_node o s.unit x.1
      parent_same x = refl

      below_parent : (r : First) (j : ℕ) (node : Node) → slice_get (map f r.rest) j ≡ Some node → IsPreorderParent nodes j node.parent
      below_parent r j node there =
          let h = mapped_some f (slice_get r.rest j) node (sym (slice_get-map f r.rest j) ∙ there) in
          let x = h.0 in
          let in_kept = behind_at r j x h.1 in
          let before = slice_get-get_or kept j x (omega (arith, slice_get_within kept (j + 1) x in_kept)) in
          let y = get_or kept j x in
          subst (λ (n : Node). IsPreorderParent nodes j n.parent) (sym h.2)
          (node_parent o whole.sound whole.parents whole.given.preorder s.unit unit is f parent_same j x.0 y.0 x.1 y.1 x.1.parent refl (behind_root r j x h.1) in_kept before)

      some_parent : (k : ℕ) (e : Entry) (parent : Option ℕ) → e.parent ≡ parent → Stands o.seen.entries k e → e.unit ≡ s.unit → unit.first < k → is_none parent ≡ false
      some_parent k e None h stands same behind =
          absurd (omega (arith, behind, first_alone o whole.sound whole.parents whole.given.preorder s.unit unit is f parent_same k e e.parent refl stands same h))
      some_parent k e (Some p) h stands same behind = refl

      node_without_lines : (x : ℕ × Entry) → is_none x.1.parent ≡ false → given.has_lines x.1.attrs ≡ false → has_lines (f x) ≡ false
      node_without_lines x below none =
          let attrs = attrs_written image None x.1 in
          ap (λ (b : Bool). lines_out (attrs ++ cond b (cond (eqb (length spans) 0) [] (closing_pair spans)) [])) below ∙ lines_append attrs [] refl ∙ no_lines_left image x.1 none

      below_lines : (r : First) → All (λ node. has_lines node ≡ false) (map f r.rest)
      below_lines r = All-map (λ (node : Node). has_lines node ≡ false) f r.rest (λ k d lt.
          let x = get_or r.rest k d in
          let there = slice_get-get_or r.rest k d lt in
          let w = written_at o s.unit (k + 1) x (behind_at r k x there) in
          let below = some_parent x.0 x.1 x.1.parent refl w.stands w.unit (behind_root r k x there) in
          let none = subst (λ (e : Entry). is_none e.parent ≡ false → given.has_lines e.attrs ≡ false) (get_or_from_slice_get o.seen.entries x.0 x.1 x.1 w.stands) (whole.given.no_lines x.0 x.1 (slice_get_within o.seen.entries x.0 x.1 w.stands)) in
          node_without_lines x below (none below))

      pub unit_well : (length kept == 0) ≡ false → IsWellUnit (IsTarget graph) (unit_written image o s.unit unit)
      unit_well some =
          let r = first some in
          record {
            version = given_unit.version;
            root = f (unit.first, r.root);
            below = map f r.rest;
            nodes = ap (map f) r.all;
            is_root = root_holds r;
            preorder = below_parent r;
            no_lines = below_lines r;
            each = all_nodes;
            lines = given_unit.lines;
            ranges = code_spans o s.unit whole.given.code;
          }

    -- ---- the graph

    source_well : (s : Source) (y : OutUnit) → IsSource objects s → written places objects s ≡ Some y → IsWellUnit (IsTarget graph) y
    source_well s y h e = subst (IsWellUnit (IsTarget graph)) (same_Some _ y (sym (source_written objects units places s h.object h.unit h.at h.is) ∙ e)) (unit_well s h.object h.unit h.at h.is h.some)

    frames_well : (os : List Object) → All (λ o. All IsFrame o.seen.frames) os → All IsFrame (flat_map (λ o. o.seen.frames) os)
    frames_well os h = All-flat_map IsFrame (λ o. o.seen.frames) os h

    pub behind_well : All (IsWellUnit (IsTarget graph)) units → IsWell graph
    behind_well before = record {
      units = All-append (IsWellUnit (IsTarget graph)) units (filter_map (written places objects) (sources objects)) before
          (All-filter_map (IsWellUnit (IsTarget graph)) (written places objects) (sources objects) (λ k d lt y e. source_well _ y (all_sources objects k d lt) e));
      frames = frames_well objects (λ k d lt. (each k (get_or objects k d) (slice_get-get_or objects k d lt)).given.frames);
    }

-- ---- where nothing is merged

-- a target is the node of an entry that is written
own_nodes : (objects : List Object) → ((i : ℕ) (o : Object) → slice_get objects i ≡ Some o → IsWhole o) → (i : ℕ) (o : Object) → slice_get objects i ≡ Some o → Leads [] (plain_target 0 objects) objects i o
own_nodes objects each i o at = record { targets = there; bases = λ j e j_kept stands base. refl }
  where
    whole : IsWhole o
    whole = each i o at

    there : (k : ℕ) (target : Target) → plain_target 0 objects i k ≡ Some target → IsTarget (linked objects) target
    there k target is =
        let placed = entry_placed objects 0 i o k target at is in
        let own = whole.sound.entries k placed.entry placed.stands in
        let g = goes objects [] (plain_target 0 objects) i o k placed.entry own.unit at whole.sound placed.stands own.its_unit placed.kept in
        let same : g.target ≡ target = same_Some g.target target (sym g.is ∙ is) in
        subst (IsTarget (linked objects)) same (record {
          unit = unit_written (plain_target 0 objects i) o placed.entry.unit own.unit;
          stands = g.in_graph;
          inside = omega (arith, slice_get_within (kept_entries o placed.entry.unit) g.target.node (k, placed.entry) g.node, length-map (kept_entries o placed.entry.unit) (node_of (plain_target 0 objects i) o placed.entry.unit));
        })

pub graph_well : (objects : List Object) → ((i : ℕ) (o : Object) → slice_get objects i ≡ Some o → IsWhole o) → IsWell (linked objects)
graph_well objects each = behind_well [] (plain_target 0 objects) objects each (own_nodes objects each) (All-nil (IsWellUnit (IsTarget (linked objects))))
