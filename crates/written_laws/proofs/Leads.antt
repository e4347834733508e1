-- References lead to entries: each to the one that begins at its place.
use Rattle.std.proofs.Common.{◌≡◌, ◌<◌, ◌+◌, ◌++◌, ◌==◌, ◌&&◌, ◌||◌, ℕ, zero, suc, Bool, true, false, List, [], ◌∷◌, length, map, slice_get, if◌then◌else◌, Option, Some, None, refl, sym, ap, ap₂, subst, ◌∙◌, arith}
use Rattle.std.specs.List.{All, list_any}
use Rattle.std.specs.Option.{option_map, option_map_or}
use Rattle.std.proofs.lemmas.Bool.{eq-eqb, eqb-true}
use Rattle.std.proofs.lemmas.List.Elements.{All-head, All-tail}
use Rattle.std.proofs.lemmas.Option.{same_Some, slice_get_within}
use Rattle.dwarf_types.specs.declared.entry.RawEntry.{RawEntry}
use Rattle.dwarf_types.specs.declared.graph.Graph.{Graph}
use Rattle.dwarf_types.specs.declared.graph.Node.{Node}
use Rattle.dwarf_types.specs.declared.graph.OutAttr.{OutAttr}
use Rattle.dwarf_types.specs.declared.graph.OutUnit.{OutUnit}
use Rattle.dwarf_types.specs.declared.graph.OutValue.{OutValue}
use Rattle.dwarf_types.specs.declared.graph.OutValue.TheVariants as outs
use Rattle.dwarf_types.specs.declared.graph.Target.{Target}
use Rattle.dwarf_types.specs.declared.value.Value.{Value}
use Rattle.dwarf_types.specs.declared.value.Value.TheVariants as values
use Rattle.ds_base.specs.DwarfNumbers.{DW_FORM_ref4, DW_FORM_ref_addr}
use Rattle.ds_base.specs.Leb.{uleb}
use Rattle.dwarf_types.specs.Entries.{behind_node, header_len, lists_ended, node_place}
use Rattle.dwarf_types.specs.Forms.{form_of}
use Rattle.dwarf_types.specs.Layout.{lists_place, places_of, target_place, unit_start}
use Rattle.dwarf_types.specs.Places.{ListPlaces, Places, behind_value}
use Rattle.dwarf_types.specs.Values.{value_bytes}
use Rattle.dwarf_types.specs.WellNodes.{IsAttribute, IsNode}
use Rattle.dwarf_types.specs.WellValues.{IsTarget, IsValue}
use Rattle.unit_tree.specs.declared.meaning.Meaning.{Meaning}
use Rattle.unit_tree.specs.declared.meaning.Meaning.TheVariants.{InUnit as InTheUnit, InObject}
use Rattle.unit_tree.specs.Meaning.{meaning_of}
use Rattle.unit_tree.specs.Reference.{reaches}
use Rattle.unit_tree.specs.Spelling.{AttrsLead, Forest, Node as TreeNode, NodeLeads, TreesLead, ValueLeads, begins_at, entry_of, size}
use Rattle.unit_tree.specs.Spelling.Forest.{no_more, tree}
use Rattle.written_laws.specs.ReadDeclarations.{fields_of}
use Rattle.written_laws.specs.ReadEntries.{code_of, head_bytes, listed, made_from}
use Rattle.written_laws.specs.ReadUnits.{entries_read, made_of, numbered_from}
use Rattle.written_laws.specs.ReadValues.{raw_attrs, raw_value}
use Rattle.written_laws.proofs.Cuts.{any_back, any_front, or_left, or_right}
use Rattle.written_laws.proofs.OwnPlaces.{begins}

-- ---- tests

any_more : {X : Type 0} (p q : X → Bool) → ((x : X) → p x ≡ true → q x ≡ true) → (xs : List X) → list_any p xs ≡ true → list_any q xs ≡ true
any_more p q more [] e = e
any_more {X} p q more (x ∷ xs) e = by (p x) refl e (any_more p q more xs)
  where
    by : (b : Bool) → p x ≡ b → (b || list_any p xs) ≡ true → (list_any p xs ≡ true → list_any q xs ≡ true) → (q x || list_any q xs) ≡ true
    by true is e others = or_left (q x) (list_any q xs) (more x is)
    by false is e others = or_right (q x) (list_any q xs) (others e)

pub any_mapped : {X Y : Type 0} (p : Y → Bool) (f : X → Y) (xs : List X) → list_any (λ x. p (f x)) xs ≡ true → list_any p (map f xs) ≡ true
any_mapped p f [] e = e
any_mapped {X} p f (x ∷ xs) e = by (p (f x)) e (any_mapped p f xs)
  where
    by : (b : Bool) → (b || list_any (λ y. p (f y)) xs) ≡ true → (list_any (λ y. p (f y)) xs ≡ true → list_any p (map f xs) ≡ true) → (b || list_any p (map f xs)) ≡ true
    by true e others = refl
    by false e others = others e

-- ---- the entry at a place

module _ (graph : Graph) where
  begins_in : (own : Option ℕ) (u first : ℕ) (unit : OutUnit) (k : ℕ) → k < length unit.nodes → reaches own u ≡ true
      → begins_at (numbered_from u first (made_of graph u unit)) own (unit_start graph u + node_place u unit k) ≡ true
  begins_in own u first unit k lt reach =
      let at : ℕ = unit_start graph u + node_place u unit k in
      let there = begins (places_of graph u unit) unit.nodes unit.nodes (lists_place graph u unit) (unit_start graph u + header_len unit.version) 0 k (unit_start graph u + node_place u unit k) lt (omega arith) in
      any_mapped (λ (e : RawEntry). e.place == unit_start graph u + node_place u unit k && reaches own e.unit) (λ (e : Option ℕ × TreeNode). entry_of u (option_map (λ p. first + p) e.0) e.1) (made_of graph u unit)
      (any_more (λ (e : Option ℕ × TreeNode). e.1.place == unit_start graph u + node_place u unit k) (λ (e : Option ℕ × TreeNode). e.1.place == unit_start graph u + node_place u unit k && reaches own u)
      (λ e is. ap₂ (λ (a b : Bool). a && b) is reach) (made_of graph u unit) there)

  begins_from : (own : Option ℕ) (u first : ℕ) (units : List OutUnit) (i : ℕ) (unit : OutUnit) (k : ℕ) → slice_get units i ≡ Some unit → k < length unit.nodes → reaches own (u + i) ≡ true
      → begins_at (entries_read graph u first units) own (unit_start graph (u + i) + node_place (u + i) unit k) ≡ true
  begins_from own u first [] i unit k at lt reach = absurd (omega (arith, slice_get_within [] i unit at))
  begins_from own u first (x ∷ units) zero unit k at lt reach =
      let same : x ≡ unit = same_Some x unit at in
      let here : u ≡ u + zero = omega arith in
      let place : ℕ = unit_start graph (u + zero) + node_place (u + zero) unit k in
      any_front (λ (e : RawEntry). e.place == unit_start graph (u + zero) + node_place (u + zero) unit k && reaches own e.unit) (numbered_from u first (made_of graph u x)) (entries_read graph (u + 1) (first + length x.nodes) units)
      (subst (λ (y : OutUnit). begins_at (numbered_from u first (made_of graph u y)) own (unit_start graph (u + zero) + node_place (u + zero) unit k) ≡ true) (sym same)
      (subst (λ (v : ℕ). begins_at (numbered_from u first (made_of graph u unit)) own (unit_start graph v + node_place v unit k) ≡ true) here
      (begins_in own u first unit k lt (ap (reaches own) here ∙ reach))))
  begins_from own u first (x ∷ units) (suc i) unit k at lt reach =
      let next : u + 1 + i ≡ u + suc i = omega arith in
      any_back (λ (e : RawEntry). e.place == unit_start graph (u + suc i) + node_place (u + suc i) unit k && reaches own e.unit) (numbered_from u first (made_of graph u x)) (entries_read graph (u + 1) (first + length x.nodes) units)
      (subst (λ (v : ℕ). begins_at (entries_read graph (u + 1) (first + length x.nodes) units) own (unit_start graph v + node_place v unit k) ≡ true) next
      (begins_from own (u + 1) (first + length x.nodes) units i unit k at lt (ap (reaches own) next ∙ reach)))

  -- a target begins where a reference leads
  pub target_begins : (own : Option ℕ) (target : Target) → IsTarget graph target → reaches own target.unit ≡ true → begins_at (entries_read graph 0 0 graph.units) own (unit_start graph target.unit + target_place graph target) ≡ true
  target_begins own target is reach =
      let index : 0 + target.unit ≡ target.unit = omega arith in
      let place : target_place graph target ≡ node_place target.unit is.unit target.node = ap (λ (o : Option OutUnit). option_map_or (λ unit. node_place target.unit unit target.node) o 0) is.stands in
      subst (λ (p : ℕ). begins_at (entries_read graph 0 0 graph.units) own (unit_start graph target.unit + p) ≡ true) (sym place)
      (subst (λ (v : ℕ). begins_at (entries_read graph 0 0 graph.units) own (unit_start graph v + node_place v is.unit target.node) ≡ true) index
      (begins_from own 0 0 graph.units target.unit is.unit target.node is.stands is.inside (ap (reaches own) index ∙ reach)))

-- ---- attributes

abbrev is_ref : Value → Bool
is_ref (values.Ref place) = true
is_ref _ = false

leads_nowhere : (entries : List RawEntry) (u : ℕ) (m : Meaning) (v : Value) → is_ref v ≡ false → ValueLeads entries u m v
leads_nowhere entries u InTheUnit (values.Ref place) e = absurd cc
leads_nowhere entries u InObject (values.Ref place) e = absurd cc
leads_nowhere entries u m v e = tt

module _ (graph : Graph) (u : ℕ) (unit : OutUnit) (entries : List RawEntry)
    (begin : (own : Option ℕ) (target : Target) → IsTarget graph target → reaches own target.unit ≡ true → begins_at entries own (unit_start graph target.unit + target_place graph target) ≡ true) where
  abbrev places : Places
  places = places_of graph u unit

  ref_leads : (name : ℕ) (target : Target) → IsTarget graph target → (b : Bool) → (target.unit == u) ≡ b
      → ValueLeads entries u (meaning_of (if b then DW_FORM_ref4 else DW_FORM_ref_addr) name) (values.Ref (unit_start graph target.unit + target_place graph target))
  unfolding meaning_of
  ref_leads name target is true e =
      let same : target.unit ≡ u = eqb-true target.unit u e in
      begin (Some u) target is (eq-eqb u target.unit (sym same))
  ref_leads name target is false e = begin None target is refl

  value_leads : (next : ListPlaces) (name version : ℕ) (nodes : List Node) (value : OutValue) → IsValue (IsTarget graph) version nodes value → ValueLeads entries u (meaning_of (form_of u value) name) (raw_value places next value)
  value_leads next name version nodes (outs.Ref target) is = ref_leads name target is (target.unit == u) refl
  value_leads next name version nodes (outs.Address n) is = leads_nowhere entries u (meaning_of (form_of u (outs.Address n)) name) (raw_value places next (outs.Address n)) refl
  value_leads next name version nodes (outs.Text t) is = leads_nowhere entries u (meaning_of (form_of u (outs.Text t)) name) (raw_value places next (outs.Text t)) refl
  value_leads next name version nodes (outs.Number f n) is = leads_nowhere entries u (meaning_of (form_of u (outs.Number f n)) name) (raw_value places next (outs.Number f n)) refl
  value_leads next name version nodes (outs.Wide b) is = leads_nowhere entries u (meaning_of (form_of u (outs.Wide b)) name) (raw_value places next (outs.Wide b)) refl
  value_leads next name version nodes (outs.Block f b) is = leads_nowhere entries u (meaning_of (form_of u (outs.Block f b)) name) (raw_value places next (outs.Block f b)) refl
  value_leads next name version nodes (outs.Expr p) is = leads_nowhere entries u (meaning_of (form_of u (outs.Expr p)) name) (raw_value places next (outs.Expr p)) refl
  value_leads next name version nodes (outs.Ranges s) is = leads_nowhere entries u (meaning_of (form_of u (outs.Ranges s)) name) (raw_value places next (outs.Ranges s)) refl
  value_leads next name version nodes (outs.Locations l) is = leads_nowhere entries u (meaning_of (form_of u (outs.Locations l)) name) (raw_value places next (outs.Locations l)) refl
  value_leads next name version nodes outs.Lines is = leads_nowhere entries u (meaning_of (form_of u outs.Lines) name) (raw_value places next outs.Lines) refl

  attrs_lead : (version : ℕ) (nodes : List Node) (attrs : List OutAttr) (next : ListPlaces) (place : ℕ) → All (IsAttribute (IsTarget graph) version nodes) attrs
      → AttrsLead entries u (fields_of (map (λ a. (a.name, form_of u a.value)) attrs)) (raw_attrs places next place attrs)
  attrs_lead version nodes [] next place all = tt
  attrs_lead version nodes (a ∷ attrs) next place all =
      let w = All-head (IsAttribute (IsTarget graph) version nodes) a attrs all in (
        value_leads next a.name version nodes a.value w.value,
        attrs_lead version nodes attrs (behind_value places.version next a.value) (place + length (value_bytes places next a.value)) (All-tail (IsAttribute (IsTarget graph) version nodes) a attrs all),
      )

  -- ---- trees

  abbrev pub AllLead : List (Option ℕ × TreeNode) → Type 0
  AllLead [] = Unit {0}
  AllLead (e ∷ es) = NodeLeads entries u e.1 × AllLead es

  lead_front : (xs ys : List (Option ℕ × TreeNode)) → AllLead (xs ++ ys) → AllLead xs
  lead_front [] ys h = tt
  lead_front (x ∷ xs) ys h = (h.0, lead_front xs ys h.1)

  lead_back : (xs ys : List (Option ℕ × TreeNode)) → AllLead (xs ++ ys) → AllLead ys
  lead_back [] ys h = h
  lead_back (x ∷ xs) ys h = lead_back xs ys h.1

  pub made_lead : (nodes : List Node) (ns : List Node) (next : ListPlaces) (place k : ℕ) → All (IsNode (IsTarget graph) unit.version nodes) ns → AllLead (made_from places nodes next place k ns)
  made_lead nodes [] next place k all = tt
  made_lead nodes (n ∷ ns) next place k all =
      let w = All-head (IsNode (IsTarget graph) unit.version nodes) n ns all in (
        attrs_lead unit.version nodes n.attrs next (place + length (uleb (code_of u nodes k n))) w.attrs,
        made_lead nodes ns (behind_node places.version next n) (place + length (head_bytes places nodes next k n) + lists_ended nodes k) (k + 1) (All-tail (IsNode (IsTarget graph) unit.version nodes) n ns all),
      )

  pub trees_lead : (parent : Option ℕ) (number : ℕ) (f : Forest) → AllLead (listed parent number f) → TreesLead entries u f
  trees_lead parent number no_more h = tt
  trees_lead parent number (tree node kids others) (here, more) =
      let first = trees_lead (Some number) (number + 1) kids (lead_front (listed (Some number) (number + 1) kids) (listed parent (number + 1 + size kids) others) more) in
      ((here, first), trees_lead parent (number + 1 + size kids) others (lead_back (listed (Some number) (number + 1) kids) (listed parent (number + 1 + size kids) others) more))
