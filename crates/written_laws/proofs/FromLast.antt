-- The entries of a unit from the last to the first.
use Rattle.std.proofs.Common.{◌≡◌, ℕ, suc, ◌+◌, Bool, true, false, List, [], ◌∷◌, ◌++◌, length, map, replicate, slice_get, Option, Some, None, refl, sym, ap, subst, ◌∙◌, append_assoc, arith}
use Rattle.std.specs.Option.{option_and_then}
use Rattle.std.specs.List.{enumerate_from}
use Rattle.ds_base.specs.Leb.{uleb}
use Rattle.dwarf_types.specs.declared.abbrev.Abbrev.{Abbrev}
use Rattle.dwarf_types.specs.declared.graph.Node.{Node}
use Rattle.dwarf_types.specs.Abbreviations.{has_children}
use Rattle.dwarf_types.specs.Entries.{ancestors_of, behind_node, entries_bytes, entry_of, lists_ended, parent_of}
use Rattle.dwarf_types.specs.Places.{ListPlaces, Places}
use Rattle.dwarf_types.specs.SectionBytes.{SectionBytes}
use Rattle.dwarf_types.specs.Values.{values_bytes}
use Rattle.unit_tree.specs.Spelling.{Node as TreeNode, Origin, SpellsNode}
use Rattle.written_laws.specs.ReadValues.{AreThere, IsOrigin}
use Rattle.written_laws.proofs.Attributes.{attrs_spelled}
use Rattle.written_laws.proofs.Forms.{is_uleb}
use Rattle.written_laws.specs.ReadEntries.{AllThere, AreCoded, IsCoded, IsPreorder, code_of, head_bytes, made, made_from}
use Rattle.written_laws.proofs.Ancestors.{ancestors_of_child, no_ancestors}
use Rattle.written_laws.proofs.Children.{Opens, open_behind, opened_by, opens, parent_before}
use Rattle.written_laws.proofs.Ended.{parent_is}
use Rattle.dwarf_types.specs.declared.graph.OutAttr.{OutAttr}
use Rattle.dwarf_types.specs.declared.abbrev.Field.{Field}
use Rattle.dwarf_types.specs.Forms.{form_of}
use Rattle.unit_tree.specs.Spelling.{SpellsAttrs}
use Rattle.written_laws.specs.ReadValues.{field_of, raw_attrs}
use Rattle.written_laws.specs.ReadValues.{fields_of as attr_fields}
use Rattle.written_laws.specs.ReadDeclarations.{fields_of}
use Rattle.written_laws.proofs.OpenLists.{Open, closes, open_entries, with_list, with_none}

-- a declaration's fields are those of the attributes
fields_same : (u : ℕ) (attrs : List OutAttr) → attr_fields u attrs ≡ fields_of (map (λ a. (a.name, form_of u a.value)) attrs)
fields_same u [] = refl
fields_same u (a ∷ attrs) = ap (λ (fs : List Field). field_of u a ∷ fs) (fields_same u attrs)

module _ (places : Places) (sections : SectionBytes) (o : Origin) (table : List Abbrev) (nodes : List Node) (order : IsPreorder nodes) (origin : IsOrigin places o) (coded : AreCoded table places.unit nodes) where
  abbrev head : ListPlaces → ℕ → Node → List ℕ
  head next k node = head_bytes places nodes next k node

  pub node_spelled : (root : Bool) (next : ListPlaces) (place k : ℕ) (node : Node) → slice_get nodes k ≡ Some node → AreThere places sections next node.attrs → SpellsNode sections o table root (made places nodes next place k node) place (head next k node)
  node_spelled root next place k node at there =
      let c : IsCoded table places.unit nodes k node = coded k node at in
      let code : ℕ = code_of places.unit nodes k node in
      let behind : ℕ = place + length (uleb (code_of places.unit nodes k node)) in
      record {
        there = refl;
        spells = record {
          front = uleb (code_of places.unit nodes k node);
          back = values_bytes places next node.attrs;
          is = refl;
          first = record { code = code; some = c.some; spells = is_uleb (code_of places.unit nodes k node) c.fits; found = c.found };
          second = subst (λ (fields : List Field). SpellsAttrs sections o root fields [] (raw_attrs places next (place + length (uleb (code_of places.unit nodes k node))) node.attrs) (place + length (uleb (code_of places.unit nodes k node))) (values_bytes places next node.attrs)) (fields_same places.unit node.attrs)
              (attrs_spelled places sections o origin root [] next (place + length (uleb (code_of places.unit nodes k node))) node.attrs there);
        };
      }

  -- ---- bytes

  abbrev entries_from : ListPlaces → ℕ → List Node → List ℕ
  entries_from next k rest = entries_bytes places next (map (λ n. entry_of places.unit nodes n.0 n.1) (enumerate_from k rest))

  abbrev after : ListPlaces → Node → ListPlaces
  after next node = behind_node places.version next node

  abbrev behind : ListPlaces → ℕ → List Node → List ℕ
  behind next k more = replicate (lists_ended nodes k) 0 ++ entries_from next (k + 1) more

  pub split : (next : ListPlaces) (k : ℕ) (node : Node) (more : List Node) → entries_from next k (node ∷ more) ≡ head next k node ++ behind (after next node) k more
  split next k node more =
      let u : List ℕ = uleb (code_of places.unit nodes k node) in
      let v : List ℕ = values_bytes places next node.attrs in
      let z : List ℕ = replicate (lists_ended nodes k) 0 in
      let x : List ℕ = entries_from (after next node) (k + 1) more in
      append_assoc (uleb (code_of places.unit nodes k node)) (values_bytes places next node.attrs ++ replicate (lists_ended nodes k) 0) (entries_from (after next node) (k + 1) more)
      ∙ ap (λ (b : List ℕ). uleb (code_of places.unit nodes k node) ++ b) (append_assoc (values_bytes places next node.attrs) (replicate (lists_ended nodes k) 0) (entries_from (after next node) (k + 1) more))
      ∙ sym (append_assoc (uleb (code_of places.unit nodes k node)) (values_bytes places next node.attrs) (replicate (lists_ended nodes k) 0 ++ entries_from (after next node) (k + 1) more))

  -- ---- from the last node to the first

  abbrev Lists : List ℕ → ℕ → List (Option ℕ × TreeNode) → ℕ → List ℕ → Type 0
  Lists stack number entries place bytes = Open sections o table stack number entries place bytes

  -- what is open behind the code and the values of node k, where the next lists stand there
  abbrev pub Rest : ℕ → ListPlaces → List Node → ℕ → Type 0
  Rest k next more place = Lists (open_behind nodes order k) (k + 1) (made_from places nodes next (place + lists_ended nodes k) (k + 1) more) place (behind next k more)

  abbrev Next : ℕ → ListPlaces → List Node → ℕ → Type 0
  Next m next rest place = Lists (ancestors_of nodes m) m (made_from places nodes next place m rest) place (entries_from next m rest)

  end_of_lists : (k : ℕ) (next : ListPlaces) (more : List Node) (place : ℕ) → Next (k + 1) next more (place + lists_ended nodes k) → Rest k next more place
  end_of_lists k next more place w =
      let e : Opens nodes order k = opens nodes order k in
      let entries : List (Option ℕ × TreeNode) = made_from places nodes next (place + lists_ended nodes k) (k + 1) more in
      let at : place + lists_ended nodes k ≡ place + length e.ended = ap (λ (n : ℕ). place + n) e.count in
      let closed = closes sections o table e.ended (ancestors_of nodes (k + 1)) (k + 1) (made_from places nodes next (place + lists_ended nodes k) (k + 1) more) place (entries_from next (k + 1) more)
      (subst (λ (q : ℕ). Lists (ancestors_of nodes (k + 1)) (k + 1) (made_from places nodes next (place + lists_ended nodes k) (k + 1) more) q (entries_from next (k + 1) more)) at w) in
      subst (λ (n : ℕ). Lists (open_behind nodes order k) (k + 1) (made_from places nodes next (place + lists_ended nodes k) (k + 1) more) place (replicate n 0 ++ entries_from next (k + 1) more)) (sym e.count)
      (subst (λ (stack : List ℕ). Lists stack (k + 1) (made_from places nodes next (place + lists_ended nodes k) (k + 1) more) place (replicate (length e.ended) 0 ++ entries_from next (k + 1) more)) (sym e.is) closed)

  nothing_next : (m : ℕ) (next : ListPlaces) (place : ℕ) → slice_get nodes m ≡ None → Next m next [] place
  nothing_next m next place none =
      let above : ancestors_of nodes m ≡ [] = no_ancestors nodes m (ap (option_and_then (λ (n : Node). n.parent)) none) in
      let no_entries : List (Option ℕ × TreeNode) = [] in
      let nothing : Lists [] m no_entries place [] = record { forests = []; there = refl; are = refl } in
      subst (λ (stack : List ℕ). Lists stack m no_entries place []) (sym above) nothing

  -- a node and what is open behind it, as what is open before it
  listed_one : (m p : ℕ) (next : ListPlaces) (node : Node) (more : List Node) (place : ℕ) → node.parent ≡ Some p → ancestors_of nodes m ≡ p ∷ ancestors_of nodes p → (stack : List ℕ)
      (w : Lists stack (m + 1) (made_from places nodes (after next node) (place + length (head next m node) + lists_ended nodes m) (m + 1) more) (place + length (head next m node)) (behind (after next node) m more))
      → Lists (p ∷ ancestors_of nodes p) m ((Some p, made places nodes next place m node) ∷ open_entries sections o table (m + 1) stack w.forests) place (head next m node ++ behind (after next node) m more) → Next m next (node ∷ more) place
  listed_one m p next node more place is above stack w r =
      let with_all : Lists (p ∷ ancestors_of nodes p) m ((Some p, made places nodes next place m node) ∷ made_from places nodes (after next node) (place + length (head next m node) + lists_ended nodes m) (m + 1) more) place (head next m node ++ behind (after next node) m more) =
      subst (λ (es : List (Option ℕ × TreeNode)). Lists (p ∷ ancestors_of nodes p) m ((Some p, made places nodes next place m node) ∷ es) place (head next m node ++ behind (after next node) m more)) (sym w.are) r in
      subst (λ (bytes : List ℕ). Lists (ancestors_of nodes m) m (made_from places nodes next place m (node ∷ more)) place bytes) (sym (split next m node more))
      (subst (λ (parent : Option ℕ). Lists (ancestors_of nodes m) m ((parent, made places nodes next place m node) ∷ made_from places nodes (after next node) (place + length (head next m node) + lists_ended nodes m) (m + 1) more) place (head next m node ++ behind (after next node) m more)) (sym is)
      (subst (λ (xs : List ℕ). Lists xs m ((Some p, made places nodes next place m node) ∷ made_from places nodes (after next node) (place + length (head next m node) + lists_ended nodes m) (m + 1) more) place (head next m node ++ behind (after next node) m more)) (sym above) with_all))

  node_by : (m p : ℕ) (next : ListPlaces) (node : Node) (more : List Node) (place : ℕ) (b : Bool) → has_children nodes m ≡ b → slice_get nodes m ≡ Some node → AreThere places sections next node.attrs → node.parent ≡ Some p → ancestors_of nodes m ≡ p ∷ ancestors_of nodes p
      → Rest m (after next node) more (place + length (head next m node)) → Next m next (node ∷ more) place
  node_by m p next node more place true e at there is above r =
      let stack : List ℕ = m ∷ p ∷ ancestors_of nodes p in
      let w = subst (λ (xs : List ℕ). Lists xs (m + 1) (made_from places nodes (after next node) (place + length (head next m node) + lists_ended nodes m) (m + 1) more) (place + length (head next m node)) (behind (after next node) m more)) (opened_by nodes order m true e ∙ ap (λ (xs : List ℕ). m ∷ xs) above) r in
      listed_one m p next node more place is above stack w (with_list sections o table p (ancestors_of nodes p) place (made places nodes next place m node) (head next m node) (behind (after next node) m more) m e (node_spelled false next place m node at there) w.forests w.there)
  node_by m p next node more place false e at there is above r =
      let stack : List ℕ = p ∷ ancestors_of nodes p in
      let w = subst (λ (xs : List ℕ). Lists xs (m + 1) (made_from places nodes (after next node) (place + length (head next m node) + lists_ended nodes m) (m + 1) more) (place + length (head next m node)) (behind (after next node) m more)) (opened_by nodes order m false e ∙ above) r in
      listed_one m p next node more place is above stack w (with_none sections o table p (ancestors_of nodes p) place (made places nodes next place m node) (head next m node) (behind (after next node) m more) m e (node_spelled false next place m node at there) w.forests w.there)

  node_next : (m p : ℕ) (next : ListPlaces) (node : Node) (more : List Node) (place : ℕ) → slice_get nodes m ≡ Some node → AreThere places sections next node.attrs → node.parent ≡ Some p → Rest m (after next node) more (place + length (head next m node)) → Next m next (node ∷ more) place
  node_next m p next node more place at there is r =
      let parent : parent_of nodes m ≡ Some p = parent_is nodes order m p node at is in
      node_by m p next node more place (has_children nodes m) refl at there is (ancestors_of_child nodes m p parent (parent_before nodes order m p parent)) r

  -- from node k on
  pub rest_is : (k : ℕ) (next : ListPlaces) (more : List Node) (place : ℕ) → ((i : ℕ) → slice_get more i ≡ slice_get nodes (k + 1 + i)) → AllThere places sections next more → Rest k next more place
  rest_is k next [] place same there =
      let here : k + 1 + 0 ≡ k + 1 = omega arith in
      end_of_lists k next [] place (nothing_next (k + 1) next (place + lists_ended nodes k) (ap (slice_get nodes) (sym here) ∙ sym (same 0)))
  rest_is k next (node ∷ more) place same there =
      let here : k + 1 + 0 ≡ k + 1 = omega arith in
      let at : slice_get nodes (k + 1) ≡ Some node = ap (slice_get nodes) (sym here) ∙ sym (same 0) in
      let h = order.preorder k node at in
      let r = rest_is (k + 1) (after next node) more (place + lists_ended nodes k + length (head next (k + 1) node)) (λ i. let step : k + 1 + suc i ≡ k + 1 + 1 + i = omega arith in same (suc i) ∙ ap (slice_get nodes) step) there.1 in
      end_of_lists k next (node ∷ more) place (node_next (k + 1) h.number next node more (place + lists_ended nodes k) at there.0 h.is r)
