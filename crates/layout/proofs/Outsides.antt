-- What a layout tells of what stands outside of a unit.
use Rattle.std.proofs.Common.{◌≡◌, ℕ, ◌+◌, ◌<◌, List, [], length, map, get_or, slice_get, slice_index, Some, None, sym, subst, ap, ◌∙◌, arith}
use Rattle.std.proofs.lemmas.List.{get_or-map}
use Rattle.std.proofs.lemmas.List.FromFn.{get_or-enumerate_from, length-enumerate_from}
use Rattle.std.proofs.lemmas.Option.{get_or_from_slice_get, slice_get_within}
use Rattle.dwarf_types.specs.declared.graph.Graph.{Graph}
use Rattle.dwarf_types.specs.declared.graph.OutUnit.{OutUnit}
use Rattle.dwarf_types.specs.Layout.{line_text_place, numbered_units, text_place}
use Rattle.unit_draft.specs.declared.outside.Outside.{Outside}
use Rattle.unit_draft.specs.declared.unit.Draft.{Draft}
use Rattle.unit_draft.specs.Drafted.{AreDrafts, IsDraft}
use Rattle.unit_draft.specs.Outside.{IsOutside}
use Rattle.layout.specs.declared.placing.PartPlaces.{PartPlaces}
use Rattle.layout.specs.Laid.{Laid, laid, line_text_places, part_places, text_places}

blank : OutUnit
blank = record { version = 0; nodes = []; lines = None; ranges = [] }

module _ (graph : Graph) (u : ℕ) (within : u < length graph.units) where
  -- what is told of a unit by its number
  told : {Y : Type 0} (f : ℕ × OutUnit → Y) (d : Y) → get_or (map f (numbered_units graph)) u d ≡ f (u, get_or graph.units u blank)
  told {Y} f d =
      let index : 0 + u ≡ u = omega arith in
      get_or-map f (numbered_units graph) u (0, blank) d (omega (arith, within, length-enumerate_from 0 graph.units))
      ∙ ap f (get_or-enumerate_from 0 graph.units u (0, blank) within) ∙ ap (λ (n : ℕ). f (n, get_or graph.units u blank)) index

-- a text by its number
text_told : (f : List ℕ → ℕ) (names : List (List ℕ)) (i : ℕ) (t : List ℕ) → slice_get names i ≡ Some t → slice_index (map f names) i ≡ f t
text_told f names i t at = get_or-map f names i t 0 (slice_get_within names i t at) ∙ ap f (get_or_from_slice_get names i t t at)

module _ (graph : Graph) (layout : Laid) (u : ℕ) (unit : OutUnit) (draft : Draft) (part d : PartPlaces) (places line_places : List ℕ) (o : Outside) where
  pub outside_is : layout ≡ laid graph layout.drafts → AreDrafts graph layout.drafts → slice_get graph.units u ≡ Some unit → slice_get layout.drafts u ≡ Some draft
      → part ≡ get_or layout.parts u d → places ≡ get_or layout.text_places u places → line_places ≡ get_or layout.line_text_places u line_places
      → o.table ≡ part.table → o.lines ≡ part.lines → o.ranges ≡ part.ranges → o.locations ≡ part.locations → o.texts.now ≡ places → o.line_texts.now ≡ line_places
      → o.starts.now ≡ layout.starts → o.drafts.now ≡ layout.drafts → o.end ≡ layout.ends.info → IsOutside graph u unit draft.names draft.line_names o
  outside_is whole are here there part_is places_is line_places_is table lines ranges locations texts line_texts starts drafts end =
      let within : u < length graph.units = slice_get_within graph.units u unit here in
      let its : get_or graph.units u blank ≡ unit = get_or_from_slice_get graph.units u unit blank here in
      let is : IsDraft u unit draft = are.each u unit draft here there in
      let parts : part ≡ part_places graph u unit =
      part_is ∙ ap (λ (l : Laid). get_or l.parts u d) whole ∙ told graph u within (λ (n : ℕ × OutUnit). part_places graph n.0 n.1) d ∙ ap (part_places graph u) its in
      let text_list : o.texts.now ≡ map (text_place graph) draft.names =
      texts ∙ places_is ∙ ap (λ (l : Laid). get_or l.text_places u places) whole ∙ told graph u within (λ (n : ℕ × OutUnit). text_places graph n.1) places ∙ ap (text_places graph) its
      ∙ ap (map (text_place graph)) (sym is.names) in
      let line_list : o.line_texts.now ≡ map (line_text_place graph) draft.line_names =
      line_texts ∙ line_places_is ∙ ap (λ (l : Laid). get_or l.line_text_places u line_places) whole ∙ told graph u within (λ (n : ℕ × OutUnit). line_text_places graph n.1) line_places
      ∙ ap (line_text_places graph) its ∙ ap (map (line_text_place graph)) (sym is.line_names) in
      record {
        table = table ∙ ap (λ (p : PartPlaces). p.table) parts;
        lines = lines ∙ ap (λ (p : PartPlaces). p.lines) parts;
        ranges = ranges ∙ ap (λ (p : PartPlaces). p.ranges) parts;
        locations = locations ∙ ap (λ (p : PartPlaces). p.locations) parts;
        texts = λ i t at. ap (λ (ps : List ℕ). slice_index ps i) text_list ∙ text_told (text_place graph) draft.names i t at;
        line_texts = λ i t at. ap (λ (ps : List ℕ). slice_index ps i) line_list ∙ text_told (line_text_place graph) draft.line_names i t at;
        starts = starts ∙ ap (λ (l : Laid). l.starts) whole;
        drafts = subst (AreDrafts graph) (sym drafts) are;
        end = end ∙ ap (λ (l : Laid). l.ends.info) whole;
      }
