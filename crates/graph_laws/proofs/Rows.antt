-- The units that are read are those of the graph, and their entries its nodes.
use Rattle.std.proofs.Common.{◌≡◌, ◌+◌, ◌-◌, ◌&&◌, ℕ, zero, suc, Bool, true, List, [], ◌∷◌, length, take, slice_get, if◌then◌else◌, Some, None, refl, ap, ap₂, ◌∙◌, arith}
use Rattle.std.specs.Option.{option_and_then}
use Rattle.std.specs.Prelude.{nat_le, nat_lt}
use Rattle.std.proofs.lemmas.Bool.{le-leb, lt-ltb}
use Rattle.std.proofs.lemmas.List.Sums.{sum_by-cons}
use Rattle.std.proofs.lemmas.Option.{same_Some, slice_get_within}
use Rattle.dwarf_types.specs.declared.entry.InUnit.{InUnit}
use Rattle.dwarf_types.specs.declared.graph.Graph.{Graph}
use Rattle.dwarf_types.specs.declared.graph.OutUnit.{OutUnit}
use Rattle.dwarf_types.specs.declared.graph.Target.{Target}
use Rattle.dwarf_types.specs.Layout.{places_of, target_place, unit_start}
use Rattle.dwarf_types.specs.Places.{own_node}
use Rattle.dwarf_types.specs.WellValues.{IsTarget}
use Rattle.macho_read.specs.declared.image.Image.{Image}
use Rattle.reloc_table.specs.declared.relocation.Relocs.{Relocs}
use Rattle.written_laws.specs.LedBack.{first_entry}
use Rattle.written_laws.specs.ReadParts.{LeadBack}
use Rattle.written_laws.specs.ReadUnits.{IsReadable, read_units, row_read, rows_read, sections_of}
use Rattle.written_laws.proofs.OwnExpressions.{lead}
use Rattle.written_laws.proofs.Rising.{led_back}
use Rattle.graph_laws.specs.Telling.{LeadsTo, Read, node_named, number_in}

row_there : (graph : Graph) (u first : ℕ) (units : List OutUnit) (i : ℕ) (unit : OutUnit) → slice_get units i ≡ Some unit → slice_get (rows_read graph u first units) i ≡ Some (row_read graph (u + i) (first + first_entry units i) unit)
row_there graph u first [] i unit at = absurd (omega (arith, slice_get_within [] i unit at))
row_there graph u first (x ∷ units) zero unit at =
    let here : u ≡ u + zero = omega arith in
    let none : first ≡ first + 0 = omega arith in
    ap (λ (y : OutUnit). Some (row_read graph u first y)) (same_Some x unit at) ∙ ap₂ (λ (v f : ℕ). Some (row_read graph v f unit)) here none
row_there graph u first (x ∷ units) (suc i) unit at =
    let next : u + 1 + i ≡ u + suc i = omega arith in
    let sum = sum_by-cons (λ (y : OutUnit). length y.nodes) x (take i units) in
    let from : first + length x.nodes + first_entry units i ≡ first + first_entry (x ∷ units) (suc i) = omega (arith, sum) in
    row_there graph (u + 1) (first + length x.nodes) units i unit at ∙ ap₂ (λ (v f : ℕ). Some (row_read graph v f unit)) next from

pub row_is : (graph : Graph) (u : ℕ) (unit : OutUnit) → slice_get graph.units u ≡ Some unit → slice_get (rows_read graph 0 0 graph.units) u ≡ Some (row_read graph u (first_entry graph.units u) unit)
row_is graph u unit at =
    let index : 0 + u ≡ u = omega arith in
    let from : 0 + first_entry graph.units u ≡ first_entry graph.units u = omega arith in
    row_there graph 0 0 graph.units u unit at ∙ ap₂ (λ (v f : ℕ). Some (row_read graph v f unit)) index from

pub rows_len : (graph : Graph) (u first : ℕ) (units : List OutUnit) → length (rows_read graph u first units) ≡ length units
rows_len graph u first [] = refl
rows_len graph u first (x ∷ units) = ap suc (rows_len graph (u + 1) (first + length x.nodes) units)

module _ (graph : Graph) (readable : IsReadable graph) (image : Image) (relocs : Relocs) where
  abbrev pub read : Read
  read = record { image = image; relocs = relocs; sections = sections_of graph; units = read_units graph }

  -- where a reference leads
  pub leads : (target : Target) → IsTarget graph target → LeadsTo read (unit_start graph target.unit + target_place graph target) target.unit target.node
  leads target is = record {
    row = row_read graph target.unit (first_entry graph.units target.unit) is.unit;
    stands = row_is graph target.unit is.unit is.stands;
    entry = led_back graph target is;
    inside = is.inside;
  }

  module _ (u : ℕ) (unit : OutUnit) (at : slice_get graph.units u ≡ Some unit) where
    abbrev pub row : InUnit
    row = row_read graph u (first_entry graph.units u) unit

    -- base types by their places
    pub named_back : LeadBack unit.nodes (own_node (places_of graph u unit)) (node_named read row (unit_start graph u))
    named_back k w =
        let l = lead graph readable u unit at k w in
        let lt = slice_get_within unit.nodes k w.node w.stands in
        let first = first_entry graph.units u in
        let low : nat_le first (first + k) ≡ true = le-leb first (first + k) (omega arith) in
        let high : nat_lt (first + k) (first + length unit.nodes) ≡ true = lt-ltb (first + k) (first + length unit.nodes) (omega (arith, lt)) in
        let less : first + k - first ≡ k = omega arith in
        let target : Target = record { unit = u; node = k } in
        record {
          some = l.some;
          fits = l.fits;
          back = ap (option_and_then (number_in row)) (led_back graph target (record { unit = unit; stands = at; inside = lt }))
              ∙ ap₂ (λ (a b : Bool). if a && b then Some (first + k - first) else None) low high ∙ ap (λ (n : ℕ). Some n) less;
        }
