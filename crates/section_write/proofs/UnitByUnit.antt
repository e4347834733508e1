-- A section that has a part for each unit, unit by unit.
use Rattle.std.proofs.Common.{◌≡◌, ◌<◌, ◌≤◌, ◌+◌, ◌^◌, ◌-◌, ℕ, List, [], ◌∷◌, ◌++◌, length, get_or, slice_get, take, None, Some, Ok, refl, sym, ap, ◌∙◌, arith, length-append}
use Rattle.std.specs.List.{enumerate_from, flat_map}
use Rattle.std.proofs.lemmas.List.{get_or_default, take_all}
use Rattle.std.proofs.lemmas.Option.{slice_get-get_or}
use Rattle.std.proofs.lemmas.List.FromFn.{get_or-enumerate_from, length-enumerate_from}
use Rattle.ds_base.specs.Room.{Adds}
use Rattle.ds_base.proofs.Adding.{adds_item, adds_same, item_fits}
use Rattle.dwarf_types.specs.declared.abbrev.Declaration.{Declaration}
use Rattle.dwarf_types.specs.declared.graph.Graph.{Graph}
use Rattle.dwarf_types.specs.declared.graph.OutUnit.{OutUnit}
use Rattle.dwarf_types.specs.Abbreviations.{declaration_bytes, table_bytes, table_of}
use Rattle.dwarf_types.specs.Encode.{abbrev_section, over_units}
use Rattle.dwarf_types.specs.Layout.{numbered_units}
use Rattle.layout.specs.Laid.{Laid, Measures}
use Rattle.layout.proofs.Limits.{tables_short}

module _ (graph : Graph) (part : ℕ → OutUnit → List ℕ) (u : ℕ) (unit : OutUnit) (lt : u < length graph.units) (is : unit ≡ get_or graph.units u unit) where
  pub within : u < length (numbered_units graph)
  within = omega (arith, lt, length-enumerate_from 0 graph.units)

  here : get_or (numbered_units graph) u (u, unit) ≡ (u, unit)
  here =
      let number : 0 + u ≡ u = omega arith in
      get_or-enumerate_from 0 graph.units u (u, unit) lt ∙ ap (λ (it : OutUnit). (0 + u, it)) (sym is) ∙ ap (λ (n : ℕ). (n, unit)) number

  pub part_here : part (get_or (numbered_units graph) u (u, unit)).0 (get_or (numbered_units graph) u (u, unit)).1 ≡ part u unit
  part_here = ap (λ (n : ℕ × OutUnit). part n.0 n.1) here

  pub unit_fits : length (flat_map (λ n. part n.0 n.1) (take u (numbered_units graph))) + length (part u unit) ≤ length (over_units graph part)
  unit_fits = omega (arith, item_fits (λ (n : ℕ × OutUnit). part n.0 n.1) (numbered_units graph) u (u, unit) within, ap length part_here)

  pub unit_adds : (old mid new : List ℕ) (at n next : ℕ) → Adds old at (flat_map (λ n. part n.0 n.1) (take u (numbered_units graph))) mid n → Adds mid n (part u unit) new next
      → Adds old at (flat_map (λ n. part n.0 n.1) (take (u + 1) (numbered_units graph))) new next
  unit_adds old mid new at n next before one =
      adds_item (λ (m : ℕ × OutUnit). part m.0 m.1) (numbered_units graph) u (u, unit) within old mid new at n next before
      (adds_same mid (part u unit) _ new n next (sym part_here) one)

-- ---- a unit by its number alone

blank : OutUnit
blank = record { version = 0; nodes = []; lines = None; ranges = [] }

pub unit_of : Graph → ℕ → OutUnit
unit_of graph u = get_or graph.units u blank

pub unit_of_is : (graph : Graph) (u : ℕ) → u < length graph.units → unit_of graph u ≡ get_or graph.units u (unit_of graph u)
unfolding unit_of
unit_of_is graph u lt = get_or_default graph.units u blank (get_or graph.units u blank) lt

pub unit_is : (graph : Graph) (u : ℕ) → u < length graph.units → slice_get graph.units u ≡ Some (unit_of graph u)
unit_is graph u lt = slice_get-get_or graph.units u (unit_of graph u) lt ∙ ap (λ (it : OutUnit). Some it) (sym (unit_of_is graph u lt))

-- the numbers of the units say nothing where the parts don't use them
pub without_numbers : (f : OutUnit → List ℕ) (k : ℕ) (units : List OutUnit) → flat_map (λ n. f n.1) (enumerate_from k units) ≡ flat_map f units
without_numbers f k [] = refl
without_numbers f k (unit ∷ units) = ap (λ (rest : List ℕ). f unit ++ rest) (without_numbers f (k + 1) units)

-- ---- how many units there are

-- a table has an end at least
tables_some : (k : ℕ) (units : List OutUnit) → length units ≤ length (flat_map (λ n. table_bytes n.0 n.1) (enumerate_from k units))
tables_some k [] = omega arith
tables_some k (unit ∷ units) =
    omega (
      arith,
      tables_some (k + 1) units,
      length-append (table_bytes k unit) (flat_map (λ (n : ℕ × OutUnit). table_bytes n.0 n.1) (enumerate_from (k + 1) units)),
      length-append (flat_map (λ (d : ℕ × Declaration). declaration_bytes d.0 d.1) (enumerate_from 1 (table_of k unit.nodes))) (0 ∷ []),
    )

pub units_few : (graph : Graph) (layout : Laid) → Measures graph (Ok layout) → length graph.units < 2 ^ 32
units_few graph layout measured =
    let short : length (abbrev_section graph) < 2 ^ 32 - 1 = tables_short graph measured.2 in
    omega (arith, tables_some 0 graph.units, short)

-- ---- a loop over the units

module _ (graph : Graph) (part : ℕ → OutUnit → List ℕ) (u : ℕ) (old mid : List ℕ) (at n : ℕ) (before : Adds old at (flat_map (λ m. part m.0 m.1) (take u (numbered_units graph))) mid n) where
  -- the next part fits where the section does
  pub next_fits : (unit : OutUnit) → u < length graph.units → unit ≡ get_or graph.units u unit → at + length (over_units graph part) ≤ length old → n + length (part u unit) ≤ length mid
  next_fits unit lt is fits = omega (arith, unit_fits graph part u unit lt is, before.size, before.behind, fits)

  pub all_adds : length graph.units ≤ u → Adds old at (over_units graph part) mid n
  all_adds le =
      adds_same old (flat_map (λ (m : ℕ × OutUnit). part m.0 m.1) (take u (numbered_units graph))) (over_units graph part) mid at n
      (ap (flat_map (λ (m : ℕ × OutUnit). part m.0 m.1)) (take_all u (numbered_units graph) (omega (arith, le, length-enumerate_from 0 graph.units)))) before
