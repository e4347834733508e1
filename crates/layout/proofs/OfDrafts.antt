-- What drafts give is what their graph has.
use Rattle.std.proofs.Common.{◌≡◌, ◌==◌, ℕ, suc, ◌+◌, ◌^◌, ◌<◌, Bool, true, false, if◌then◌else◌, List, [], ◌∷◌, ◌++◌, length, map, fold, get_or, slice_get, Some, None, nat_le, refl, sym, subst, ap, ◌∙◌, append_assoc, append-nil, arith, length-append}
use Rattle.std.specs.List.{enumerate_from, find, flat_map}
use Rattle.std.specs.Option.{option_map}
use Rattle.std.specs.Str.{bytes_eq}
use Rattle.std.proofs.lemmas.Bool.{lt-leb}
use Rattle.std.proofs.Math.Seq.{get_or-append_seam}
use Rattle.ds_base.specs.FirstUse.{once}
use Rattle.ds_base.specs.Texts.{with_text}
use Rattle.dwarf_types.specs.declared.address.Span.{Span}
use Rattle.dwarf_types.specs.declared.graph.Graph.{Graph}
use Rattle.dwarf_types.specs.declared.graph.OutUnit.{OutUnit}
use Rattle.dwarf_types.specs.Aranges.{aranges_bytes}
use Rattle.dwarf_types.specs.Abbreviations.{same_flag}
use Rattle.dwarf_types.specs.Entries.{node_place, unit_len}
use Rattle.dwarf_types.specs.Layout.{line_texts_of, line_texts_of_unit, lines_place, lists_start, locations_before, numbered_units, ranges_before, table_place, texts_of, texts_of_node, unit_start}
use Rattle.unit_draft.specs.declared.unit.Draft.{Draft}
use Rattle.unit_draft.specs.Drafted.{AreDrafts, IsDraft}
use Rattle.text_pool.proofs.Uses.{once_of_onces}
use Rattle.layout.specs.declared.placing.PartPlaces.{PartPlaces}
use Rattle.layout.specs.declared.placing.Placing.{Placing}
use Rattle.layout.specs.declared.starts.Starts.{Starts}
use Rattle.layout.specs.Laid.{part_places}
use Rattle.layout.specs.Lengths.{long_unit, starts_of}
use Rattle.layout.specs.Pass.{behind_draft, behind_unit, in_five, in_others, no_starts, none_placed, nothing, parts_of, with_draft}
use Rattle.layout.proofs.GraphParts.{by_all, starts_more}
use Rattle.layout.proofs.SectionLengths.{unit_locations_size, unit_ranges_size}

-- ---- one draft

-- lists of version 5 stand in their own sections, all others in the others
others_same : (five : Bool) (n : ℕ) → (if five then 0 else n) ≡ (if same_flag five false then n else 0)
others_same true n = refl
others_same false n = refl

five_same : (five : Bool) (n : ℕ) → (if five then n else 0) ≡ (if same_flag five true then n else 0)
five_same true n = refl
five_same false n = refl

module _ (version : ℕ) (unit : OutUnit) (len n : ℕ) (versions : version ≡ unit.version) (lens : len ≡ n) where
  others_are : in_others version 0 len ≡ (if same_flag (unit.version == 5) false then n else 0)
  others_are = ap (λ (v : ℕ). in_others v 0 len) versions ∙ ap (in_others unit.version 0) lens ∙ others_same (unit.version == 5) n

  five_are : in_five version 0 len ≡ (if same_flag (unit.version == 5) true then n else 0)
  five_are = ap (λ (v : ℕ). in_five v 0 len) versions ∙ ap (in_five unit.version 0) lens ∙ five_same (unit.version == 5) n

behind_is : (at : Starts) (u : ℕ) (unit : OutUnit) (d : Draft) → IsDraft u unit d → behind_draft at d ≡ behind_unit at u unit
behind_is at u unit d is =
    let ranges = ap length is.ranges ∙ unit_ranges_size unit in
    let locations = ap length is.locations ∙ unit_locations_size (node_place u unit) unit in
    by_all _ _ _ _ _ _ _ _ _ _ _ _ _ _ (ap (λ (n : ℕ). at.info + n) is.len) (ap (λ (bytes : List ℕ). at.tables + length bytes) is.table) (ap (λ (n : ℕ). at.line + n) (is.lines_size nothing))
    (ap (λ (n : ℕ). at.ranges + n) (others_are d.version unit (length d.ranges) _ is.version ranges))
    (ap (λ (n : ℕ). at.rnglists + n) (five_are d.version unit (length d.ranges) _ is.version ranges))
    (ap (λ (n : ℕ). at.loc + n) (others_are d.version unit (length d.locations) _ is.version locations))
    (ap (λ (n : ℕ). at.loclists + n) (five_are d.version unit (length d.locations) _ is.version locations))

-- where the parts of a unit stand, by its version
module _ (graph : Graph) (u : ℕ) where
  abbrev parts_by : ℕ → ℕ → PartPlaces
  parts_by ranges locations = record { table = table_place graph u; lines = lines_place graph u; ranges = ranges; locations = locations }

  from_zero : (n : ℕ) → n ≡ 0 + n
  from_zero n = omega arith

  parts_by_version : (five : Bool) → parts_by (if five then 12 + ranges_before true graph u else ranges_before false graph u) (if five then 12 + locations_before true graph u else locations_before false graph u)
      ≡ parts_by (lists_start five + ranges_before five graph u) (lists_start five + locations_before five graph u)
  parts_by_version true = refl
  parts_by_version false = ap (λ (n : ℕ). parts_by n (locations_before false graph u)) (from_zero (ranges_before false graph u)) ∙ ap (parts_by (0 + ranges_before false graph u)) (from_zero (locations_before false graph u))

  parts_same : (unit : OutUnit) → parts_of unit.version (starts_of graph u) ≡ part_places graph u unit
  parts_same unit = parts_by_version (unit.version == 5)

-- ---- drafts of the units from a number on

abbrev pub From : ℕ → List OutUnit → List Draft → Type 0
From n [] [] = Unit {0}
From n [] (d ∷ ds) = ⊥
From n (u ∷ us) [] = ⊥
From n (u ∷ us) (d ∷ ds) = IsDraft n u d × From (n + 1) us ds

from_each : (us : List OutUnit) (ds : List Draft) (n : ℕ) → length ds ≡ length us
    → ((k : ℕ) (u : OutUnit) (d : Draft) → slice_get us k ≡ Some u → slice_get ds k ≡ Some d → IsDraft (n + k) u d) → From n us ds
from_each [] [] n same each = tt
from_each [] (d ∷ ds) n same each = absurd (omega (arith, same))
from_each (u ∷ us) [] n same each = absurd (omega (arith, same))
from_each (u ∷ us) (d ∷ ds) n same each =
    let here : n + 0 ≡ n = omega arith in
    let next : (k : ℕ) → n + suc k ≡ n + 1 + k = λ k. omega arith in (
      subst (λ (m : ℕ). IsDraft m u d) here (each 0 u d refl refl),
      from_each us ds (n + 1) (omega (arith, same)) (λ k v f a b. subst (λ (m : ℕ). IsDraft m v f) (next k) (each (suc k) v f a b)),
    )

pub from_graph : (graph : Graph) (drafts : List Draft) → AreDrafts graph drafts → From 0 graph.units drafts
from_graph graph drafts are =
    let zero_add : (k : ℕ) → k ≡ 0 + k = λ k. omega arith in
    from_each graph.units drafts 0 are.count (λ k u d a b. subst (λ (m : ℕ). IsDraft m u d) (zero_add k) (are.each k u d a b))

-- ---- texts

module _ (names : Draft → List (List ℕ)) (uses : OutUnit → List (List ℕ)) (same : (u : ℕ) (unit : OutUnit) (d : Draft) → IsDraft u unit d → names d ≡ once bytes_eq (uses unit)) where
  names_from : (n : ℕ) (us : List OutUnit) (ds : List Draft) → From n us ds → flat_map names ds ≡ flat_map (λ unit. once bytes_eq (uses unit)) us
  names_from n [] [] f = refl
  names_from n [] (d ∷ ds) f = absurd f
  names_from n (u ∷ us) [] f = absurd f
  names_from n (u ∷ us) (d ∷ ds) f =
      ap (λ (some : List (List ℕ)). some ++ flat_map names ds) (same n u d f.0) ∙ ap (λ (rest : List (List ℕ)). once bytes_eq (uses u) ++ rest) (names_from (n + 1) us ds f.1)

  names_are : (graph : Graph) (drafts : List Draft) → AreDrafts graph drafts → fold with_text [] (flat_map names drafts) ≡ once bytes_eq (flat_map uses graph.units)
  names_are graph drafts are = ap (fold with_text []) (names_from 0 graph.units drafts (from_graph graph drafts are)) ∙ once_of_onces uses graph.units

pub texts_are : (graph : Graph) (drafts : List Draft) → AreDrafts graph drafts → fold with_text [] (flat_map (λ d. d.names) drafts) ≡ texts_of graph
texts_are = names_are (λ d. d.names) (λ (unit : OutUnit). flat_map texts_of_node unit.nodes) (λ u unit d is. is.names)

pub line_texts_are : (graph : Graph) (drafts : List Draft) → AreDrafts graph drafts → fold with_text [] (flat_map (λ d. d.line_names) drafts) ≡ line_texts_of graph
line_texts_are = names_are (λ d. d.line_names) line_texts_of_unit (λ u unit d is. is.line_names)

-- where the texts of drafts stand is where those of their units do
module _ (names : Draft → List (List ℕ)) (uses : OutUnit → List (List ℕ)) (same : (u : ℕ) (unit : OutUnit) (d : Draft) → IsDraft u unit d → names d ≡ once bytes_eq (uses unit)) (place : List ℕ → ℕ) where
  places_from_drafts : (n : ℕ) (us : List OutUnit) (ds : List Draft) → From n us ds → map (λ d. map place (names d)) ds ≡ map (λ m. map place (once bytes_eq (uses m.1))) (enumerate_from n us)
  places_from_drafts n [] [] f = refl
  places_from_drafts n [] (d ∷ ds) f = absurd f
  places_from_drafts n (u ∷ us) [] f = absurd f
  places_from_drafts n (u ∷ us) (d ∷ ds) f =
      ap (λ (ts : List (List ℕ)). map place ts ∷ map (λ d. map place (names d)) ds) (same n u d f.0)
      ∙ ap (λ (rest : List (List ℕ)). map place (once bytes_eq (uses u)) ∷ rest) (places_from_drafts (n + 1) us ds f.1)

pub text_places_are : (graph : Graph) (drafts : List Draft) → AreDrafts graph drafts → (place : List ℕ → ℕ) → map (λ d. map place d.names) drafts ≡ map (λ m. map place (once bytes_eq (flat_map texts_of_node m.1.nodes))) (numbered_units graph)
text_places_are graph drafts are place =
    places_from_drafts (λ d. d.names) (λ (unit : OutUnit). flat_map texts_of_node unit.nodes) (λ u unit d is. is.names) place 0 graph.units drafts (from_graph graph drafts are)

pub line_text_places_are : (graph : Graph) (drafts : List Draft) → AreDrafts graph drafts → (place : List ℕ → ℕ) → map (λ d. map place d.line_names) drafts ≡ map (λ m. map place (once bytes_eq (line_texts_of_unit m.1))) (numbered_units graph)
line_text_places_are graph drafts are place = places_from_drafts (λ d. d.line_names) line_texts_of_unit (λ u unit d is. is.line_names) place 0 graph.units drafts (from_graph graph drafts are)

-- ---- no unit is too long

short_from : (n : ℕ) (us : List OutUnit) (ds : List Draft) → From n us ds → find (λ m. nat_le (2 ^ 28) (unit_len m.0 m.1)) (enumerate_from n us) ≡ None
short_from n [] [] f = refl
short_from n [] (d ∷ ds) f = absurd f
short_from n (u ∷ us) [] f = absurd f
short_from n (u ∷ us) (d ∷ ds) f = rw (lt-leb (2 ^ 28) (unit_len n u) f.0.short) (short_from (n + 1) us ds f.1)

pub none_long : (graph : Graph) (drafts : List Draft) → AreDrafts graph drafts → long_unit graph ≡ None
none_long graph drafts are = ap (option_map (λ (n : ℕ × OutUnit). n.0)) (short_from 0 graph.units drafts (from_graph graph drafts are))

-- ---- places

module _ (graph : Graph) where
  -- the unit behind the first ones
  next_starts : (n : ℕ) (front us : List OutUnit) (u : OutUnit) (d : Draft) (at : Starts) → graph.units ≡ front ++ u ∷ us → length front ≡ n → IsDraft n u d → at ≡ starts_of graph n → behind_draft at d ≡ starts_of graph (n + 1)
  next_starts n front us u d at parts len is same =
      let lt : n < length graph.units = omega (arith, len, ap length parts, length-append front (u ∷ us)) in
      let there : u ≡ get_or graph.units n u = sym (ap (λ (xs : List OutUnit). get_or xs n u) parts ∙ ap (λ (m : ℕ). get_or (front ++ u ∷ us) m u) (sym len) ∙ get_or-append_seam front u us u) in
      behind_is at n u d is ∙ ap (λ (s : Starts). behind_unit s n u) same ∙ sym (starts_more graph n u lt there)

  next_front : (front us : List OutUnit) (u : OutUnit) → graph.units ≡ front ++ u ∷ us → graph.units ≡ (front ++ u ∷ []) ++ us
  next_front front us u parts = parts ∙ sym (append_assoc front (u ∷ []) us)

  -- where the parts of all drafts end
  ends_from : (n : ℕ) (front us : List OutUnit) (ds : List Draft) (at : Starts) → graph.units ≡ front ++ us → length front ≡ n → From n us ds → at ≡ starts_of graph n → fold behind_draft at ds ≡ starts_of graph (length graph.units)
  ends_from n front [] [] at parts len f same =
      let end : n ≡ length graph.units = omega (arith, len, ap length parts, length-append front []) in
      same ∙ ap (starts_of graph) end
  ends_from n front [] (d ∷ ds) at parts len f same = absurd f
  ends_from n front (u ∷ us) [] at parts len f same = absurd f
  ends_from n front (u ∷ us) (d ∷ ds) at parts len f same =
      ends_from (n + 1) (front ++ u ∷ []) us ds (behind_draft at d) (next_front front us u parts) (omega (arith, len, length-append front (u ∷ []))) f.1 (next_starts n front us u d at parts len f.0 same)

  pub ends_are : (drafts : List Draft) → AreDrafts graph drafts → fold behind_draft no_starts drafts ≡ starts_of graph (length graph.units)
  ends_are drafts are = ends_from 0 [] graph.units drafts no_starts refl refl (from_graph graph drafts are) refl

  -- what is known of drafts that follow the first ones
  record Follow (p : Placing) (n : ℕ) (us : List OutUnit) (new : Placing) : Type 0 where
    starts : new.starts ≡ p.starts ++ map (λ m. unit_start graph m.0) (enumerate_from n us)
    parts : new.parts ≡ p.parts ++ map (λ m. part_places graph m.0 m.1) (enumerate_from n us)
    aranges : new.aranges ≡ p.aranges ++ flat_map (λ m. aranges_bytes (unit_start graph m.0) m.1.ranges) (enumerate_from n us)
    at : new.at ≡ starts_of graph (n + length us)

  -- one item behind the others
  one_more : {X : Type 0} (xs ys more all : List X) (x y : X) → ys ≡ (xs ++ x ∷ []) ++ more → x ≡ y → all ≡ y ∷ more → ys ≡ xs ++ all
  one_more {X} xs ys more all x y is same whole = is ∙ append_assoc xs (x ∷ []) more ∙ ap (λ (z : X). xs ++ z ∷ more) same ∙ ap (λ (zs : List X). xs ++ zs) (sym whole)

  follow_from : (n : ℕ) (front us : List OutUnit) (ds : List Draft) (p : Placing) → graph.units ≡ front ++ us → length front ≡ n → From n us ds → p.at ≡ starts_of graph n
      → Follow p n us (fold with_draft p ds)
  follow_from n front [] [] p parts len f same =
      let end : n ≡ n + 0 = omega arith in
      record {
        starts = sym (append-nil p.starts);
        parts = sym (append-nil p.parts);
        aranges = sym (append-nil p.aranges);
        at = same ∙ ap (starts_of graph) end;
      }
  follow_from n front [] (d ∷ ds) p parts len f same = absurd f
  follow_from n front (u ∷ us) [] p parts len f same = absurd f
  follow_from n front (u ∷ us) (d ∷ ds) p parts len f same =
      let next = with_draft p d in
      let h = follow_from (n + 1) (front ++ u ∷ []) us ds next (next_front front us u parts) (omega (arith, len, length-append front (u ∷ []))) f.1 (next_starts n front us u d p.at parts len f.0 same) in
      let info : p.at.info ≡ unit_start graph n = ap (λ (s : Starts). s.info) same in
      let part = ap (λ (v : ℕ). parts_of v p.at) f.0.version ∙ ap (parts_of u.version) same ∙ parts_same graph n u in
      let end : n + 1 + length us ≡ n + suc (length us) = omega arith in
      record {
        starts = one_more _ _ _ _ _ _ h.starts info refl;
        parts = one_more _ _ _ _ _ _ h.parts part refl;
        aranges = h.aranges ∙ append_assoc p.aranges (aranges_bytes p.at.info d.code) _
            ∙ ap (λ (s : ℕ). p.aranges ++ (aranges_bytes s d.code ++ flat_map (λ m. aranges_bytes (unit_start graph m.0) m.1.ranges) (enumerate_from (n + 1) us))) info
            ∙ ap (λ (spans : List Span). p.aranges ++ (aranges_bytes (unit_start graph n) spans ++ flat_map (λ m. aranges_bytes (unit_start graph m.0) m.1.ranges) (enumerate_from (n + 1) us))) f.0.code;
        at = h.at ∙ ap (starts_of graph) end;
      }

  -- all drafts
  pub record AllPlaced (new : Placing) : Type 0 where
    pub starts : new.starts ≡ map (λ m. unit_start graph m.0) (numbered_units graph)
    pub parts : new.parts ≡ map (λ m. part_places graph m.0 m.1) (numbered_units graph)
    pub aranges : new.aranges ≡ flat_map (λ m. aranges_bytes (unit_start graph m.0) m.1.ranges) (numbered_units graph)
    pub at : new.at ≡ starts_of graph (length graph.units)

  pub placed_all : (drafts : List Draft) → AreDrafts graph drafts → AllPlaced (fold with_draft none_placed drafts)
  placed_all drafts are =
      let h = follow_from 0 [] graph.units drafts none_placed refl refl (from_graph graph drafts are) refl in
      let end : 0 + length graph.units ≡ length graph.units = omega arith in
      record { starts = h.starts; parts = h.parts; aranges = h.aranges; at = h.at ∙ ap (starts_of graph) end }

-- ---- whatever the graph

-- the places behind all drafts
pub at_end : (drafts : List Draft) (p : Placing) → (fold with_draft p drafts).at ≡ fold behind_draft p.at drafts
at_end [] p = refl
at_end (d ∷ drafts) p = at_end drafts (with_draft p d)

-- each draft has its places, and there are no more
pub as_many : (drafts : List Draft) (p : Placing) → length (fold with_draft p drafts).parts ≡ length p.parts + length drafts
as_many [] p = omega arith
as_many (d ∷ drafts) p =
    let next = with_draft p d in
    let parts : length next.parts ≡ length p.parts + 1 = length-append p.parts _ in
    let rest = as_many drafts next in
    omega (arith, parts, rest)
