-- The units from a number up to another, one behind the other.
use Rattle.std.proofs.Common.{◌≡◌, ◌<◌, ◌≤◌, ◌+◌, ℕ, zero, suc, List, [], ◌∷◌, ◌++◌, length, get_or, slice_get, slice_index_or, take, drop, Some, Ok, refl, sym, ap, ◌∙◌, arith, length-append, append-nil}
use Rattle.std.specs.List.{flat_map}
use Rattle.std.proofs.lemmas.List.{drop_all, length-take, length-take-le, take_all, take_more}
use Rattle.std.proofs.lemmas.List.Concat.{flat_map-append}
use Rattle.std.proofs.lemmas.List.FromFn.{length-enumerate_from}
use Rattle.std.proofs.lemmas.Option.{slice_get-get_or}
use Rattle.std.proofs.Math.Seq.{drop-append_seam, drop-nil, take-nil}
use Rattle.ds_base.specs.Room.{Adds}
use Rattle.dwarf_types.specs.declared.graph.Graph.{Graph}
use Rattle.dwarf_types.specs.declared.graph.OutUnit.{OutUnit}
use Rattle.dwarf_types.specs.Encode.{info_section}
use Rattle.dwarf_types.specs.Layout.{numbered_units}
use Rattle.layout.specs.Laid.{IsMeasured, Laid, Measures}
use Rattle.layout.proofs.SectionLengths.{info_end}
use Rattle.unit_draft.specs.declared.unit.Draft.{Draft}
use Rattle.section_write.specs.Emitting.{bytes_between, bytes_in, IsSizeOf}
use Rattle.section_write.proofs.Drafts.{unit_size, within_graph}
use Rattle.section_write.proofs.UnitByUnit.{part_here, unit_is, unit_of, unit_of_is, within}

-- ---- items of a list from a number up to another

module _ {X : Type 0} where
  cut_between : (xs : List X) (first middle end : ℕ) → first ≤ middle → middle ≤ end → drop first (take end xs) ≡ drop first (take middle xs) ++ drop middle (take end xs)
  cut_between [] first middle end le more = rw (take-nil end, take-nil middle, drop-nil first, drop-nil middle) refl
  cut_between (x ∷ xs) zero zero end le more = refl
  cut_between (x ∷ xs) (suc first) zero end le more = absurd (omega arith)
  cut_between (x ∷ xs) first (suc middle) zero le more = absurd (omega arith)
  cut_between (x ∷ xs) zero (suc middle) (suc end) le more = ap (λ (ys : List X). x ∷ ys) (cut_between xs zero middle end (omega arith) (omega arith))
  cut_between (x ∷ xs) (suc first) (suc middle) (suc end) le more = cut_between xs first middle end (omega arith) (omega arith)

  none_between : (xs : List X) (i : ℕ) → drop i (take i xs) ≡ []
  none_between xs i = drop_all i (take i xs) (omega (arith, length-take i xs))

  one_between : (xs : List X) (i : ℕ) (d : X) → i < length xs → drop i (take (i + 1) xs) ≡ get_or xs i d ∷ []
  one_between xs i d lt =
      ap (drop i) (take_more xs i d lt)
      ∙ ap (λ (n : ℕ). drop n (take i xs ++ get_or xs i d ∷ [])) (sym (length-take-le i xs (omega arith)))
      ∙ drop-append_seam (take i xs) (get_or xs i d ∷ [])

-- ---- their bytes

module _ (graph : Graph) where
  pub bytes_cut : (first middle end : ℕ) → first ≤ middle → middle ≤ end → bytes_between graph first end ≡ bytes_between graph first middle ++ bytes_between graph middle end
  bytes_cut first middle end le more =
      ap (flat_map (λ (n : ℕ × OutUnit). bytes_in graph n.0 n.1)) (cut_between (numbered_units graph) first middle end le more)
      ∙ flat_map-append (λ (n : ℕ × OutUnit). bytes_in graph n.0 n.1) (drop first (take middle (numbered_units graph))) (drop middle (take end (numbered_units graph)))

  bytes_none : (first : ℕ) → bytes_between graph first first ≡ []
  bytes_none first = ap (flat_map (λ (n : ℕ × OutUnit). bytes_in graph n.0 n.1)) (none_between (numbered_units graph) first)

  bytes_one : (u : ℕ) (unit : OutUnit) → u < length graph.units → unit ≡ get_or graph.units u unit → bytes_between graph u (u + 1) ≡ bytes_in graph u unit
  bytes_one u unit lt is =
      ap (flat_map (λ (n : ℕ × OutUnit). bytes_in graph n.0 n.1)) (one_between (numbered_units graph) u (u, unit) (within graph (bytes_in graph) u unit lt is))
      ∙ append-nil _
      ∙ part_here graph (bytes_in graph) u unit lt is

  -- a unit more
  pub bytes_more : (first u : ℕ) (unit : OutUnit) → first ≤ u → u < length graph.units → unit ≡ get_or graph.units u unit → bytes_between graph first (u + 1) ≡ bytes_between graph first u ++ bytes_in graph u unit
  bytes_more first u unit le lt is = bytes_cut first u (u + 1) le (omega arith) ∙ ap (λ (bytes : List ℕ). bytes_between graph first u ++ bytes) (bytes_one u unit lt is)

  pub bytes_all : (count : ℕ) → length graph.units ≤ count → bytes_between graph 0 count ≡ info_section graph
  bytes_all count le = ap (flat_map (λ (n : ℕ × OutUnit). bytes_in graph n.0 n.1)) (take_all count (numbered_units graph) (omega (arith, le, length-enumerate_from 0 graph.units)))

-- ---- how many bytes they have

pub size_all : (layout : Laid) → IsMeasured layout → IsSizeOf layout 0 (length layout.drafts) layout.ends.info
size_all layout m = record {
  measured = m;
  ordered = omega arith;
  within = omega arith;
  bytes = λ graph measured. ap (λ (l : Laid). l.ends.info) measured.0 ∙ info_end graph ∙ sym (ap length (bytes_all graph (length layout.drafts) (omega (arith, measured.3.count))));
}

pub size_more : (layout : Laid) (first u size : ℕ) (draft : Draft) → IsSizeOf layout first u size → u < length layout.drafts → slice_get layout.drafts u ≡ Some draft → IsSizeOf layout first (u + 1) (size + draft.len)
size_more layout first u size draft it lt there = record {
  measured = it.measured;
  ordered = omega (arith, it.ordered);
  within = omega (arith, lt);
  bytes = λ graph measured.
      let inside = within_graph graph layout u measured lt in
      omega (
        arith,
        it.bytes graph measured,
        ap length (bytes_more graph first u (unit_of graph u) it.ordered inside (unit_of_is graph u inside)),
        length-append (bytes_between graph first u) (bytes_in graph u (unit_of graph u)),
        unit_size graph layout u (unit_of graph u) draft measured (unit_is graph u inside) there,
      );
}

-- of units that were added from the first byte of a room on
pub size_added : (layout : Laid) (first u : ℕ) (old room : List ℕ) (at : ℕ) → IsMeasured layout → first ≤ u → u ≤ length layout.drafts → ((graph : Graph) → Measures graph (Ok layout) → Adds old 0 (bytes_between graph first u) room at) → IsSizeOf layout first u at
size_added layout first u old room at m le within added = record {
  measured = m;
  ordered = le;
  within = within;
  bytes = λ graph measured. omega (arith, (added graph measured).behind);
}

-- those before a number are no more than all, and the others are those behind
module _ (layout : Laid) (first middle end size front : ℕ) (all : IsSizeOf layout first end size) (part : IsSizeOf layout first middle front) (le : middle ≤ end) where
  cut_sizes : (graph : Graph) → length (bytes_between graph first end) ≡ length (bytes_between graph first middle) + length (bytes_between graph middle end)
  cut_sizes graph = ap length (bytes_cut graph first middle end part.ordered le) ∙ length-append (bytes_between graph first middle) (bytes_between graph middle end)

  pub size_before : front ≤ size
  size_before = omega (arith, all.bytes all.measured.graph all.measured.measured, part.bytes all.measured.graph all.measured.measured, cut_sizes all.measured.graph)

  pub size_behind : (back : ℕ) → back + front ≡ size → IsSizeOf layout middle end back
  size_behind back sum = record {
    measured = all.measured;
    ordered = le;
    within = all.within;
    bytes = λ graph measured. omega (arith, sum, all.bytes graph measured, part.bytes graph measured, cut_sizes graph);
  }

-- the draft of a number, as it is read
pub read_draft : (layout : Laid) (drafts : List Draft) (u : ℕ) (d : Draft) → drafts ≡ layout.drafts → u < length layout.drafts → slice_get layout.drafts u ≡ Some (slice_index_or drafts u d)
read_draft layout drafts u d same lt = slice_get-get_or layout.drafts u d lt ∙ ap (λ (ds : List Draft). Some (slice_index_or ds u d)) (sym same)
