-- The parts of the units of a graph, one unit after the other.
use Rattle.std.proofs.Common.{◌≡◌, ℕ, ◌+◌, ◌<◌, true, false, length, take, get_or, refl, ap, ◌∙◌}
use Rattle.std.specs.List.{sum_by}
use Rattle.std.proofs.lemmas.List.Sums.{sum_by_push}
use Rattle.dwarf_types.specs.declared.graph.Graph.{Graph}
use Rattle.dwarf_types.specs.declared.graph.OutUnit.{OutUnit}
use Rattle.dwarf_types.specs.Abbreviations.{table_bytes}
use Rattle.dwarf_types.specs.Entries.{unit_len}
use Rattle.dwarf_types.specs.Layout.{before_unit, line_text_place, lines_place, numbered_units, unit_locations_len, unit_ranges_len}
use Rattle.dwarf_types.specs.LineTable.{lines_bytes}
use Rattle.layout.specs.declared.starts.Starts.{Starts}
use Rattle.layout.specs.Lengths.{starts_of}
use Rattle.layout.specs.Pass.{behind_unit}
use Rattle.layout.proofs.LineLengths.{same_lines}
use Rattle.layout.proofs.Numbered.{take_numbered}

abbrev pub starts_by : ℕ → ℕ → ℕ → ℕ → ℕ → ℕ → ℕ → Starts
starts_by info tables line ranges rnglists loc loclists =
    record { info = info; tables = tables; line = line; ranges = ranges; rnglists = rnglists; loc = loc; loclists = loclists }

pub by_all : (a b c d e f g a' b' c' d' e' f' g' : ℕ) → a ≡ a' → b ≡ b' → c ≡ c' → d ≡ d' → e ≡ e' → f ≡ f' → g ≡ g' → starts_by a b c d e f g ≡ starts_by a' b' c' d' e' f' g'
by_all a b c d e f g a' b' c' d' e' f' g' ea eb ec ed ee ef eg = rw (ea, eb, ec, ed, ee, ef, eg) refl

module _ (graph : Graph) where
  -- the lengths before the next unit
  pub before_more : (len : ℕ → OutUnit → ℕ) (u : ℕ) (unit : OutUnit) → u < length graph.units → unit ≡ get_or graph.units u unit → before_unit graph len (u + 1) ≡ before_unit graph len u + len u unit
  before_more len u unit lt is =
      ap (sum_by (λ (n : ℕ × OutUnit). len n.0 n.1)) (take_numbered graph.units u unit lt is) ∙ sum_by_push (λ (n : ℕ × OutUnit). len n.0 n.1) (take u (numbered_units graph)) (u, unit)

  pub starts_more : (u : ℕ) (unit : OutUnit) → u < length graph.units → unit ≡ get_or graph.units u unit → starts_of graph (u + 1) ≡ behind_unit (starts_of graph u) u unit
  starts_more u unit lt is =
      by_all _ _ _ _ _ _ _ _ _ _ _ _ _ _ (before_more unit_len u unit lt is) (before_more (λ v one. length (table_bytes v one)) u unit lt is)
      (before_more (λ v one. length (lines_bytes (line_text_place graph) one)) u unit lt is ∙ ap (λ (n : ℕ). lines_place graph u + n) (same_lines (line_text_place graph) (λ text. 0) unit))
      (before_more (λ v one. unit_ranges_len false one) u unit lt is) (before_more (λ v one. unit_ranges_len true one) u unit lt is)
      (before_more (λ v one. unit_locations_len false one) u unit lt is) (before_more (λ v one. unit_locations_len true one) u unit lt is)
