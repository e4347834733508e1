-- What stands outside of a unit of a graph.
use Rattle.std.specs.Prelude.{◌≡◌, ℕ, ◌+◌, List, length, map, slice_get, slice_index, slice_index_or, Some}
use Rattle.std.specs.Option.{option_map_or}
use Rattle.dwarf_types.specs.declared.graph.Graph.{Graph}
use Rattle.dwarf_types.specs.declared.graph.OutUnit.{OutUnit}
use Rattle.dwarf_types.specs.declared.graph.Target.{Target}
use Rattle.dwarf_types.specs.Layout.{line_text_place, lines_place, lists_place, numbered_units, table_place, text_place, unit_start}
use Rattle.patches.specs.declared.hole.Outer.{Outer}
use Rattle.patches.specs.declared.hole.Outer.TheVariants as outer
use Rattle.unit_draft.specs.declared.outside.Outside.{Outside}
use Rattle.unit_draft.specs.Drafted.{AreDrafts}

-- ---- the number of each hole

-- of an entry: where its unit starts, and its place there; behind the last unit stands the end of the section, and behind a unit's last node the unit's end
abbrev pub entry_number : Outside → Target → ℕ
entry_number o target =
    slice_index_or o.starts.now target.unit o.end + option_map_or (λ draft. slice_index_or draft.places target.node draft.len) (slice_get o.drafts.now target.unit) 0

abbrev pub outer_number : Outside → Outer → ℕ
outer_number o outer.Table = o.table
outer_number o (outer.Text i) = slice_index o.texts.now i
outer_number o (outer.Entry target) = entry_number o target
outer_number o (outer.Ranges offset) = o.ranges + offset
outer_number o (outer.Locations offset) = o.locations + offset
outer_number o outer.Lines = o.lines
outer_number o (outer.LineText i) = slice_index o.line_texts.now i

-- ---- a graph

-- what stands outside of the unit of a number, which numbers its texts and those of its line table so
pub record IsOutside (graph : Graph) (u : ℕ) (unit : OutUnit) (names line_names : List (List ℕ)) (o : Outside) : Type 0 where
  pub table : o.table ≡ table_place graph u
  pub lines : o.lines ≡ lines_place graph u
  pub ranges : o.ranges ≡ (lists_place graph u unit).ranges
  pub locations : o.locations ≡ (lists_place graph u unit).locations
  pub texts : (i : ℕ) (t : List ℕ) → slice_get names i ≡ Some t → slice_index o.texts.now i ≡ text_place graph t
  pub line_texts : (i : ℕ) (t : List ℕ) → slice_get line_names i ≡ Some t → slice_index o.line_texts.now i ≡ line_text_place graph t
  pub starts : o.starts.now ≡ map (λ n. unit_start graph n.0) (numbered_units graph)
  pub drafts : AreDrafts graph o.drafts.now
  pub end : o.end ≡ unit_start graph (length graph.units)
