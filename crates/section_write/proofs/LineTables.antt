-- Line tables, unit by unit.
use Rattle.std.proofs.Common.{◌≡◌, ℕ, length, slice_get, Some, Ok, sym, ◌∙◌}
use Rattle.dwarf_types.specs.declared.graph.Graph.{Graph}
use Rattle.dwarf_types.specs.declared.graph.OutUnit.{OutUnit}
use Rattle.dwarf_types.specs.Encode.{line_section, over_units}
use Rattle.dwarf_types.specs.Layout.{line_text_place}
use Rattle.unit_draft.specs.declared.unit.Draft.{Draft}
use Rattle.layout.specs.Laid.{Laid, Measures}
use Rattle.layout.specs.Pass.{line_len, nothing}
use Rattle.layout.proofs.LineLengths.{same_lines}
use Rattle.section_write.proofs.UnitByUnit.{without_numbers}
use Rattle.section_write.specs.Tables.{table_in}

pub tables_over : (graph : Graph) → over_units graph (λ u unit. table_in graph unit) ≡ line_section graph
tables_over graph = without_numbers (table_in graph) 0 graph.units

-- how long the table of a unit is
pub table_size : (graph : Graph) (layout : Laid) (u : ℕ) (it : OutUnit) (draft : Draft) → Measures graph (Ok layout) → slice_get graph.units u ≡ Some it → slice_get layout.drafts u ≡ Some draft → length (table_in graph it) ≡ line_len draft
table_size graph layout u it draft measured here there = same_lines (line_text_place graph) (λ text. 0) it ∙ sym ((measured.3.each u it draft here there).lines_size nothing)
