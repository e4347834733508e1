-- The line table of a unit that is drafted.
use Rattle.std.specs.Prelude.{◌≡◌, ℕ, List, [], length}
use Rattle.std.specs.Str.{bytes_eq}
use Rattle.ds_base.specs.FirstUse.{once}
use Rattle.dwarf_types.specs.declared.graph.OutUnit.{OutUnit}
use Rattle.dwarf_types.specs.Layout.{line_texts_of_unit}
use Rattle.dwarf_types.specs.LineTable.{lines_bytes}
use Rattle.line_write.specs.Named.{TellsTexts}
use Rattle.patches.specs.Filling.{Filling, filled}
use Rattle.unit_draft.specs.declared.parts.DraftedLines.{DraftedLines}
use Rattle.unit_draft.specs.Drafted.{lines_len}

pub record AreLines (clone : OutUnit) (lines : DraftedLines) : Type 0 where
  pub table : (f : Filling) (text : List ℕ → ℕ) → TellsTexts lines.names f text → filled lines.table f ≡ lines_bytes text clone
  pub size : (f : Filling) → length (filled lines.table f) ≡ lines_len clone
  pub settled : lines.table.own ≡ []
  pub names : lines.names ≡ once bytes_eq (line_texts_of_unit clone)
