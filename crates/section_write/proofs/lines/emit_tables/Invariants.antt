use Rattle.std.proofs.Common.{take, Ok}
use Rattle.std.specs.List.{flat_map}
use Rattle.ds_base.specs.Room.{Adds}
use Rattle.dwarf_types.specs.declared.graph.Graph.{Graph}
use Rattle.dwarf_types.specs.Layout.{numbered_units}
use Rattle.layout.specs.Laid.{Measures}
use Rattle.section_write.specs.Tables.{table_in}
use Rattle.section_write.proofs.lines.emit_tables.Given as goal

abbrev pub invariant-loop-u : goal.invariant-loop-u
invariant-loop-u l = (graph : Graph) → Measures graph (Ok l.layout) → Adds l.fn.room l.start (flat_map (λ n. table_in graph n.1) (take l.u (numbered_units graph))) l.room l.at
