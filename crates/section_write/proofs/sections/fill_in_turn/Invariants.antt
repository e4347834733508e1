use Rattle.std.proofs.Common.{Ok, take}
use Rattle.ds_base.specs.Room.{Adds}
use Rattle.dwarf_types.specs.declared.graph.Graph.{Graph}
use Rattle.layout.specs.Laid.{Measures}
use Rattle.section_write.specs.Runs.{run_bytes}
use Rattle.section_write.proofs.sections.fill_in_turn.Given as goal

abbrev pub invariant-loop-section : goal.invariant-loop-section
invariant-loop-section g l = (graph : Graph) → Measures graph (Ok l.layout) → Adds l.fn.room 0 (run_bytes graph (take l.section-index l.sections)) l.room l.at
