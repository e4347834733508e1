use Rattle.std.proofs.Common.{Ok}
use Rattle.ds_base.specs.Room.{Adds}
use Rattle.dwarf_types.specs.declared.graph.Graph.{Graph}
use Rattle.section_write.specs.Emitting.{bytes_between}
use Rattle.layout.specs.Laid.{Measures}
use Rattle.section_write.proofs.units.fill_in_turn.Given as goal

abbrev pub invariant-loop-unit : goal.invariant-loop-unit
invariant-loop-unit l = (graph : Graph) → Measures graph (Ok l.layout) → Adds l.fn.room 0 (bytes_between graph l.first l.unit) l.room l.at
