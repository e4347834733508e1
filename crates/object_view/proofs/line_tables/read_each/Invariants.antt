use Rattle.object_view.specs.Attributes.{unit_with_lines}
use Rattle.object_view.specs.Seen.{opened_seen}
use Rattle.object_view.proofs.EachOf.{Changed}
use Rattle.object_view.proofs.line_tables.read_each.Given as goal

abbrev pub invariant-loop-unit : goal.invariant-loop-unit
invariant-loop-unit l = Changed (unit_with_lines (opened_seen l.object) l.map l.entries) l.fn.units l.units l.unit-index
