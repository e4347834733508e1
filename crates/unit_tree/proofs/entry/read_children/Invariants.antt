use Rattle.std.proofs.Common.{◌-◌}
use Rattle.ds_base.specs.Spot.{IsSmall}
use Rattle.dwarf_types.specs.SectionBytes.{bytes_in}
use Rattle.unit_tree.specs.Entry.{children_at}
use Rattle.unit_tree.specs.Bounds.{AreNumbers, IsReady, parsed_seen}
use Rattle.unit_tree.proofs.ChildLoop.{Goes}
use Rattle.unit_tree.proofs.entry.read_children.Given as goal

abbrev pub invariant-loop-context : goal.invariant-loop-context
invariant-loop-context l =
    IsSmall l.cursor
    × IsReady l.parsed
    × AreNumbers l.lists
    × Goes (bytes_in l.sections) l.context l.table (parsed_seen l.parsed, l.lists) l.cursor (children_at (bytes_in l.sections) l.context l.table (l.fn.cursor.end - l.fn.cursor.place) (parsed_seen l.fn.parsed, l.fn.lists) l.fn.cursor)

abbrev pub decreases-loop-context : goal.decreases-loop-context
decreases-loop-context l = l.cursor.end - l.cursor.place
