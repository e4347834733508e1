use Rattle.std.proofs.Common.{◌≤◌, ◌-◌, length}
use Rattle.dwarf_types.specs.SectionBytes.{bytes_in}
use Rattle.unit_tree.specs.Bounds.{IsReady, parsed_seen}
use Rattle.unit_tree.specs.Table.{AreRead}
use Rattle.unit_tree.specs.Unit.{parsed_of}
use Rattle.unit_tree.proofs.UnitLoop.{Goes}
use Rattle.unit_tree.proofs.unit.read_each.Given as goal

-- each unit took a byte at least
abbrev pub invariant-loop-place : goal.invariant-loop-place
invariant-loop-place l =
    (l.place ≤ length l.sections.info.now)
    × (length l.units ≤ l.place)
    × IsReady l.parsed
    × AreRead l.sections.abbrev.now l.tables
    × Goes (bytes_in l.sections) l.units (parsed_seen l.parsed) l.place (parsed_of (bytes_in l.sections))

abbrev pub decreases-loop-place : goal.decreases-loop-place
decreases-loop-place l = length l.sections.info.now - l.place
