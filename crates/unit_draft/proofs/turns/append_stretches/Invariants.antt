use Rattle.std.proofs.Common.{◌-◌, List}
use Rattle.dwarf_types.specs.Entries.{OutEntry}
use Rattle.unit_draft.specs.Stretches.{IsStretch}
use Rattle.unit_draft.proofs.Stretching.{IsTurn}
use Rattle.unit_draft.proofs.turns.append_stretches.Given as goal

-- one stretch waits to be appended
abbrev pub invariant-loop-preparer : goal.invariant-loop-preparer
invariant-loop-preparer g l =
    (waiting : List OutEntry) × IsStretch waiting l.appender.stretch × IsTurn g.S.UnitSource.unit l.number (g.S.UnitSource.unit l.unit) l.fn.appender l.preparer l.appender waiting

abbrev pub decreases-loop-preparer : goal.decreases-loop-preparer
decreases-loop-preparer g l = l.count - l.preparer.next
