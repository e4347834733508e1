use Rattle.std.proofs.Common.{◌≡◌, ◌≤◌, ◌++◌, List, drop, length, map}
use Rattle.dwarf_types.specs.Entries.{OutEntry}
use Rattle.unit_source.specs.Given.{attr_given}
use Rattle.unit_draft.specs.Appends.{attrs_of}
use Rattle.unit_draft.specs.Stretches.{GoesOn, IsStretch}
use Rattle.unit_draft.proofs.entries.append_stretch.Given as goal

-- the entries of the nodes so far are appended, and the attributes of the others stand from here on
abbrev pub invariant-loop-node : goal.invariant-loop-node
invariant-loop-node l =
    (es rest : List OutEntry) → IsStretch es l.stretch
    → GoesOn l.number l.version l.fn.drafting l.drafting l.fn.places l.places (es ++ rest) (drop l.node-index es ++ rest) × (l.at ≤ length l.all) × (map attr_given (drop l.at l.all) ≡ attrs_of (drop l.node-index es))
