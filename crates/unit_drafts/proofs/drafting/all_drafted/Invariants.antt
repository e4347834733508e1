use Rattle.std.proofs.Common.{◌≡◌, ◌++◌, length}
use Rattle.work_share.specs.Results.{GivesAll}
use Rattle.dwarf_types.specs.declared.graph.Graph.{Graph}
use Rattle.layout.proofs.DraftRuns.{Drafted}
use Rattle.unit_drafts.specs.Drafting.{DraftsUnit}
use Rattle.unit_drafts.proofs.drafting.all_drafted.Given as goal

-- the units so far are drafted
abbrev pub invariant-loop-out : goal.invariant-loop-out
invariant-loop-out l =
    (l.yielded ++ l.out-iterator.rest.items ≡ l.initial.out-iterator.rest.items)
    × ((graph : Graph) → GivesAll (DraftsUnit graph) (length graph.units) l.initial.out-iterator.rest.items → Drafted graph (length l.yielded) l.drafts)
