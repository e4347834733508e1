use Rattle.std.proofs.Common.{◌≡◌, ◌-◌, List, length}
use Rattle.dwarf_types.specs.declared.analysis.Analysis.{Analysis}
use Rattle.unit_drafts.specs.Drafting.{AreDrafting, MayDraftAll}
use Rattle.unit_drafts.proofs.drafting.Drafts.draft_others.Given as goal

-- the units so far are drafted, and what the others need is there
abbrev pub invariant-loop-first : goal.invariant-loop-first
invariant-loop-first g l =
    (l.first ≡ length l.self.outs.items) × ((seen : List Analysis) → MayDraftAll seen l.shape → AreDrafting seen l.shape l.fn.self → AreDrafting seen l.shape l.self)

abbrev pub decreases-loop-first : goal.decreases-loop-first
decreases-loop-first g l = length l.shape.units - l.first
