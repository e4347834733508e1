use Rattle.std.proofs.Common.{List}
use Rattle.dwarf_types.specs.declared.analysis.Analysis.{Analysis}
use Rattle.unit_drafts.specs.Drafting.{AreLeft}
use Rattle.unit_drafts.proofs.batches.drop_analyses.Given as goal

abbrev pub invariant-loop-i : goal.invariant-loop-i
invariant-loop-i l = (all : List Analysis) → AreLeft l.dropped all l.fn.left → AreLeft l.i all l.left
