use Rattle.std.proofs.Common.{◌≡◌, map}
use Rattle.std.specs.List.{range_with_len}
use Rattle.dwarf_types.specs.Entries.{depth_of}
use Rattle.unit_draft.proofs.depths.depths_in.Given as goal

abbrev pub invariant-loop-k : goal.invariant-loop-k
invariant-loop-k g l = l.depths ≡ map (depth_of (g.S.UnitSource.unit l.unit).nodes) (range_with_len 0 l.k)
