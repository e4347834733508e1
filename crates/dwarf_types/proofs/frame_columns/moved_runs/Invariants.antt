use Rattle.std.proofs.Common.{◌≡◌, map, take}
use Rattle.dwarf_types.specs.FrameColumns.{run_moved}
use Rattle.dwarf_types.proofs.frame_columns.moved_runs.Given as goal

abbrev pub invariant-loop-run : goal.invariant-loop-run
invariant-loop-run l = l.moved.items ≡ map (run_moved l.by) (take l.run-index l.runs)
