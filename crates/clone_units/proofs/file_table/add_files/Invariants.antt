use Rattle.std.proofs.Common.{◌≡◌, ◌++◌, drop, map}
use Rattle.clone_units.specs.Sourced.{dirs_seen, file_seen}
use Rattle.link_graph.specs.PoolFiles.{file_written}
use Rattle.clone_units.proofs.file_table.add_files.Given as goal

-- the files so far and those that are left
abbrev pub invariant-loop-file : goal.invariant-loop-file
invariant-loop-file l = l.written ++ map (file_written (dirs_seen l.dirs)) (map file_seen (drop l.file-index l.file-items)) ≡ l.fn.written ++ map (file_written (dirs_seen l.dirs)) (map file_seen l.file-items)
