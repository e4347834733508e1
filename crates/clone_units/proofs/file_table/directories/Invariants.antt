use Rattle.std.proofs.Common.{◌≡◌, [], drop, map}
use Rattle.std.specs.List.{filter_map}
use Rattle.std.specs.Str.{bytes_eq}
use Rattle.indexmap.specs.IndexSet.{insert_all}
use Rattle.clone_units.specs.Sourced.{dirs_seen, file_seen, some_dir}
use Rattle.clone_units.proofs.file_table.directories.Given as goal

-- those so far, and those of the files that are left
abbrev pub invariant-loop-file : goal.invariant-loop-file
invariant-loop-file l = insert_all bytes_eq (dirs_seen l.dirs) (filter_map some_dir (map file_seen (drop l.file-index l.file-items))) ≡ insert_all bytes_eq [] (filter_map some_dir (map file_seen l.file-items))
