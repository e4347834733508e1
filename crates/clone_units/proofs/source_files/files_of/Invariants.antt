use Rattle.std.proofs.Common.{◌≡◌, [], drop}
use Rattle.std.specs.List.{flat_map}
use Rattle.indexmap.specs.IndexSet.{insert_all}
use Rattle.link_graph.specs.PoolFiles.{same_file}
use Rattle.clone_units.specs.Noted.{AreNoted}
use Rattle.clone_units.specs.Sourced.{files_seen, uses_of}
use Rattle.clone_units.proofs.source_files.files_of.Given as goal

-- those so far, and those that the entries of the nodes that are left name; the files of the uses that are marked are among those so far
abbrev pub invariant-loop-origin : goal.invariant-loop-origin
invariant-loop-origin l =
    (insert_all same_file (files_seen l.files) (flat_map (uses_of l.seen) (drop l.origin-index l.origins)) ≡ insert_all same_file [] (flat_map (uses_of l.seen) l.origins))
    × AreNoted l.seen l.marks (files_seen l.files)
