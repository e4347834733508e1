use Rattle.std.proofs.Common.{◌≡◌, drop}
use Rattle.std.specs.List.{filter_map}
use Rattle.indexmap.specs.IndexSet.{insert_all}
use Rattle.link_graph.specs.PoolFiles.{file_named, files_named, same_file}
use Rattle.clone_units.specs.Noted.{AreNoted}
use Rattle.clone_units.specs.Sourced.{files_seen}
use Rattle.clone_units.proofs.source_files.add_files_named.Given as goal

-- those so far, and those that the attributes that are left name; the files of the uses that are marked are among those so far
abbrev pub invariant-loop-j : goal.invariant-loop-j
invariant-loop-j l =
    (insert_all same_file (files_seen l.files) (filter_map (file_named l.source.seen.now l.source.entry.unit) (drop l.j l.source.entry.attrs)) ≡ insert_all same_file (files_seen l.fn.files) (files_named l.source.seen.now l.source.entry))
    × AreNoted l.seen l.marks (files_seen l.files)
