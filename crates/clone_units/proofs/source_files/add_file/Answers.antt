use Rattle.std.proofs.Common.{ap, map, ◌∙◌}
use Rattle.link_graph.specs.PoolFiles.{same_file}
use Rattle.clone_units.specs.Sourced.{file_seen}
use Rattle.clone_units.proofs.FirstUses.{insert_key-map}
use Rattle.clone_units.proofs.source_files.add_file.Goals as goal

pub returns : goal.returns
returns c = ap (map file_seen) c.in_ok-insert.ensures.keys ∙ insert_key-map file_seen same_file c.args.files.now.keys c.args.file
