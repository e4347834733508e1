use Rattle.std.proofs.Common.{ℕ, ◌+◌, sym, ap, ◌∙◌}
use Rattle.std.specs.Option.{option_map}
use Rattle.link_graph.specs.PoolFiles.{same_file}
use Rattle.clone_units.specs.Sourced.{file_seen}
use Rattle.clone_units.proofs.FirstUses.{position-map}
use Rattle.clone_units.proofs.source_files.number_of.Goals as goal

pub returns-in-Some : goal.returns-in-Some
returns-in-Some c = ap (option_map (λ (i : ℕ). i + 1)) (c.in-Some.ensures.index ∙ sym (position-map file_seen (same_file (file_seen c.args.file)) c.args.files.now.keys))

pub returns-in-None : goal.returns-in-None
returns-in-None c = ap (option_map (λ (i : ℕ). i + 1)) (c.in-None.ensures.index ∙ sym (position-map file_seen (same_file (file_seen c.args.file)) c.args.files.now.keys))
