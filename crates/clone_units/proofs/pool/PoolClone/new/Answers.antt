use Rattle.std.proofs.Common.{◌≡◌, List, ap, ◌∙◌}
use Rattle.link_graph.specs.Graph.{files_of}
use Rattle.link_graph.specs.PoolFiles.{SourceFile, table_of}
use Rattle.clone_units.specs.Sourced.{files_seen, numbers_of_all}
use Rattle.clone_units.proofs.Pooled.{files_below}
use Rattle.clone_units.proofs.pool.PoolClone.new.Goals as goal

pub invariant_of-result : goal.invariant_of-result
invariant_of-result c =
    let seen = c.args.seen.now in
    let all : files_seen c.in_ok-files.files ≡ files_of seen c.args.origins.now = c.in_ok-files.ensures ∙ ap (files_of seen) c.below_root.ensures ∙ files_below seen c.args.images.now c.args.origins.now c.requires in (
      c.requires,
      record {
        numbers = c.in_ok-numbers.ensures ∙ ap (λ (files : List SourceFile). numbers_of_all files seen) all;
        lines = c.in_ok-lines.ensures ∙ ap (table_of c.args.version) all;
        ranges = c.new.ensures;
      },
    )
