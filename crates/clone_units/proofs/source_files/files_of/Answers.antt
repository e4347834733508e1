use Rattle.std.proofs.Common.{◌≡◌, Bool, List, [], map, sym, ap, subst, ◌∙◌}
use Rattle.std.specs.List.{flat_map}
use Rattle.std.proofs.lemmas.List.{drop_all}
use Rattle.indexmap.specs.IndexSet.{insert_all}
use Rattle.ds_base.specs.FirstUse.{once}
use Rattle.dwarf_types.specs.declared.shape.Origin.{Origin}
use Rattle.link_graph.specs.PoolFiles.{SourceFile, same_file}
use Rattle.clone_units.specs.Noted.{AreNoted, marks_of_object}
use Rattle.clone_units.specs.Sourced.{file_seen, files_seen, uses_of}
use Rattle.clone_units.proofs.FirstUses.{all_once}
use Rattle.clone_units.proofs.NotedUses.{noted_none}
use Rattle.clone_units.proofs.Pooled.{same_file_laws, uses_are}
use Rattle.clone_units.proofs.source_files.files_of.Goals as goal

pub loop-origin-init : goal.loop-origin-init
loop-origin-init c =
    let seen = c.args.seen.now in
    let none : files_seen c.new-files.result ≡ [] = ap (map file_seen) c.new-files.ensures.empty in (
      ap (λ (files : List SourceFile). insert_all same_file files (flat_map (uses_of seen) c.args.origins.now)) none,
      subst (λ (marks : List (List (List Bool))). AreNoted seen marks (files_seen c.new-files.result)) (sym c.in_ok-marks.ensures)
          (subst (λ (files : List SourceFile). AreNoted seen (map marks_of_object seen) files) (sym none) (noted_none seen)),
    )

pub returns : goal.returns
returns c =
    let origins = c.args.origins.now in
    let seen = c.args.seen.now in
    ap (λ (xs : List Origin). insert_all same_file (files_seen c.loop-origin.files) (flat_map (uses_of seen) xs)) (sym (drop_all c.loop-origin.origin-index origins c.loop-origin-test.false)) ∙ c.loop-origin.invariant.0
    ∙ all_once same_file same_file_laws (flat_map (uses_of seen) origins) ∙ ap (once same_file) (uses_are seen origins)
