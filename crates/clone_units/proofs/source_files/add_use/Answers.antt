use Rattle.std.proofs.Common.{◌≡◌, List, Some, sym, ap, ◌∙◌}
use Rattle.std.specs.Option.{option_map}
use Rattle.indexmap.specs.IndexSet.{insert_key}
use Rattle.link_graph.specs.PoolFiles.{SourceFile, same_file}
use Rattle.clone_units.specs.Sourced.{file_of_use, file_seen, files_seen, with_named}
use Rattle.clone_units.proofs.NotedUses.{noted_kept, noted_more, put_again}
use Rattle.clone_units.proofs.source_files.add_use.Goals as goal

pub returns-clause-noted : goal.returns-clause-noted
returns-clause-noted c =
    let all = c.args.seen.now in
    let files = files_seen c.args.files.now in
    let file = file_seen c.in-Some.file in
    let some : file_of_use all c.args.now ≡ Some file = sym c.file_of_use.ensures ∙ ap (option_map file_seen) c.in-Some.is in
    let grown : List SourceFile = insert_key same_file files file in
    let put : with_named grown (file_of_use all c.args.now) ≡ grown = ap (with_named grown) some ∙ put_again files (Some file) in
    rw (c.note.ensures, c.in_ok-add_file.ensures) (noted_more all c.args.marks.now grown c.args.now put (noted_kept all c.args.marks.now files file c.requires.noted))
