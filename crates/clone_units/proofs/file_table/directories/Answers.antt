use Rattle.std.proofs.Common.{List, map, sym, ap, ◌∙◌}
use Rattle.std.specs.List.{filter_map}
use Rattle.std.specs.Str.{bytes_eq}
use Rattle.std.proofs.lemmas.Cmp.{nat_list_eq_equiv}
use Rattle.std.proofs.lemmas.List.{drop_all}
use Rattle.indexmap.specs.IndexSet.{insert_all}
use Rattle.ds_base.specs.FirstUse.{once}
use Rattle.clone_units.specs.declared.source_files.FileRef.{FileRef}
use Rattle.clone_units.specs.Sourced.{dirs_seen, file_seen, some_dir}
use Rattle.clone_units.proofs.FirstUses.{all_once}
use Rattle.clone_units.proofs.file_table.directories.Goals as goal

pub returns : goal.returns
returns c =
    let items = c.as_slice-file-items.result.now in
    ap (λ (files : List FileRef). insert_all bytes_eq (dirs_seen c.loop-file.dirs) (filter_map some_dir (map file_seen files))) (sym (drop_all c.loop-file.file-index items c.loop-file-test.false)) ∙ c.loop-file.invariant
    ∙ all_once bytes_eq nat_list_eq_equiv (filter_map some_dir (map file_seen items)) ∙ ap (λ (files : List FileRef). once bytes_eq (filter_map some_dir (map file_seen files))) c.as_slice-file-items.ensures.keys
