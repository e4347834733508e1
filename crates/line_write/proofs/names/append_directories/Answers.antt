use Rattle.std.proofs.Common.{ℕ, ◌++◌, ◌∙◌, ap, length}
use Rattle.std.specs.List.{flat_map}
use Rattle.ds_base.specs.Leb.{uleb}
use Rattle.dwarf_types.specs.LineTable.{directory_entry, directory_format}
use Rattle.patches.specs.Filling.{filled}
use Rattle.line_write.proofs.Naming.{named_behind}
use Rattle.line_write.proofs.names.append_directories.Goals as goal

pub returns : goal.returns
returns c =
    let dirs = c.args.dirs.now in
    let names = c.args.names.now in
    let new = c.append_each_directory.new.out in
    let after = c.append_each_directory.new.names in
    let front = c.append_directory_format.new.out in
    named_behind c.args.out.now front new names after dirs (λ text. uleb (length dirs) ++ flat_map (directory_entry text) dirs) directory_format c.in_ok-append_directory_format.ensures
    (named_behind front c.extend_uleb.new.self new names after dirs (λ text. flat_map (directory_entry text) dirs) (uleb (length dirs))
    (λ f. c.in_ok-extend_uleb.ensures.ok f ∙ ap (λ (n : ℕ). filled front f ++ uleb n) c.len.ensures) c.in_ok-append_each_directory.ensures)
