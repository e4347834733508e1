use Rattle.std.proofs.Common.{ℕ, ◌++◌, ◌∙◌, Bool, ap, length, map, subst}
use Rattle.std.specs.List.{flat_map}
use Rattle.ds_base.specs.Leb.{uleb}
use Rattle.dwarf_types.specs.LineTable.{file_entry, file_format}
use Rattle.patches.specs.Filling.{filled}
use Rattle.line_write.specs.Named.{AppendsNamed}
use Rattle.line_write.proofs.Naming.{named_behind}
use Rattle.line_write.proofs.names.append_files.Goals as goal

pub returns : goal.returns
returns c =
    let files = c.args.files.now in
    let names = c.args.names.now in
    let new = c.append_each_file.new.out in
    let after = c.append_each_file.new.names in
    let front = c.append_file_format.new.out in
    let texts = map (λ (file : _). file.name) files in
    let digests = c.are_with_digests-digests.result in
    subst (λ (b : Bool). AppendsNamed c.args.out.now new names after (λ text. file_format b ++ (uleb (length files) ++ flat_map (file_entry text b) files)) texts) c.are_with_digests-digests.ensures
    (named_behind c.args.out.now front new names after texts (λ text. uleb (length files) ++ flat_map (file_entry text digests) files) (file_format digests) c.in_ok-append_file_format.ensures
    (named_behind front c.extend_uleb.new.self new names after texts (λ text. flat_map (file_entry text digests) files) (uleb (length files))
    (λ f. c.in_ok-extend_uleb.ensures.ok f ∙ ap (λ (n : ℕ). filled front f ++ uleb n) c.len.ensures) c.in_ok-append_each_file.ensures))
