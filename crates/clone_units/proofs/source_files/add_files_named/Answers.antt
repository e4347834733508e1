use Rattle.std.proofs.Common.{◌≡◌, ◌+◌, ◌<◌, ℕ, List, length, drop, sym, ap, ◌∙◌, arith}
use Rattle.std.specs.List.{filter_map}
use Rattle.std.specs.Option.{option_and_then}
use Rattle.indexmap.specs.IndexSet.{insert_all}
use Rattle.dwarf_types.specs.declared.entry.Attr.{Attr}
use Rattle.link_graph.specs.PoolFiles.{SourceFile, file_in, file_named, same_file}
use Rattle.clone_units.specs.declared.noted_uses.FileUse.{FileUse}
use Rattle.clone_units.specs.Sourced.{file_of_use, files_seen, with_named}
use Rattle.clone_units.proofs.NotedUses.{use_in}
use Rattle.clone_units.proofs.NamedFiles.{named_next}
use Rattle.clone_units.proofs.source_files.add_files_named.Goals as goal
use Rattle.clone_units.proofs.source_files.add_files_named.Goals.{in-Some+in_ok-add_use, in_default}

pub loop-j-preserved : goal.loop-j-preserved
loop-j-preserved c =
    let own = c.args.source.now.seen.now in
    let u = c.args.source.now.entry.unit in
    let attrs = c.args.source.now.entry.attrs in
    let named = option_and_then (file_in own u) c.file_number_at.result in
    let lt : c.loop-j.j < length attrs = omega (arith, c.loop-j-test.true, c.len-j-end.ensures) in
    let next = named_next (file_named own u) attrs c.loop-j.j named (files_seen c.loop-j.files) lt (λ (a : Attr) at. c.file_number_at.ensures a at own u) in
    let so_far = c.loop-j.invariant.0 in
    elim c.match-file_number_at.branch [
      | in-Some+in_ok-add_use w ↦ (
          let now : FileUse = record { object = c.args.source.now.object; unit = w.unit.result; number = w.in-Some.number } in
          let its_file : named ≡ file_of_use c.args.seen.now now =
          ap (option_and_then (file_in own u)) w.in-Some.is ∙ ap (λ (v : ℕ). file_in own v w.in-Some.number) (sym w.unit.ensures) ∙ sym (use_in c.args.seen.now own now c.requires.own) in
          let kept : with_named (files_seen c.loop-j.files) named ≡ files_seen c.match-file_number_at.files = ap (with_named (files_seen c.loop-j.files)) its_file ∙ sym w.in_ok-add_use.ensures.named ∙ ap files_seen (sym w.files-is) in
          (ap (λ (files : List SourceFile). insert_all same_file files (filter_map (file_named own u) (drop (c.loop-j.j + 1) attrs))) (sym kept) ∙ next ∙ so_far, rw (w.files-is, w.marks-is) w.in_ok-add_use.ensures.noted))
      | in_default w ↦ (
          let kept : with_named (files_seen c.loop-j.files) named ≡ files_seen c.match-file_number_at.files = ap (λ found. with_named (files_seen c.loop-j.files) (option_and_then (file_in own u) found)) w.in_default.is ∙ ap files_seen (sym w.files-is) in
          (ap (λ (files : List SourceFile). insert_all same_file files (filter_map (file_named own u) (drop (c.loop-j.j + 1) attrs))) (sym kept) ∙ next ∙ so_far, rw (w.files-is, w.marks-is) c.loop-j.invariant.1))
    ]
