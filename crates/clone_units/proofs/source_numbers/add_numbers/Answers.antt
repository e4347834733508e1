use Rattle.std.proofs.Common.{◌+◌, ◌∷◌, [], ◌++◌, List, Option, ℕ, map, drop, sym, ap, ◌∙◌, append_assoc, arith}
use Rattle.ds_base.proofs.Walking.{drop_one}
use Rattle.dwarf_types.specs.declared.lines.FileName.{FileName}
use Rattle.dwarf_types.specs.SeenLines.{file_seen}
use Rattle.link_graph.specs.PoolFiles.{listed_file, number_of}
use Rattle.clone_units.specs.Sourced.{files_seen}
use Rattle.clone_units.proofs.source_numbers.add_numbers.Goals as goal

pub loop-i-preserved : goal.loop-i-preserved
loop-i-preserved c =
    let files = files_seen c.args.files.now in
    let number = λ (file : FileName). number_of files (listed_file c.args.seen.now c.args.unit.now c.args.lines.now file) in
    let items = c.args.lines.now.files in
    let rest = map number (drop (c.loop-i.i + 1) items) in
    ap (λ (ns : List (Option ℕ)). ns ++ rest) (c.in_ok-push.ensures.ok ∙ ap (λ (n : Option ℕ). c.loop-i.numbers ++ n ∷ []) (c.number_of-number.ensures ∙ ap (number_of files) c.listed_file.ensures))
    ∙ append_assoc c.loop-i.numbers (number (file_seen c.file.result) ∷ []) rest
    ∙ ap (λ (fs : List FileName). c.loop-i.numbers ++ map number fs) (sym (drop_one items c.loop-i.i (file_seen c.file.result) (omega (arith, c.loop-i-test.true, c.len-i-end.ensures)) c.file.ensures.item)) ∙ c.loop-i.invariant
