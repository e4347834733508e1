use Rattle.std.proofs.Common.{ℕ, List, [], ◌+◌, ◌∷◌, drop, map, append-nil, arith, subst, sym}
use Rattle.std.specs.List.{flat_map}
use Rattle.std.proofs.lemmas.List.{drop_all}
use Rattle.ds_base.proofs.Walking.{drop_one}
use Rattle.dwarf_types.specs.declared.lines.FileName.{FileName}
use Rattle.dwarf_types.specs.LineTable.{file_entry}
use Rattle.dwarf_types.specs.SeenLines.{file_seen}
use Rattle.patches.specs.Filling.{filled}
use Rattle.line_write.specs.Named.{AppendsNamed}
use Rattle.line_write.proofs.Naming.{named_more, names_none}
use Rattle.line_write.proofs.names.append_each_file.Goals as goal

pub loop-i-preserved : goal.loop-i-preserved
loop-i-preserved c = λ new after rest.
    let files = c.args.files.now in
    let i = c.loop-i.i in
    let left = drop (i + 1) files in
    let both = named_more c.loop-i.out c.append_file.new.out new (λ (text : List ℕ → ℕ). file_entry text c.args.digests (file_seen c.file.result)) (λ text. flat_map (file_entry text c.args.digests) left) c.loop-i.names c.append_file.new.names after
    (c.file.result.name.now ∷ []) (map (λ file. file.name) left) c.in_ok-append_file.ensures rest in
    c.loop-i.invariant new after (subst (λ (xs : List (FileName)). AppendsNamed c.loop-i.out new c.loop-i.names after (λ text. flat_map (file_entry text c.args.digests) xs) (map (λ file. file.name) xs)) (sym (drop_one files i (file_seen c.file.result) (omega (arith, c.loop-i-test.true, c.len-i-end.ensures)) c.file.ensures.item)) both)

pub returns : goal.returns
returns c =
    let new = c.loop-i.out in
    let after = c.loop-i.names in
    c.loop-i.invariant new after (subst (λ (xs : List (FileName)). AppendsNamed new new after after (λ text. flat_map (file_entry text c.args.digests) xs) (map (λ file. file.name) xs)) (sym (drop_all c.loop-i.i c.args.files.now (omega (arith, c.loop-i-test.false, c.len-i-end.ensures))))
    (names_none new new after [] (λ f. sym (append-nil (filled new f)))))
