use Rattle.std.proofs.Common.{ℕ, List, [], ◌+◌, ◌∷◌, drop, append-nil, arith, subst, sym}
use Rattle.std.specs.List.{flat_map}
use Rattle.std.proofs.lemmas.List.{drop_all}
use Rattle.ds_base.proofs.Walking.{drop_one}
use Rattle.dwarf_types.specs.LineTable.{directory_entry}
use Rattle.patches.specs.Filling.{filled}
use Rattle.line_write.specs.Named.{AppendsNamed}
use Rattle.line_write.proofs.Naming.{named_more, names_none}
use Rattle.line_write.proofs.names.append_each_directory.Goals as goal

pub loop-i-preserved : goal.loop-i-preserved
loop-i-preserved c = λ new after rest.
    let dirs = c.args.dirs.now in
    let i = c.loop-i.i in
    let left = drop (i + 1) dirs in
    let both = named_more c.loop-i.out c.append_place.new.out new (λ (text : List ℕ → ℕ). directory_entry text c.path.result.now) (λ text. flat_map (directory_entry text) left) c.loop-i.names c.append_place.new.names after
    (c.path.result.now ∷ []) (left) c.in_ok-append_place.ensures rest in
    c.loop-i.invariant new after (subst (λ (xs : List (List ℕ)). AppendsNamed c.loop-i.out new c.loop-i.names after (λ text. flat_map (directory_entry text) xs) (xs)) (sym (drop_one dirs i c.path.result.now (omega (arith, c.loop-i-test.true, c.len-i-end.ensures)) c.path.ensures.item)) both)

pub returns : goal.returns
returns c =
    let new = c.loop-i.out in
    let after = c.loop-i.names in
    c.loop-i.invariant new after (subst (λ (xs : List (List ℕ)). AppendsNamed new new after after (λ text. flat_map (directory_entry text) xs) (xs)) (sym (drop_all c.loop-i.i c.args.dirs.now (omega (arith, c.loop-i-test.false, c.len-i-end.ensures))))
    (names_none new new after [] (λ f. sym (append-nil (filled new f)))))
