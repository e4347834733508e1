use Rattle.std.proofs.Common.{ℕ, List, drop, map}
use Rattle.std.specs.List.{flat_map}
use Rattle.dwarf_types.specs.LineTable.{file_entry}
use Rattle.patches.specs.Filling.{Holey}
use Rattle.line_write.specs.Named.{AppendsNamed}
use Rattle.line_write.proofs.names.append_each_file.Given as goal

-- what is left makes the rest
abbrev pub invariant-loop-i : goal.invariant-loop-i
invariant-loop-i l = (new : Holey) (after : List (List ℕ))
    → AppendsNamed l.out new l.names after (λ text. flat_map (file_entry text l.digests) (drop l.i l.files)) (map (λ file. file.name) (drop l.i l.files))
    → AppendsNamed l.fn.out new l.fn.names after (λ text. flat_map (file_entry text l.digests) l.files) (map (λ file. file.name) l.files)
