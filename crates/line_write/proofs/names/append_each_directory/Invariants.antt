use Rattle.std.proofs.Common.{ℕ, List, drop}
use Rattle.std.specs.List.{flat_map}
use Rattle.dwarf_types.specs.LineTable.{directory_entry}
use Rattle.patches.specs.Filling.{Holey}
use Rattle.line_write.specs.Named.{AppendsNamed}
use Rattle.line_write.proofs.names.append_each_directory.Given as goal

-- what is left makes the rest
abbrev pub invariant-loop-i : goal.invariant-loop-i
invariant-loop-i l = (new : Holey) (after : List (List ℕ))
    → AppendsNamed l.out new l.names after (λ text. flat_map (directory_entry text) (drop l.i l.dirs)) ((drop l.i l.dirs))
    → AppendsNamed l.fn.out new l.fn.names after (λ text. flat_map (directory_entry text) l.dirs) (l.dirs)
