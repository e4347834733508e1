use Rattle.std.proofs.Common.{◌≡◌, ◌-◌, drop}
use Rattle.reloc_table.specs.Table.{all_apart}
use Rattle.reloc_table.proofs.table.check_apart.Given as goal

-- what is found from the one before on is what is found in all
abbrev pub invariant-loop-i : goal.invariant-loop-i
invariant-loop-i l = all_apart l.part (drop (l.i - 1) l.relocs) ≡ all_apart l.part l.relocs
