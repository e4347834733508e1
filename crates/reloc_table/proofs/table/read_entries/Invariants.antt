use Rattle.std.proofs.Common.{◌≡◌, ◌*◌, ◌-◌, drop}
use Rattle.macho_read.specs.Symbols.{each}
use Rattle.macho_read.proofs.Gathering.{behind}
use Rattle.reloc_table.specs.Relocation.{reloc_of}
use Rattle.reloc_table.proofs.table.read_entries.Given as goal

-- what is read from here on, behind what was read, is what is read in all
abbrev pub invariant-loop-i : goal.invariant-loop-i
invariant-loop-i l =
    behind l.relocs.items (each (λ i. reloc_of l.image l.section l.part i (drop (8 * i) l.table)) (l.section.nreloc - l.i) l.i)
    ≡ each (λ i. reloc_of l.image l.section l.part i (drop (8 * i) l.table)) l.section.nreloc 0
