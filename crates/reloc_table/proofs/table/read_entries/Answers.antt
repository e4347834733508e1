use Rattle.std.proofs.Common.{◌*◌, drop, arith, ◌∙◌, sym, ap}
use Rattle.macho_read.proofs.Gathering.{each_more}
use Rattle.reloc_table.specs.Relocation.{reloc_of}
use Rattle.reloc_table.proofs.table.read_entries.Goals as goal

pub loop-i-preserved : goal.loop-i-preserved
loop-i-preserved c =
    rw c.in_ok-push.ensures.items (each_more (λ i. reloc_of c.args.image.now c.args.section.now c.args.part i (drop (8 * i) c.args.table.now)) c.args.section.now.nreloc c.loop-i.i c.loop-i.relocs.items c.in_ok-read_reloc.field-0 _ (omega arith) (sym (ap (reloc_of c.args.image.now c.args.section.now c.args.part c.loop-i.i) c.bytes_from-entry.ensures.is) ∙ c.in_ok-read_reloc.ensures) c.loop-i.invariant)
