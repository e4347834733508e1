use Rattle.std.proofs.Common.{◌*◌, ◌∙◌, drop, ap, sym, subst, List}
use Rattle.reloc_table.specs.declared.relocation.Reloc.{Reloc}
use Rattle.reloc_table.specs.Sound.{IsSound}
use Rattle.reloc_table.specs.Table.{all_apart}
use Rattle.reloc_table.proofs.Soundness.{relocs_sound}
use Rattle.reloc_table.proofs.table.read_relocs.Goals as goal

pub returns-clause-sound : goal.returns-clause-sound
returns-clause-sound c =
    let order = c.in_ok-sort_by_place.ensures in
    let list = c.deref.ensures.value ∙ order in
    subst (λ (rs : List Reloc). IsSound c.args.image.now (record { list = rs })) (sym (c.from_vec.ensures ∙ order))
    (relocs_sound c.args.image.now c.args.section.now c.args.part (λ i. drop (8 * i) c.in_ok-table.table.now) c.args.section.now.nreloc c.in_ok-relocs.relocs.items c.in_ok-relocs.ensures (sym (ap (all_apart c.args.part) list) ∙ c.in_ok-check_apart.ensures))
