use Rattle.std.proofs.Common.{◌++◌, List, ℕ, ap, ◌∙◌}
use Rattle.ds_base.specs.MachONumbers.{SEG_DWARF}
use Rattle.macho_read.specs.Spelling.{padded, section_fields, spelled}
use Rattle.macho_write.proofs.Padding.{padded_once}
use Rattle.dsym_write.specs.Bundle.{dwarf_section, name_of_part}
use Rattle.dsym_write.proofs.Told.{name_short}
use Rattle.dsym_write.proofs.dwarf.append_part.Goals as goal

pub returns : goal.returns
returns c =
    let part = c.args.part in
    let named = ap padded c.section_name.ensures ∙ padded_once (name_of_part part) (name_short part) in
    let numbers = spelled (section_fields (record (dwarf_section c.args.addr c.args.offset part c.args.size) { reloff = c.args.reloff; nreloc = c.args.nreloc })) in
    c.in_ok-append_section.ensures ∙ ap (λ (name : List ℕ). c.args.out.now ++ ((name ++ padded SEG_DWARF) ++ numbers)) named
