use Rattle.std.proofs.Common.{◌+◌, ◌∙◌, ap, arith}
use Rattle.layout.specs.Sections.{content_bytes}
use Rattle.layout.proofs.SectionLengths.{layout_sizes}
use Rattle.section_write.proofs.SubRooms.{part_adds}
use Rattle.section_write.proofs.sections.add_section.Goals as goal

pub returns : goal.returns
returns g c = λ graph measured.
    let size = c.section_size.ensures ∙ layout_sizes graph c.args.layout.now measured c.args.section.now.content in
    part_adds c.args.room.now c.fill_section.new.room (content_bytes graph c.args.section.now.content) c.args.at (c.args.at + c.section_size.result) (omega (arith, c.requires.fits, c.section_size.ensures)) (ap (λ n. c.args.at + n) size)
    (c.fill_section.ensures graph measured)
