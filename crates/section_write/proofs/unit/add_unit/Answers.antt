use Rattle.std.proofs.Common.{◌+◌, ◌∙◌, ap, sym}
use Rattle.section_write.specs.Emitting.{bytes_in}
use Rattle.section_write.proofs.Drafts.{some_draft, unit_size}
use Rattle.section_write.proofs.SubRooms.{part_adds}
use Rattle.section_write.proofs.unit.add_unit.Goals as goal

pub returns : goal.returns
returns c = λ graph it measured here.
    let draft = some_draft c.args.layout.now.drafts c.args.unit c.requires.within in
    let size = c.requires.size draft.0 draft.1 ∙ sym (unit_size graph c.args.layout.now c.args.unit it draft.0 measured here draft.1) in
    part_adds c.args.room.now c.emit_unit.new.room (bytes_in graph c.args.unit it) c.args.at (c.args.at + c.args.size) c.requires.fits (ap (λ n. c.args.at + n) size) (c.emit_unit.ensures graph it measured here)
