use Rattle.std.proofs.Common.{None, Some}
use Rattle.addr_map.specs.Entries.{places}
use Rattle.addr_map.proofs.Sections.{end_next, end_section}
use Rattle.addr_map.proofs.Next.{next_from}
use Rattle.addr_map.proofs.entry.find_end.Goals as goal

pub returns-in-Some-next_address : goal.returns-in-Some-next_address
returns-in-Some-next_address c =
    end_next c.args.image.now c.args.size c.args.section c.args.start c.in-Some-next_address.next c.in_default.is
    (next_from c.args.section c.args.start (places c.args.image.now) c.args.places.now (Some c.in-Some-next_address.next) c.requires.same c.in-Some-next_address.ensures)

pub returns-in-None : goal.returns-in-None
returns-in-None c =
    end_section c.args.image.now c.args.size c.find_section_end.result c.args.section c.args.start c.in_default.is
    (next_from c.args.section c.args.start (places c.args.image.now) c.args.places.now None c.requires.same c.in-None.ensures) c.find_section_end.ensures
