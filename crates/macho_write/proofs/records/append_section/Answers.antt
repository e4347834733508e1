use Rattle.std.proofs.Common.{append_assoc}
use Rattle.macho_write.proofs.records.append_section.Goals as goal

pub returns : goal.returns
returns c =
    rw (c.in_ok-append_words.ensures, c.in_ok-append_longs.ensures, c.in_ok-append_name-2.ensures, c.in_ok-append_name.ensures, c.from-5.ensures, c.from-4.ensures, c.from-3.ensures, c.from-2.ensures, c.from.ensures)
    (simp append_assoc)
